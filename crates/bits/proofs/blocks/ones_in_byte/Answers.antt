-- `bits::blocks::ones_in_byte` meets its contract. Assumes nothing.
use Rattle.bits.proofs.Fields.{low_ones}
use Rattle.bits.proofs.blocks.ones_in_byte.Goals as goal

pub returns : goal.returns
returns c = low_ones _ _ _ _ c.requires c.byte.ensures.0
