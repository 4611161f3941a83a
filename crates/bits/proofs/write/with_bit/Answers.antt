-- `bits::write::with_bit` meets its contract. Assumes nothing.
use Rattle.bits.proofs.Stores.{turned_fits}
use Rattle.bits.proofs.write.with_bit.Goals as goal

pub overflow_add-result : goal.overflow_add-result
overflow_add-result c = turned_fits _ _ _ c.requires _ c.from.ensures c.ranges.x
