-- `bits::runs::field` meets its contract. Assumes nothing.
use Rattle.bits.proofs.Fields.{field_read}
use Rattle.bits.proofs.runs.field.Goals as goal

pub returns : goal.returns
returns c = field_read _ _ _ _ _ c.min.ensures c.four_from.ensures.0
