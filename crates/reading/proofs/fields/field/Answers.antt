-- `reading::fields::field` meets its contract. Assumes nothing.
use Rattle.reading.proofs.Numbers.{field_missing, field_differs, field_ends}
use Rattle.reading.proofs.fields.field.Goals as goal

pub returns-in_err-number : goal.returns-in_err-number
returns-in_err-number c = rw c.from_residual.ensures (field_missing _ _ _ c.in_err-number.ensures)

pub returns-in_err-rest : goal.returns-in_err-rest
returns-in_err-rest c = rw c.from_residual-in_err-rest.ensures (field_differs _ _ _ _ c.in_ok-number.ensures c.in_err-rest.ensures.cases)

pub returns : goal.returns
returns c = field_ends _ _ _ _ c.in_ok-number.ensures _ c.in_ok-rest.ensures.cases.0 c.in_ok-rest.ensures.cases.1
