-- `reading::fields::number` meets its contract. Assumes nothing.
use mathlib.Core.Path.{◌∙◌}
use Rattle.reading.proofs.Numbers.{stands, number_missing, number_goes_on, number_alone}
use Rattle.reading.proofs.fields.number.Goals as goal

pub returns-in_err-first : goal.returns-in_err-first
returns-in_err-first c = rw c.from_residual.ensures (number_missing _ _ c.in_err-first.ensures)

pub digits-requires : goal.digits-requires
digits-requires c = (c.requires, (stands _ _ c.in_ok-first.ensures).low)

pub returns-then-first-gt0 : goal.returns-then-first-gt0
returns-then-first-gt0 c = c.digits.ensures ∙ number_goes_on _ _ _ c.in_ok-first.ensures c.if-first-gt0.true

pub returns : goal.returns
returns c = number_alone _ _ _ c.in_ok-first.ensures c.if-first-gt0.false
