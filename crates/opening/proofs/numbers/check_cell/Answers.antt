-- `opening::numbers::check_cell` meets its contract. Assumes nothing.
use Rattle.answers.proofs.Passing.{passed_up}
use mathlib.Core.Path.{◌≡◌}
use Rattle.answers.specs.Answer.{answer}
use Rattle.opening.specs.Checks.{open_check}
use Rattle.opening.proofs.Refused.{cell_refused, cell_in, cell_out}
use Rattle.opening.proofs.numbers.check_cell.Goals as goal

pub returns-in_err-check : goal.returns-in_err-check
returns-in_err-check c = passed_up _ _ _ _ c.from_residual.ensures.1 (cell_refused _ _ _ _ _ c.in_err-check.ensures.value)

pub returns-then-not-is_number : goal.returns-then-not-is_number
returns-then-not-is_number c = let h : answer (tt {0}) ≡ open_check c.args.map.now = c.in_ok-check.ensures.value in search cell_out

pub returns : goal.returns
returns c = let h : answer (tt {0}) ≡ open_check c.args.map.now = c.in_ok-check.ensures.value in search cell_in
