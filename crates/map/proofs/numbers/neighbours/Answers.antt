-- `map::numbers::neighbours` meets its contract. Assumes nothing.
use mathlib.Core.Path.{◌≡◌}
use Rattle.answers.specs.Answer.{answer, Kind}
use Rattle.answers.proofs.Passing.{passed_up}
use Rattle.opening.specs.Checks.{cell_check}
use Rattle.walking.proofs.Checked.{cell_numbered}
use Rattle.map.proofs.Cells.{neighbours_decline, neighbours_answer}
use Rattle.map.proofs.numbers.neighbours.Goals as goal

pub returns-in_err-check_cell : goal.returns-in_err-check_cell
returns-in_err-check_cell c = passed_up _ _ _ _ c.from_residual.ensures.1 (neighbours_decline _ _ _ _ c.in_err-check_cell.ensures)

pub neighbours_at-requires : goal.neighbours_at-requires
neighbours_at-requires c = let h : answer (tt {0}) ≡ cell_check c.args.map.now Kind.area c.args.area.0 = c.in_ok-check_cell.ensures in search cell_numbered

pub returns : goal.returns
returns c = let h : answer (tt {0}) ≡ cell_check c.args.map.now Kind.area c.args.area.0 = c.in_ok-check_cell.ensures in search neighbours_answer
