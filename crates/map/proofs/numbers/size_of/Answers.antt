-- `map::numbers::size_of` meets its contract. Assumes nothing.
use mathlib.Core.Path.{◌≡◌}
use Rattle.answers.specs.Answer.{answer}
use Rattle.answers.proofs.Passing.{passed_up}
use Rattle.opening.specs.Checks.{cell_check}
use Rattle.opening.specs.Cells.{kind_of, number_of_cell}
use Rattle.walking.proofs.Checked.{cell_numbered}
use Rattle.map.proofs.Cells.{size_declines, size_answers}
use Rattle.map.proofs.numbers.size_of.Goals as goal

pub returns-in_err-check_cell : goal.returns-in_err-check_cell
returns-in_err-check_cell c = passed_up _ _ _ _ c.from_residual.ensures.1 (size_declines _ _ _ _ _ c.in_err-check_cell.ensures)

pub size_at-requires : goal.size_at-requires
size_at-requires c = let h : answer (tt {0}) ≡ cell_check c.args.map.now (kind_of c.args.cell) (number_of_cell c.args.cell) = c.in_ok-check_cell.ensures in search cell_numbered

pub returns : goal.returns
returns c = let h : answer (tt {0}) ≡ cell_check c.args.map.now (kind_of c.args.cell) (number_of_cell c.args.cell) = c.in_ok-check_cell.ensures in search size_answers
