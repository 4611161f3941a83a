-- `map::search::joining` meets its contract. Assumes nothing.
use mathlib.Core.Path.{◌≡◌}
use Rattle.answers.specs.Answer.{answer, Kind}
use Rattle.answers.proofs.Passing.{passed_up}
use Rattle.opening.specs.Checks.{cell_check}
use Rattle.walking.proofs.Checked.{cell_numbered}
use Rattle.map.proofs.Joins.{join_declines, join_no_such, join_answers}
use Rattle.map.proofs.search.joining.Goals as goal

pub returns-in_err-check_cell : goal.returns-in_err-check_cell
returns-in_err-check_cell c = passed_up _ _ _ _ c.from_residual.ensures.1 (join_declines _ _ _ _ _ c.in_err-check_cell.ensures)

pub join_at-requires : goal.join_at-requires
join_at-requires c = let h : answer (tt {0}) ≡ cell_check c.args.map.now Kind.point c.args.u.0 = c.in_ok-check_cell.ensures in search cell_numbered

pub returns : goal.returns
returns c = let h : answer (tt {0}) ≡ cell_check c.args.map.now Kind.point c.args.u.0 = c.in_ok-check_cell.ensures in search join_answers

pub returns-then-not-is_number : goal.returns-then-not-is_number
returns-then-not-is_number c = let h : answer (tt {0}) ≡ cell_check c.args.map.now Kind.point c.args.u.0 = c.in_ok-check_cell.ensures in search join_no_such
