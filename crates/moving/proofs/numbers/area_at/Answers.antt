-- `moving::numbers::area_at` meets its contract. Assumes nothing.
use mathlib.Core.Path.{◌≡◌}
use Rattle.answers.specs.Answer.{answer}
use Rattle.answers.proofs.Passing.{passed_up}
use Rattle.opening.specs.Checks.{place_check}
use Rattle.drawing.specs.Session.{Call}
use Rattle.format.specs.Calls.{area_of}
use Rattle.opening.proofs.Passed.{place_least}
use Rattle.walking.proofs.Checked.{place_position}
use Rattle.moving.proofs.Moved.{move_declines, area_answers}
use Rattle.moving.proofs.numbers.area_at.Goals as goal

pub returns-in_err-check_place : goal.returns-in_err-check_place
unfolding area_of
returns-in_err-check_place c = passed_up _ _ _ _ c.from_residual.ensures.1 (move_declines _ _ Call.area _ _ c.in_err-check_place.ensures)

pub overflow_sub-place : goal.overflow_sub-place
overflow_sub-place c = let h : answer (tt {0}) ≡ place_check c.args.map.now c.args.place.0 = c.in_ok-check_place.ensures in search place_least

pub area_of-requires : goal.area_of-requires
area_of-requires c = let h : answer (tt {0}) ≡ place_check c.args.map.now c.args.place.0 = c.in_ok-check_place.ensures in search place_position

pub returns : goal.returns
unfolding area_of
returns c = let h : answer (tt {0}) ≡ place_check c.args.map.now c.args.place.0 = c.in_ok-check_place.ensures in search area_answers
