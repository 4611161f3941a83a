-- `moving::moves::turn` meets its contract. Assumes nothing.
use mathlib.Core.Path.{◌≡◌}
use Rattle.answers.specs.Answer.{answer}
use Rattle.answers.proofs.Passing.{passed_up}
use Rattle.opening.specs.Checks.{place_check}
use Rattle.drawing.specs.Session.{Call}
use Rattle.format.specs.Calls.{turn_of}
use Rattle.opening.proofs.Passed.{place_least}
use Rattle.walking.proofs.Checked.{place_position}
use Rattle.moving.proofs.Moved.{reply_declines, reply_answers}
use borrow.Author.Rules.{rules}
use Rattle.moving.proofs.moves.turn.Goals as goal

pub returns-in_err-check_place : goal.returns-in_err-check_place
unfolding turn_of
returns-in_err-check_place c = passed_up _ _ _ _ c.from_residual.ensures.1 (reply_declines _ _ Call.turn _ _ c.in_err-check_place.ensures)

pub overflow_sub-p : goal.overflow_sub-p
overflow_sub-p c = let h : answer (tt {0}) ≡ place_check c.args.map.now c.args.place.0 = c.in_ok-check_place.ensures in search place_least

pub step_at-requires : goal.step_at-requires
step_at-requires c = let h : answer (tt {0}) ≡ place_check c.args.map.now c.args.place.0 = c.in_ok-check_place.ensures in search place_position

pub turn_to-requires : goal.turn_to-requires
turn_to-requires c = let h : answer (tt {0}) ≡ place_check c.args.map.now c.args.place.0 = c.in_ok-check_place.ensures in search (place_position, rules)

pub returns : goal.returns
unfolding turn_of
returns c = let h : answer (tt {0}) ≡ place_check c.args.map.now c.args.place.0 = c.in_ok-check_place.ensures in search reply_answers
