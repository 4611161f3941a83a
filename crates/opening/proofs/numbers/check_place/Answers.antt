-- `opening::numbers::check_place` meets its contract. Assumes nothing.
use mathlib.Core.Path.{◌≡◌}
use Rattle.answers.proofs.Passing.{passed_up}
use Rattle.answers.specs.Answer.{answer}
use Rattle.opening.specs.Checks.{open_check}
use Rattle.opening.proofs.Refused.{place_refused, place_zero, place_far, place_in}
use Rattle.opening.proofs.numbers.check_place.Goals as goal

pub returns-in_err-check : goal.returns-in_err-check
returns-in_err-check c = passed_up _ _ _ _ c.from_residual.ensures.1 (place_refused _ _ _ _ c.in_err-check.ensures.value)

pub returns-then-at-eq0 : goal.returns-then-at-eq0
returns-then-at-eq0 c = let h : answer (tt {0}) ≡ open_check c.args.map.now = c.in_ok-check.ensures.value in search place_zero

pub returns-then-bits_a-at : goal.returns-then-bits_a-at
returns-then-bits_a-at c = let h : answer (tt {0}) ≡ open_check c.args.map.now = c.in_ok-check.ensures.value in search place_far

pub returns : goal.returns
returns c = let h : answer (tt {0}) ≡ open_check c.args.map.now = c.in_ok-check.ensures.value in search place_in
