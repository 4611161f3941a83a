-- What a call about a place answers: the refusal of the check that declines, or what the word gives.
--
-- reply_declines, reply_answers == any of the six calls
-- move_declines, move_answers == its number alone
-- cross_answers, along_answers == the place of the position that was found
-- point_answers, area_answers  == the number that was found
-- Assumes nothing.
use mathlib.Core.Path.{◌≡◌, refl, ap, ◌∙◌}
use mathlib.Core.List.{List}
use Prim.Native.Nat.{ℕ, pred, ◌+◌, ◌-◌}
use native.Mathlib.Omega.{arith}
use Rattle.answers.specs.Answer.{answer, refused_with, Reply, plain}
use Rattle.words.specs.Brackets.{step, number}
use Rattle.words.specs.declared.family.Family.TheVariants.{Round as round, Square as square}
use Rattle.words.specs.Word.{seen, mate_in}
use Rattle.drawing.specs.Session.{Call}
use Rattle.format.specs.Bytes.{size_in, bits_a, word_in}
use Rattle.format.specs.Calls.{move_in, reply_in, map_answer}
use Rattle.opening.specs.Checks.{place_check}
use Rattle.opening.proofs.Passed.{place_declines, place_answers}

module _ (s : List ℕ) (i : ℕ) (c : Call) where
  pub reply_declines : (k : ℕ) (xs : List ℕ) → refused_with k xs ≡ place_check s i → refused_with k xs ≡ map_answer s c i
  unfolding map_answer
  reply_declines k xs e = place_declines s i (answer (reply_in (word_in s) c (pred i))) k xs e

  pub move_declines : (k : ℕ) (xs : List ℕ) → refused_with k xs ≡ place_check s i → refused_with k xs ≡ plain (map_answer s c i)
  move_declines k xs e = ap plain (reply_declines k xs e)

  module _ (e : answer (tt {0}) ≡ place_check s i) where
    pub reply_answers : (r : Reply) → r ≡ reply_in (word_in s) c (i - 1) → answer r ≡ map_answer s c i
    unfolding map_answer
    reply_answers r h =
        let p : i - 1 ≡ pred i = omega arith in
        ap answer (h ∙ ap (reply_in (word_in s) c) p) ∙ place_answers s i e (answer (reply_in (word_in s) c (pred i)))

    pub move_answers : (x : ℕ) → x ≡ move_in (word_in s) c (i - 1) → answer x ≡ plain (map_answer s c i)
    move_answers x h = ap answer h ∙ ap plain (reply_answers (reply_in (word_in s) c (i - 1)) refl)

module _ (s : List ℕ) (i : ℕ) (e : answer (tt {0}) ≡ place_check s i) (r : ℕ) where
  pub cross_answers : r ≡ mate_in (word_in s) (i - 1) → answer (r + 1) ≡ plain (map_answer s Call.cross i)
  unfolding move_in
  cross_answers h = move_answers s i Call.cross e (r + 1) (omega arith)

  pub along_answers : r ≡ step (seen square (word_in s)) (bits_a (size_in s)) (i - 1) → answer (r + 1) ≡ plain (map_answer s Call.along i)
  unfolding move_in word_in
  along_answers h = move_answers s i Call.along e (r + 1) (omega arith)

  pub point_answers : r ≡ number (seen round (word_in s)) (i - 1) → answer r ≡ plain (map_answer s Call.point i)
  unfolding move_in
  point_answers h = move_answers s i Call.point e r h

  pub area_answers : r ≡ number (seen square (word_in s)) (i - 1) → answer r ≡ plain (map_answer s Call.area i)
  unfolding move_in
  area_answers h = move_answers s i Call.area e r h
