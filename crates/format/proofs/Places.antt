-- A call at a place of map bytes that open is a call at a place of the word that they hold.
--
-- at_place w c i == the call c at place i of the word w: 13, or the word's answer
-- at_place_lem, at_none == one or the other
-- call_opens    == so it is of map bytes that open
-- Assumes nothing.
use mathlib.Core.Path.{◌≡◌}
use mathlib.Core.Bool.{◌&&◌}
use mathlib.Core.List.{List}
use Prim.Native.Nat.{ℕ, pred, ◌≤◌, ◌<◌}
use lib.Dec.{ltb, leb}
use borrow.Author.Tests.{lt-ltb, le-leb, ltb-true, leb-true}
use Rattle.count.specs.Below.{pick}
use Rattle.count.proofs.Logic.{both, not_both, pick_yes, pick_no}
use Rattle.answers.specs.Answer.{Answer, answer, refused, Reply}
use Rattle.words.specs.Word.{Word}
use Rattle.drawing.specs.Session.{Call}
use Rattle.format.specs.Bytes.{word_in}
use Rattle.format.specs.Open.{open_refusal}
use Rattle.format.specs.Calls.{move_in, sign_in, reply_in, map_answer}
use Rattle.format.proofs.Passes.{opened, opened_opens}

unfoldable pub at_place : Word → Call → ℕ → Answer Reply
unfolding move_in sign_in
at_place w c i = pick (ltb 0 i && leb i w.size) (answer (reply_in w c (pred i))) (refused 13)

module _ (w : Word) (c : Call) (i : ℕ) where
  pub at_place_lem : 0 < i → i ≤ w.size → at_place w c i ≡ answer (reply_in w c (pred i))
  unfolding at_place
  at_place_lem l h =
      pick_yes (ltb 0 i && leb i w.size) (answer (reply_in w c (pred i))) (refused 13)
      (both (ltb 0 i) (leb i w.size) (lt-ltb 0 i l) (le-leb i w.size h))

  pub at_none : (0 < i → i ≤ w.size → ⊥) → at_place w c i ≡ refused 13
  unfolding at_place
  at_none n =
      pick_no (ltb 0 i && leb i w.size) (answer (reply_in w c (pred i))) (refused 13)
      (not_both (ltb 0 i) (leb i w.size) (λ g h. n (ltb-true 0 i g) (leb-true i w.size h)))

pub call_opens : (s : List ℕ) → open_refusal s ≡ 0 → (c : Call) (i : ℕ) → map_answer s c i ≡ at_place (word_in s) c i
unfolding map_answer opened at_place word_in
call_opens s o c i = opened_opens s (at_place (word_in s) c i) o
