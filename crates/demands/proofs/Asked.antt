-- Calls on bytes that open, place by place, and what a call that answers tells.
--
-- nested        == both families of a map that opens are balanced
-- answer_at_lem, plain_at == the answer at a place of a map that opens, with its sign and without
-- Asked s i     == the map s opens, and i is one of its places
-- asked, asked_plain == so it is where a call at i answers, and it answers what the word gives there; with its sign and without
-- asked_size    == a size that is answered is the word's
-- Assumes nothing.
use mathlib.Core.Path.{◌≡◌, refl, sym, ap, ◌∙◌}
use mathlib.Core.List.{List}
use Prim.Native.Nat.{ℕ, suc, pred, ◌≤◌, ◌<◌}
use native.Mathlib.Omega.{arith}
use lib.ListN.{drop}
use Rattle.answers.specs.Answer.{answer, Reply, plain, Kind}
use Rattle.answers.proofs.Steps.{answered_all, answered_none, told_answered, none_append}
use Rattle.words.specs.Brackets.{Balanced}
use Rattle.words.specs.declared.family.Family.{Family}
use Rattle.words.specs.Word.{seen}
use Rattle.drawing.specs.Session.{Call}
use Rattle.format.specs.Bytes.{word_in}
use Rattle.format.specs.Open.{open_checks, open_refusal}
use Rattle.format.specs.Calls.{move_in, reply_in, place_checks, map_answer, cell_checks, places_in, size_of}
use Rattle.format.proofs.Decode.{passes_nested}
use Rattle.format.proofs.Passes.{opens_passes}
use Rattle.format.proofs.Orders.{place_refusals}
use Rattle.format.proofs.Places.{at_place_lem, call_opens}

module _ (s : List ℕ) where
  module _ (o : open_refusal s ≡ 0) where
    pub nested : (K : Family) → Balanced (seen K (word_in s)) (word_in s).size
    unfolding word_in
    nested = passes_nested s (opens_passes s o)

    pub answer_at_lem : (c : Call) (p : ℕ) → p < (word_in s).size → map_answer s c (suc p) ≡ answer (reply_in (word_in s) c p)
    answer_at_lem c p l = call_opens s o c (suc p) ∙ at_place_lem (word_in s) c (suc p) (omega arith) l

    pub plain_at : (c : Call) (p : ℕ) → p < (word_in s).size → plain (map_answer s c (suc p)) ≡ answer (move_in (word_in s) c p)
    plain_at c p l = ap plain (answer_at_lem c p l)

  pub record Asked (i : ℕ) : Type 0 where
    pub opens : open_refusal s ≡ 0
    pub place : suc (pred i) ≡ i
    pub below : pred i < (word_in s).size

  pub asked : (c : Call) (i : ℕ) (r : Reply) → map_answer s c i ≡ answer r → Asked i × (reply_in (word_in s) c (pred i) ≡ r)
  unfolding map_answer open_refusal
  asked c i r e =
      let x : Reply = reply_in (word_in s) c (pred i) in
      let is : x ≡ r = (answered_all (place_checks s i) x r e).1 in
      let last : 6 < 7 = omega arith in
      let at : (1 ≤ i) × (i ≤ (word_in s).size) = (place_refusals s c i).answers.0 (e ∙ ap answer (sym is)) 6 last in
      let none = none_append (open_checks s) (drop 6 (place_checks s i)) refl (answered_none (place_checks s i) x r e) in
      (record { opens = none.0; place = omega arith; below = omega arith }, is)

  pub asked_plain : (c : Call) (i x : ℕ) → plain (map_answer s c i) ≡ answer x → Asked i × (move_in (word_in s) c (pred i) ≡ x)
  asked_plain c i x e =
      let a = told_answered (λ (r : Reply). r.value) (map_answer s c i) x e in
      let A = asked c i a.0 a.1 in
      (A.0, ap (λ (r : Reply). r.value) A.1 ∙ a.2)

  pub asked_size : (c : Kind) (k d : ℕ) → size_of s c k ≡ answer d → places_in (word_in s) c k ≡ d
  unfolding size_of
  asked_size c k d e = (answered_all (cell_checks s c k) (places_in (word_in s) c k) d e).1
