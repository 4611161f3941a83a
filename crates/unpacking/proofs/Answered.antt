-- What unpacking answers and leaves in the lists: it declines, or the lists hold the drawing of the word.
--
-- Outcome s t k a t' k' == a is the answer for the bytes s and the lists t and k, and t' and k' are the lists after it
-- unpack_declines  == opening's refusal
-- unpack_short_turning, unpack_short_marks == 16
-- unpack_answers   == m, and the drawing
-- Assumes nothing.
use mathlib.Core.Path.{◌≡◌, sym, ap, ◌∙◌}
use mathlib.Core.Bool.{Bool, true, false, ◌&&◌}
use mathlib.Core.List.{List, []}
use Prim.Native.Nat.{ℕ, ◌*◌, ◌<◌, ◌≤◌}
use native.Mathlib.Omega.{arith}
use borrow.Author.Tests.{leb-true, le-leb}
use lib.Dec.{leb}
use lib.ListN.{length}
use Rattle.count.specs.Below.{pick}
use Rattle.count.proofs.Logic.{both, not_both, pick_yes, pick_no}
use Rattle.answers.specs.Answer.{Answer, answer, refused_with, refused, told}
use Rattle.answers.specs.Lent.{laid, leaves}
use Rattle.drawing.specs.Drawing.{Drawing, borders}
use Rattle.format.specs.Bytes.{size_in, word_in}
use Rattle.answers.proofs.Passing.{declines}
use Rattle.format.specs.Open.{open_checks}
use Rattle.format.proofs.Passes.{opened_opens, opened}
use Rattle.opening.specs.Checks.{open_check}
use Rattle.opening.proofs.Passed.{open_passes}
use Rattle.format.specs.Pack.{drawing_of, unpack_of}
use Rattle.roundtrip.proofs.Drawing.{drawing_half}
use Rattle.unpacking.proofs.Placed.{nested_in}

abbrev pub Outcome : List ℕ → List ℕ → List ℕ → Answer ℕ → List ℕ → List ℕ → Type 0
Outcome s t k a t' k' =
    (a ≡ told borders (unpack_of s (length t) (length k)))
    × ((t' ≡ leaves (λ (D : Drawing). laid D.turning) (unpack_of s (length t) (length k)) t)
    × (k' ≡ leaves (λ (D : Drawing). laid D.marks) (unpack_of s (length t) (length k)) k))

module _ (s t k : List ℕ) where
  declined : (x : ℕ) (xs : List ℕ) → unpack_of s (length t) (length k) ≡ refused_with x xs → Outcome s t k (refused_with x xs) t k
  unfolding leaves
  declined x xs h = (sym (ap (told borders) h), (sym (ap (λ a. leaves (λ (D : Drawing). laid D.turning) a t) h), sym (ap (λ a. leaves (λ (D : Drawing). laid D.marks) a k) h)))

  -- the lists have room
  roomy : Bool
  roomy = leb (2 * (size_in s).m) (length t) && leb (size_in s).m (length k)

  pub unpack_declines : (x : ℕ) (xs : List ℕ) → refused_with x xs ≡ open_check s → Outcome s t k (refused_with x xs) t k
  unfolding unpack_of open_check
  unpack_declines x xs e = declined x xs (sym (declines (open_checks s) _ x xs e))

  module _ (m : ℕ) (h : m ≡ (size_in s).m) (e : answer (tt {0}) ≡ open_check s) where
    own : unpack_of s (length t) (length k) ≡ pick roomy (answer (drawing_of (word_in s))) (refused 16)
    unfolding unpack_of roomy opened
    own = opened_opens s (pick roomy (answer (drawing_of (word_in s))) (refused 16)) (open_passes s e)

    short : roomy ≡ false → Outcome s t k (refused 16) t k
    short f = declined 16 [] (own ∙ pick_no roomy (answer (drawing_of (word_in s))) (refused 16) f)

    pub unpack_short_turning : length t < 2 * m → Outcome s t k (refused 16) t k
    unfolding roomy
    unpack_short_turning l =
        short (not_both (leb (2 * (size_in s).m) (length t)) (leb (size_in s).m (length k))
        (λ x y. let g = leb-true (2 * (size_in s).m) (length t) x in omega arith))

    pub unpack_short_marks : length k < m → Outcome s t k (refused 16) t k
    unfolding roomy
    unpack_short_marks l =
        short (not_both (leb (2 * (size_in s).m) (length t)) (leb (size_in s).m (length k))
        (λ x y. let g = leb-true (size_in s).m (length k) y in omega arith))

    -- o: the bytes that open, as they were given back
    pub unpack_answers : (o t' k' : List ℕ) → o ≡ s → 2 * m ≤ length t → m ≤ length k
        → t' ≡ laid (drawing_of (word_in o)).turning t → k' ≡ laid (drawing_of (word_in o)).marks k → Outcome s t k (answer m) t' k'
    unfolding roomy word_in leaves
    unpack_answers o t' k' same a b hto hko =
        let D = drawing_of (word_in s) in
        let ht : t' ≡ laid D.turning t = hto ∙ ap (λ x. laid (drawing_of (word_in x)).turning t) same in
        let hk : k' ≡ laid D.marks k = hko ∙ ap (λ x. laid (drawing_of (word_in x)).marks k) same in
        let r : roomy ≡ true
        = both (leb (2 * (size_in s).m) (length t)) (leb (size_in s).m (length k))
        (le-leb (2 * (size_in s).m) (length t) (omega arith)) (le-leb (size_in s).m (length k) (omega arith)) in
        let u : unpack_of s (length t) (length k) ≡ answer D = own ∙ pick_yes roomy (answer D) (refused 16) r in
        let c : m ≡ borders D = omega (arith, drawing_half (word_in s) (nested_in s (open_passes s e))) in
        (ap answer c ∙ sym (ap (told borders) u), (ht ∙ sym (ap (λ a. leaves (λ (D : Drawing). laid D.turning) a t) u), hk ∙ sym (ap (λ a. leaves (λ (D : Drawing). laid D.marks) a k) u)))
