-- The whole text: what its line of names and its lines decide, and what the lent lists hold then.
--
-- Outcome s t k a t' k' == a is the answer for the text s and the lists t and k, and t' and k' are the lists after it
-- parse_unnamed   == another first line
-- parse_declined  == a line that is none, or too many of them
-- parse_reads     == where m was counted, all lines are read
-- parse_answers   == m, and the drawing
-- Assumes nothing.
use mathlib.Core.Path.{◌≡◌, refl, sym, ◌∙◌, ap}
use mathlib.Core.Bool.{true, false}
use mathlib.Core.List.{List}
use mathlib.Core.Option.{Option, none, some}
use Prim.Native.Nat.{ℕ}
use native.Mathlib.Omega.{arith}
use lib.ListN.{take, drop}
use lib.Dec.{eqb}
use Rattle.std.specs.Cmp.Lexicographic.{pointwise}
use Rattle.reading.proofs.Numbers.{prefix_differs, prefix_same}
use Rattle.answers.specs.Answer.{told, Answer, answer, refused}
use Rattle.answers.specs.Lent.{laid, leaves}
use Rattle.drawing.specs.Drawing.{borders, Drawing}
use Rattle.text.specs.Input.{names, with, Rows, read_lines, drawing_or17, read_text}
use Rattle.text.proofs.Exact.{text_is}

abbrev pub Outcome : List ℕ → List ℕ → List ℕ → Answer ℕ → List ℕ → List ℕ → Type 0
Outcome s t k a t' k' = (a ≡ told borders (read_text s)) × ((t' ≡ leaves (λ (D : Drawing). laid D.turning) (read_text s) t) × (k' ≡ leaves (λ (D : Drawing). laid D.marks) (read_text s) k))

none_of : (o : Option Rows) (x : ℕ) → refused x ≡ told borders (drawing_or17 o) → o ≡ none
none_of none x q = refl
none_of (some r) x q = let z : ◌≡◌ {A = ℕ} 0 1 = cc in absurd (omega arith)

module _ (s t k : List ℕ) where
  outcome : (o : Option Rows) (t' k' : List ℕ) → read_text s ≡ drawing_or17 o → t' ≡ leaves (λ (D : Drawing). laid D.turning) (drawing_or17 o) t → k' ≡ leaves (λ (D : Drawing). laid D.marks) (drawing_or17 o) k
      → Outcome s t k (told borders (drawing_or17 o)) t' k'
  outcome o t' k' q ht hk =
      (sym (ap (told borders) q), (ht ∙ sym (ap (λ a. leaves (λ (D : Drawing). laid D.turning) a t) q), hk ∙ sym (ap (λ a. leaves (λ (D : Drawing). laid D.marks) a k) q)))

  pub parse_unnamed : pointwise eqb (take 25 s) names ≡ false → Outcome s t k (refused 17) t k
  unfolding leaves names
  parse_unnamed h =
      outcome none t k
      (text_is s ∙ ap (λ o. drawing_or17 (with o (λ l. read_lines 2048 0 l))) (prefix_differs names s h)) refl refl

  -- l is what follows the line of names
  module _ (l : List ℕ) (h : pointwise eqb (take 25 s) names ≡ true) (d : l ≡ drop 25 s) where
    named : read_text s ≡ drawing_or17 (read_lines 2048 0 l)
    unfolding names
    named = text_is s ∙ ap (λ o. drawing_or17 (with o (λ l. read_lines 2048 0 l))) (prefix_same names s l h d)

    pub parse_declined : (x : ℕ) → refused x ≡ told borders (drawing_or17 (read_lines 2048 0 l)) → Outcome s t k (refused 17) t k
    unfolding leaves
    parse_declined x q = outcome none t k (named ∙ ap drawing_or17 (none_of (read_lines 2048 0 l) x q)) refl refl

    pub parse_answers : (m : ℕ) (t' k' : List ℕ) → answer m ≡ told borders (drawing_or17 (read_lines 2048 0 l))
        → t' ≡ leaves (λ (D : Drawing). laid D.turning) (drawing_or17 (read_lines 2048 0 l)) t → k' ≡ leaves (λ (D : Drawing). laid D.marks) (drawing_or17 (read_lines 2048 0 l)) k → Outcome s t k (answer m) t' k'
    parse_answers m t' k' q ht hk = rw q (outcome (read_lines 2048 0 l) t' k' named ht hk)

pub parse_reads : (l : List ℕ) (m : ℕ) → answer m ≡ told borders (drawing_or17 (read_lines 2048 0 l)) → read_lines 2048 0 l ≡ none → ⊥
parse_reads l m q n = let z : ◌≡◌ {A = ℕ} 0 1 = cc in omega arith
