-- What a caller of `parse` may use: the first entries of the lists are the drawing that was read.
--
-- parsed_lists    == after the answer m, the first 2m turning entries and m marks are those of the drawing read; m is at most 2,048
-- parsed_declined == after a refusal, which is 17, the text is refused with it
-- Assumes nothing.
use mathlib.Core.Path.{◌≡◌, refl, sym, ◌∙◌, ap}
use mathlib.Core.List.{List, []}
use Prim.Native.Nat.{ℕ, ◌*◌, ◌≤◌}
use native.Mathlib.Omega.{arith}
use lib.ListN.{length, take, drop}
use lib.Seq.{take_at}
use Rattle.answers.specs.Answer.{told, Answer, answer, refused_with, refused}
use Rattle.answers.specs.Lent.{laid, leaves}
use Rattle.drawing.specs.Drawing.{Drawing, borders}
use Rattle.text.specs.Input.{read_text}
use Rattle.text.proofs.Exact.{text_denotes, refuses_17}

pub parsed_lists : (s t k t' k' : List ℕ) (m : ℕ) → answer m ≡ told borders (read_text s)
    → t' ≡ leaves (λ (D : Drawing). laid D.turning) (read_text s) t → k' ≡ leaves (λ (D : Drawing). laid D.marks) (read_text s) k
    → (m ≤ 2048) × (read_text s ≡ answer (record { turning = take (2 * m) t'; marks = take m k'; start = 0 }))
unfolding borders leaves
parsed_lists s t k t' k' m = of_answer (read_text s) refl
  where
    of_answer : (a : Answer Drawing) → read_text s ≡ a → answer m ≡ told borders a → t' ≡ leaves (λ (D : Drawing). laid D.turning) a t → k' ≡ leaves (λ (D : Drawing). laid D.marks) a k
        → (m ≤ 2048) × (read_text s ≡ answer (record { turning = take (2 * m) t'; marks = take m k'; start = 0 }))
    of_answer (refused_with x xs) q c ht hk = let z : ◌≡◌ {A = ℕ} 0 1 = cc in absurd (omega arith)
    of_answer (answer D) q c ht hk =
        let d = text_denotes s D q in
        let e : m ≡ length D.marks = cc in
        let te : take (2 * m) t' ≡ D.turning
        = ap (take (2 * m)) ht ∙ take_at D.turning (drop (length D.turning) t) (2 * m) (omega (arith, d.half)) in
        let ke : take m k' ≡ D.marks = ap (take m) hk ∙ take_at D.marks (drop (length D.marks) k) m (sym e) in
        (omega (arith, d.few), q ∙ ap answer (λ i. record { turning = sym te i; marks = sym ke i; start = d.start i }))

pub parsed_declined : (s : List ℕ) (x : ℕ) → refused x ≡ told borders (read_text s) → (x ≡ 17) × (read_text s ≡ refused 17)
parsed_declined s x = of_answer (read_text s) refl
  where
    of_answer : (a : Answer Drawing) → read_text s ≡ a → refused x ≡ told borders a → (x ≡ 17) × (read_text s ≡ refused 17)
    of_answer (answer D) q c = let z : ◌≡◌ {A = ℕ} 0 1 = cc in absurd (omega arith)
    of_answer (refused_with y xs) q c =
        let n : xs ≡ [] = cc in
        let r : read_text s ≡ refused y = q ∙ ap (refused_with y) n in
        let e : y ≡ 17 = (refuses_17 s y r).0 in
        let f : x ≡ y = cc in
        (f ∙ e, r ∙ ap refused e)
