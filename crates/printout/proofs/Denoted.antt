-- A text that was read, and the drawing in the lists.
--
-- Denoted s m t k  == the text s denotes the drawing of the first 2m entries of t and the first m marks of k, which are at most 2,048
-- read_denoted     == it does where reading answers m
-- denoted_printed, declined_printed == what `places` prints for such a text, and for another
-- places_within    == what is printed is within the memory lent
-- places_cut       == what is printed for a text is what is printed for its first 43,034 bytes
-- Assumes nothing.
use mathlib.Core.Path.{◌≡◌, refl, sym, ap, ◌∙◌}
use mathlib.Core.List.{List}
use Prim.Native.Nat.{ℕ, ◌*◌, ◌≤◌}
use native.Mathlib.Omega.{arith}
use lib.ListN.{length, take, drop, length-append}
use lib.Seq.{take_at}
use Rattle.answers.specs.Answer.{told, Answer, answer, refused_with}
use Rattle.answers.specs.Lent.{laid, leaves}
use Rattle.answers.specs.Means.{number, carried, parsed_means}
use Rattle.answers.specs.declared.refusal.Refusal.{Refusal}
use Rattle.std.specs.Prelude.{Result, Ok, Err}
use Rattle.drawing.specs.Drawing.{Drawing, borders, lent}
use Rattle.text.specs.Input.{Denotes, read_text}
use Rattle.text.specs.Listing.{refused_line, listed, packed, places_of}
use Rattle.text.proofs.Exact.{text_denotes}
use Rattle.text.proofs.Short.{cut_same}
use Rattle.printing.proofs.Stands.{Stands, stands_within}

pub record Denoted (s : List ℕ) (m : ℕ) (t k : List ℕ) : Type 0 where
  pub few : m ≤ 2048
  pub ends_within : 2 * m ≤ length t
  pub marks_within : m ≤ length k
  pub drawing : read_text s ≡ answer (lent (take (2 * m) t) (take m k) 0)

module _ (s t k t' k' : List ℕ) (m : ℕ) where
  read_as : (a : Answer Drawing) → read_text s ≡ a → answer m ≡ told borders a → t' ≡ leaves (λ (D : Drawing). laid D.turning) a t → k' ≡ leaves (λ (D : Drawing). laid D.marks) a k → Denoted s m t' k'
  unfolding borders leaves
  read_as (answer D) r e ht hk =
      let N : Denotes s D = text_denotes s D r in
      let n : m ≡ length D.marks = cc in
      let l : length D.turning ≡ 2 * m = omega (arith, N.half) in
      let a : take (2 * m) t' ≡ D.turning = ap (take (2 * m)) ht ∙ take_at D.turning (drop (length D.turning) t) (2 * m) l in
      let b : take m k' ≡ D.marks = ap (take m) hk ∙ take_at D.marks (drop (length D.marks) k) m (sym n) in
      let d : D ≡ lent (take (2 * m) t') (take m k') 0 = λ i. record { turning = sym a i; marks = sym b i; start = N.start i } in
      record {
        few = omega (arith, N.few);
        ends_within = rw ht (omega (arith, length-append D.turning (drop (length D.turning) t)));
        marks_within = rw hk (omega (arith, length-append D.marks (drop (length D.marks) k)));
        drawing = r ∙ ap answer d;
      }
  read_as (refused_with j xs) r e ht hk = let z : ◌≡◌ {A = ℕ} 0 1 = cc in absurd (omega arith)

  pub read_denoted : (r : Result ℕ Refusal) → r ≡ Ok m → parsed_means r ≡ told borders (read_text s) → t' ≡ leaves (λ (D : Drawing). laid D.turning) (read_text s) t
      → k' ≡ leaves (λ (D : Drawing). laid D.marks) (read_text s) k → Denoted s m t' k'
  read_denoted r i e ht hk = read_as (read_text s) refl (sym (ap parsed_means i) ∙ e) ht hk

pub denoted_printed : (s t k : List ℕ) (m : ℕ) → Denoted s m t k → places_of s ≡ listed (packed (answer (lent (take (2 * m) t) (take m k) 0)))
unfolding places_of
denoted_printed s t k m N = ap (λ a. listed (packed a)) N.drawing

declined_is : (k : ℕ) (xs : List ℕ) (a : Answer Drawing) → refused_with k xs ≡ told borders a → a ≡ refused_with k xs
declined_is k xs (answer D) e = let z : ◌≡◌ {A = ℕ} 0 1 = cc in absurd (omega arith)
declined_is k xs (refused_with j ys) e = cc

pub declined_printed : (s : List ℕ) (r : Result ℕ Refusal) (x : Refusal) (k : ℕ) → r ≡ Err x → k ≡ number x → parsed_means r ≡ told borders (read_text s) → places_of s ≡ refused_line k
unfolding places_of listed packed
declined_printed s r x k i n e =
    ap (λ a. listed (packed a)) (declined_is (number x) (carried x) (read_text s) (sym (ap parsed_means i) ∙ e)) ∙ ap refused_line (sym n)

pub places_within : (s old new : List ℕ) (r : ℕ) → Stands (places_of s) r old new → r ≤ length new
places_within s old new r S = stands_within old new r (places_of s) S

-- the program reads no more than 43,034 bytes
pub places_cut : (s : List ℕ) → places_of (take 43034 s) ≡ places_of s
unfolding places_of
places_cut s = ap (λ a. listed (packed a)) (cut_same s)
