-- A list that is filled from its beginning, entry by entry, and what is then laid on what it was.
--
-- laid_here          == the entries that are laid
-- laid_table         == a list that has f below n, and is as before from n on, is the table of f laid on what it was
-- Filled f n old p l == of n entries to fill by f, the first p are filled; from p on l is old
-- filled_start, filled_more, filled_end == before the first, one more, all
-- Assumes nothing.
use mathlib.Core.Path.{◌≡◌, refl, sym, ap, ◌∙◌}
use mathlib.Core.Logic.{inl, inr}
use mathlib.Core.List.{List}
use Prim.Native.Nat.{ℕ, ◌+◌, ◌-◌, ◌<◌, ◌≤◌}
use native.Mathlib.Omega.{arith}
use lib.ListN.{length, get_or, set, drop, length-set, length-append, length-drop, get_or-append}
use lib.Seq.{get_or-set_same, get_or-set_other, get_or-append-add, get_or-drop, ext_get_or}
use Rattle.count.specs.Below.{table}
use Rattle.count.proofs.Logic.{same_or_not, lt_or_ge}
use Rattle.count.proofs.Lists.{table_length, table_get_d}
use Rattle.answers.specs.Lent.{laid}

module _ (f : ℕ → ℕ) (n : ℕ) (old : List ℕ) where
  pub laid_here : (p : ℕ) → p < n → get_or (laid (table f n) old) p 0 ≡ f p
  laid_here p l =
      get_or-append (table f n) (drop (length (table f n)) old) 0 p (omega (arith, table_length f n)) ∙ table_get_d f n p 0 l

  laid_length : n ≤ length old → length (laid (table f n) old) ≡ length old
  laid_length r =
      omega (arith, table_length f n, length-append (table f n) (drop (length (table f n)) old), length-drop (length (table f n)) old)

  pub laid_table : (l : List ℕ) → length l ≡ length old → n ≤ length old → ((p : ℕ) → p < n → get_or l p 0 ≡ f p)
      → ((p : ℕ) → n ≤ p → get_or l p 0 ≡ get_or old p 0) → l ≡ laid (table f n) old
  laid_table l e r h g =
      ext_get_or 0 l (laid (table f n) old) (e ∙ sym (laid_length r))
      (λ x i.
      elim (lt_or_ge x n) [
        | inl c ↦ h x c ∙ sym (laid_here x c)
        | inr c ↦
            let t : length (table f n) ≡ n = table_length f n in
            let k : length (table f n) + (x - n) ≡ x = omega arith in
            g x c
            ∙ sym (ap (λ z. get_or (laid (table f n) old) z 0) (sym k)
            ∙ get_or-append-add (table f n) (drop (length (table f n)) old) (x - n) 0
            ∙ get_or-drop (length (table f n)) old (x - n) 0
            ∙ ap (λ z. get_or old z 0) k)
      ])

module _ (f : ℕ → ℕ) (n : ℕ) (old : List ℕ) where
  pub record Filled (p : ℕ) (l : List ℕ) : Type 0 where
    pub room : n ≤ length old
    pub long : length l ≡ length old
    pub done : (q : ℕ) → q < p → get_or l q 0 ≡ f q
    pub rest : (q : ℕ) → p ≤ q → get_or l q 0 ≡ get_or old q 0

  pub filled_start : n ≤ length old → Filled 0 old
  filled_start r = record { room = r; long = refl; done = λ q l. absurd (omega arith); rest = λ q l. refl }

  module _ (p : ℕ) (l : List ℕ) (F : Filled p l) where
    pub filled_more : (x : ℕ) → p < n → x ≡ f p → Filled (p + 1) (set l p x)
    filled_more x i e =
        let k : p < length l = omega (arith, F.room, F.long) in
        record {
          room = F.room;
          long = length-set l p x ∙ F.long;
          done = λ q j.
              elim (same_or_not q p) [
                | inl c ↦ ap (λ z. get_or (set l p x) z 0) c ∙ get_or-set_same l p x 0 k ∙ e ∙ ap f (sym c)
                | inr c ↦ get_or-set_other l p q x 0 c ∙ F.done q (omega arith)
              ];
          rest = λ q j. get_or-set_other l p q x 0 (λ c. omega arith) ∙ F.rest q (omega arith);
        }

    pub filled_end : n ≡ p → l ≡ laid (table f n) old
    filled_end e =
        laid_table f n old l F.long F.room (λ q i. F.done q (omega arith)) (λ q i. F.rest q (omega arith))
