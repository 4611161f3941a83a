-- A list that is filled in some order, an entry at a time, and some entries twice.
--
-- Filling old k F e p l == the first k entries are to hold F; l has them at the places e q for q before p, and is old from k on
-- filling_start, filling_more, filling_end == nothing yet, one entry more, and all once each place below k was met
-- Assumes nothing.
use mathlib.Core.Path.{◌≡◌, refl, sym, ap, ◌∙◌}
use mathlib.Core.Logic.{inl, inr}
use mathlib.Core.List.{List}
use Prim.Native.Nat.{ℕ, ◌+◌, ◌<◌, ◌≤◌}
use native.Mathlib.Omega.{arith}
use lib.ListN.{length, get_or, set, length-set}
use lib.Seq.{get_or-set_same, get_or-set_other}
use Rattle.count.specs.Below.{table}
use Rattle.count.proofs.Logic.{same_or_not}
use Rattle.answers.specs.Lent.{laid}
use Rattle.lending.proofs.Laying.{laid_table}

module _ (old : List ℕ) (k : ℕ) (F e : ℕ → ℕ) where
  pub record Filling (p : ℕ) (l : List ℕ) : Type 0 where
    pub room : k ≤ length old
    pub same_length : length l ≡ length old
    pub done : (q : ℕ) → q < p → get_or l (e q) 0 ≡ F (e q)
    pub rest : (x : ℕ) → k ≤ x → get_or l x 0 ≡ get_or old x 0

  pub filling_start : k ≤ length old → Filling 0 old
  filling_start r = record { room = r; same_length = refl; done = λ q l. absurd (omega arith); rest = λ x l. refl }

  module _ (p : ℕ) (l : List ℕ) (W : Filling p l) where
    pub filling_more : (x y : ℕ) → x < k → x ≡ e p → y ≡ F x → Filling (p + 1) (set l x y)
    filling_more x y b h g =
        let in_list : x < length l = omega (arith, W.room, W.same_length) in
        record {
          room = W.room;
          same_length = length-set l x y ∙ W.same_length;
          done = λ q i.
              elim (same_or_not (e q) x) [
                | inl m ↦ ap (λ z. get_or (set l x y) z 0) m ∙ get_or-set_same l x y 0 in_list ∙ g ∙ ap F (sym m)
                | inr m ↦
                    elim (same_or_not q p) [
                      | inl c ↦ absurd (m (ap e c ∙ sym h))
                      | inr c ↦ get_or-set_other l x (e q) y 0 m ∙ W.done q (omega arith)
                    ]
              ];
          rest = λ z i. get_or-set_other l x z y 0 (λ m. omega arith) ∙ W.rest z i;
        }

    pub filling_end : ((x : ℕ) → x < k → (q : ℕ) × (q < p) × (e q ≡ x)) → l ≡ laid (table F k) old
    filling_end met =
        laid_table F k old l W.same_length W.room
        (λ x c. let m = met x c in ap (λ z. get_or l z 0) (sym m.2) ∙ W.done m.0 m.1 ∙ ap F m.2)
        W.rest
