-- A list whose first entries were cleared.
--
-- cleared_length   == the length stays
-- cleared_first, cleared_rest == the first k entries are 0, the others as before
-- Assumes nothing.
use mathlib.Core.Path.{◌≡◌, sym, ap, ◌∙◌}
use mathlib.Core.Logic.{inl, inr}
use mathlib.Core.List.{List}
use Prim.Native.Nat.{ℕ, ◌+◌, ◌-◌, ◌<◌, ◌≤◌, min}
use native.Mathlib.Omega.{arith}
use lib.ListN.{length, get_or, drop, replicate, length-append, length-replicate, length-drop, get_or-replicate, get_or-append, get_or-eq_default}
use lib.Seq.{get_or-append-add, get_or-drop}
use Rattle.count.proofs.Logic.{lt_or_ge}
use Rattle.answers.specs.Lent.{cleared}

abbrev zeros : ℕ → List ℕ
zeros n = replicate n 0

zeros_length : (n : ℕ) → length (zeros n) ≡ n
zeros_length n = length-replicate n 0

pub cleared_length : (k : ℕ) (l : List ℕ) → length (cleared k l) ≡ length l
unfolding cleared
cleared_length k l = simp (length-append, length-replicate, length-drop) (omega arith)

pub cleared_first : (k : ℕ) (l : List ℕ) (i : ℕ) → i < k → get_or (cleared k l) i 0 ≡ 0
unfolding cleared
cleared_first k l i h =
    elim (lt_or_ge i (min k (length l))) [
      | inl m ↦
          get_or-append (zeros (min k (length l))) (drop k l) 0 i (omega (arith, zeros_length (min k (length l))))
          ∙ get_or-replicate (min k (length l)) i 0 0 m
      | inr g ↦ get_or-eq_default (cleared k l) 0 (omega (arith, cleared_length k l))
    ]

pub cleared_rest : (k : ℕ) (l : List ℕ) (i : ℕ) → k ≤ i → get_or (cleared k l) i 0 ≡ get_or l i 0
unfolding cleared
cleared_rest k l i h =
    elim (lt_or_ge (length l) k) [
      | inl m ↦ get_or-eq_default (cleared k l) 0 (omega (arith, cleared_length k l)) ∙ sym (get_or-eq_default l 0 (omega arith))
      | inr g ↦
          let e : min k (length l) ≡ k = omega arith in
          let f : length (zeros k) + (i - k) ≡ i = omega (arith, zeros_length k) in
          let q : k + (i - k) ≡ i = omega arith in
          rw e (rw f at (get_or-append-add (zeros k) (drop k l) (i - k) 0) ∙ get_or-drop k l (i - k) 0 ∙ ap (λ x. get_or l x 0) q)
    ]
