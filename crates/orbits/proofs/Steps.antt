-- A permutation with one cycle: which number is met after how many steps.
--
-- steps_to n f s h == the least number of steps of f that lead from s to h; n where fewer than n steps do not
-- steps_below == fewer than n steps lead to each number
-- steps_reach == and that many do
-- steps_of    == the i-th number met is met after i steps, i < n
-- steps_once  == so no number is met twice
-- steps_close == n steps lead back to s
-- Assumes nothing.
use mathlib.Core.Path.{◌≡◌, sym, ap, ◌∙◌}
use mathlib.Core.Logic.{inl, inr}
use Prim.Native.Nat.{ℕ, ◌-◌, ◌<◌}
use native.Mathlib.Omega.{arith}
use lib.Dec.{eqb}
use borrow.Author.Tests.{eqb-true, eq-eqb}
use Rattle.count.specs.Below.{find}
use Rattle.count.proofs.Logic.{same_or_not}
use Rattle.count.proofs.Below.{find_has, find_at_most, injective_onto}
use Rattle.orbits.specs.Cycles.{iter, Permutes, cycles}
use Rattle.orbits.proofs.Iter.{iter_zero, iter_below, iter_cancel}
use Rattle.orbits.proofs.Same.{same_cycle_bounded}
use Rattle.orbits.proofs.Classes.{one_cycle}

abbrev pub steps_to : ℕ → (ℕ → ℕ) → ℕ → ℕ → ℕ
steps_to n f s h = find (λ k. eqb (iter f k s) h) n

module _ {n : ℕ} {f : ℕ → ℕ} (p : Permutes n f) (one : cycles n f ≡ 1) (s : ℕ) (l : s < n) where
  pub steps_below : (h : ℕ) → h < n → steps_to n f s h < n
  steps_below h b =
      let r = same_cycle_bounded p l (one_cycle p one s h l b) in
      omega (arith, r.1, find_at_most (λ k. eqb (iter f k s) h) n r.0 r.1 (eq-eqb (iter f r.0 s) h r.2))

  pub steps_reach : (h : ℕ) → h < n → iter f (steps_to n f s h) s ≡ h
  steps_reach h b = eqb-true (iter f (steps_to n f s h) s) h (find_has (λ k. eqb (iter f k s) h) n (steps_below h b))

  -- no two numbers are met after as many steps, so the numbers of steps are all those below n
  pub steps_of : (i : ℕ) → i < n → steps_to n f s (iter f i s) ≡ i
  steps_of i b =
      let r = injective_onto (steps_to n f s) n steps_below
      (λ x y bx by e. sym (steps_reach x bx) ∙ ap (λ k. iter f k s) e ∙ steps_reach y by) i b in
      ap (λ k. steps_to n f s (iter f k s)) (sym r.2) ∙ ap (steps_to n f s) (steps_reach r.0 r.1) ∙ r.2

  pub steps_once : (i j : ℕ) → i < n → j < n → iter f i s ≡ iter f j s → i ≡ j
  steps_once i j bi bj e = sym (steps_of i bi) ∙ ap (steps_to n f s) e ∙ steps_of j bj

  pub steps_close : iter f n s ≡ s
  steps_close =
      let k : ℕ = steps_to n f s (iter f n s) in
      let b : k < n = steps_below (iter f n s) (iter_below p n s l) in
      let meets : iter f k s ≡ iter f n s = steps_reach (iter f n s) (iter_below p n s l) in
      let back : iter f (n - k) s ≡ s = iter_cancel p k n s l (omega arith) meets in
      elim (same_or_not k 0) [
        | inl z ↦ sym meets ∙ ap (λ i. iter f i s) z ∙ iter_zero f s
        | inr d ↦ absurd (omega (arith, steps_once (n - k) 0 (omega arith) (omega arith) (back ∙ sym (iter_zero f s))))
      ]
