-- A permutation under other names: where π renames the numbers below n, g (π p) ≡ π (f p) says that g is f renamed.
--
-- conjugate_iter     == k steps of g from π p lead to π of k steps of f from p
-- conjugate_permutes == g permutes
-- conjugate_same_cycle, same_cycle_conjugate == p and q are in one cycle of f exactly if π p and π q are in one of g
-- conjugate_cycles   == g has as many cycles as f
-- count_renamed      == as many p as π p have a test
-- Assumes nothing.
use mathlib.Core.Path.{◌≡◌, refl, sym, ◌∙◌, ap}
use mathlib.Core.Bool.{Bool, not}
use Prim.Native.Nat.{ℕ, zero, suc, ◌<◌, ◌≤◌}
use native.Mathlib.Omega.{arith}
use lib.Dec.{eqb}
use borrow.Author.Tests.{eqb-true, eq-eqb}
use Rattle.count.specs.Below.{count, find}
use Rattle.count.proofs.Below.{find_has, find_at_most, count_injection, count_not}
use Rattle.orbits.specs.Cycles.{iter, Permutes, SameCycle, low, leads, cycles}
use Rattle.orbits.proofs.Iter.{iter_below, permutes_onto}
use Rattle.orbits.proofs.Low.{low_below, leads_is, leads_low, low_same_cycle, same_cycle_low}

-- at most as many cycles, if r sends numbers of different cycles to different cycles
cycles_sent : {n : ℕ} {f g : ℕ → ℕ} → Permutes n f → Permutes n g → (r : ℕ → ℕ) → ((x : ℕ) → x < n → r x < n)
    → ((x y : ℕ) → x < n → y < n → SameCycle g (r x) (r y) → SameCycle f x y)
    → cycles n f ≤ cycles n g
unfolding cycles
cycles_sent {n} {f} {g} F G r below apart =
    count_injection (leads n f) (leads n g) (λ x. low n g (r x)) n n
    (λ x l t. low_below n g (r x) (below x l))
    (λ x l t. leads_low G (r x) (below x l))
    (λ x y l k s t e.
    let a : SameCycle f x y = apart x y l k (low_same_cycle G (r x) (r y) (below x l) (below y k) e) in
    sym (leads_is n f x s) ∙ same_cycle_low F l a ∙ leads_is n f y t)

module _ {n : ℕ} {f π : ℕ → ℕ} (g : ℕ → ℕ) (F : Permutes n f) (P : Permutes n π) (same : (p : ℕ) → p < n → g (π p) ≡ π (f p)) where
  pub conjugate_iter : (k p : ℕ) → p < n → iter g k (π p) ≡ π (iter f k p)
  unfolding iter
  conjugate_iter zero p l = refl
  conjugate_iter (suc k) p l = ap g (conjugate_iter k p l) ∙ same (iter f k p) (iter_below F k p l)

  pub conjugate_permutes : Permutes n g
  conjugate_permutes =
      record {
        below = λ x l.
            let a = permutes_onto P x l in
            let e : π (f a.0) ≡ g x = sym (same a.0 a.1) ∙ ap g a.2 in
            rw e at (P.below (f a.0) (F.below a.0 a.1));
        injective = λ x y l k e.
            let a = permutes_onto P x l in
            let b = permutes_onto P y k in
            let s : π (f a.0) ≡ π (f b.0) = sym (same a.0 a.1) ∙ ap g a.2 ∙ e ∙ sym (ap g b.2) ∙ same b.0 b.1 in
            let t : f a.0 ≡ f b.0 = P.injective (f a.0) (f b.0) (F.below a.0 a.1) (F.below b.0 b.1) s in
            sym a.2 ∙ ap π (F.injective a.0 b.0 a.1 b.1 t) ∙ b.2;
      }

  pub conjugate_same_cycle : (p q : ℕ) → p < n → SameCycle f p q → SameCycle g (π p) (π q)
  conjugate_same_cycle p q l s = record { steps = s.steps; reach = conjugate_iter s.steps p l ∙ ap π s.reach }

  pub same_cycle_conjugate : (p q : ℕ) → p < n → q < n → SameCycle g (π p) (π q) → SameCycle f p q
  same_cycle_conjugate p q l k s =
      record {
        steps = s.steps;
        reach = P.injective (iter f s.steps p) q (iter_below F s.steps p l) k (sym (conjugate_iter s.steps p l) ∙ s.reach);
      }

  pub conjugate_cycles : cycles n g ≡ cycles n f
  conjugate_cycles = omega (arith, cycles_sent F conjugate_permutes π P.below (λ x y l k. same_cycle_conjugate x y l k), many)
    where
      -- the number that π sends to y
      undo : ℕ → ℕ
      undo y = find (λ p. eqb (π p) y) n

      undo_below : (y : ℕ) → y < n → undo y < n
      undo_below y l =
          let a = permutes_onto P y l in
          omega (arith, a.1, find_at_most (λ p. eqb (π p) y) n a.0 a.1 (eq-eqb (π a.0) y a.2))

      undone : (y : ℕ) → y < n → π (undo y) ≡ y
      undone y l = eqb-true (π (undo y)) y (find_has (λ p. eqb (π p) y) n (undo_below y l))

      many : cycles n g ≤ cycles n f
      many =
          cycles_sent conjugate_permutes F undo undo_below
          (λ x y l k s. rw (undone x l, undone y k) at (conjugate_same_cycle (undo x) (undo y) (undo_below x l) s))

pub count_renamed : {n : ℕ} {π : ℕ → ℕ} → Permutes n π → (P : ℕ → Bool) → count (λ p. P (π p)) n ≡ count P n
count_renamed {n} {π} P test =
    let sent : (Q : ℕ → Bool) → count (λ p. Q (π p)) n ≤ count Q n
    = λ Q. count_injection (λ p. Q (π p)) Q π n n (λ x l t. P.below x l) (λ x l t. t) (λ x y l k s t. P.injective x y l k) in
    omega (arith, sent test, sent (λ x. not (test x)), count_not test n, count_not (λ p. test (π p)) n)
