-- The least of a cycle: it names the cycle.
--
-- low_same       == the least of x's cycle is in it
-- low_least      == it is at most each number of the cycle
-- low_le, low_below == it is at most x, and below n
-- low_is         == a number of the cycle that is at most every other is the least
-- same_cycle_low, low_same_cycle == numbers of one cycle have the same least, and conversely
-- low_step, low_low == a step keeps the least, and the least of the least is itself
-- low_agree      == functions that agree below n have the same least
-- leads_is, leads_from, leads_not, leads_low == leads holds exactly of the least of a cycle
-- Assumes nothing.
use mathlib.Core.Path.{◌≡◌, refl, sym, ◌∙◌}
use mathlib.Core.Logic.{inl, inr, ◌≢◌}
use mathlib.Core.Bool.{true, false}
use Prim.Native.Nat.{ℕ, zero, suc, ◌<◌, ◌≤◌}
use native.Mathlib.Omega.{arith}
use borrow.Author.Tests.{eqb-true, eq-eqb, ne_eqb}
use Rattle.count.proofs.Logic.{lt_or_ge}
use Rattle.orbits.specs.Cycles.{iter, Permutes, SameCycle, lowest, low, leads}
use Rattle.orbits.proofs.Iter.{iter_zero, iter_commute, permutes_agree}
use Rattle.orbits.proofs.Same.{same_cycle_trans, same_cycle_sym, same_cycle_step, same_cycle_bounded, same_cycle_below, same_cycle_agree}

lowest_le : (f : ℕ → ℕ) (k j x : ℕ) → j ≤ k → lowest f k x ≤ iter f j x
unfolding lowest iter
lowest_le f zero zero x h = omega arith
lowest_le f zero (suc j) x h = absurd (omega arith)
lowest_le f (suc k) zero x h = omega arith
lowest_le f (suc k) (suc j) x h =
    let r : lowest f k (f x) ≤ f (iter f j x) = rw (iter_commute f j x) at (lowest_le f k j (f x) (omega arith)) in omega arith

lowest_in : (f : ℕ → ℕ) (k x : ℕ) → (j : ℕ) × (iter f j x ≡ lowest f k x)
unfolding lowest iter
lowest_in f zero x = (0, refl)
lowest_in f (suc k) x =
    let r = lowest_in f k (f x) in
    elim (lt_or_ge x (lowest f k (f x))) [
      | inl b ↦ (0, omega arith)
      | inr g ↦ (suc r.0, sym (iter_commute f r.0 x) ∙ r.1 ∙ omega arith)
    ]

pub low_same : (n : ℕ) (f : ℕ → ℕ) (x : ℕ) → SameCycle f x (low n f x)
unfolding low
low_same n f x = let r = lowest_in f n x in record { steps = r.0; reach = r.1 }

pub low_le : (n : ℕ) (f : ℕ → ℕ) (x : ℕ) → low n f x ≤ x
unfolding low
low_le n f x = rw (iter_zero f x) at (lowest_le f n 0 x (omega arith))

pub low_below : (n : ℕ) (f : ℕ → ℕ) (x : ℕ) → x < n → low n f x < n
low_below n f x l = omega (arith, low_le n f x)

pub leads_is : (n : ℕ) (f : ℕ → ℕ) (x : ℕ) → leads n f x ≡ true → low n f x ≡ x
unfolding leads
leads_is n f x h = eqb-true (low n f x) x h

pub leads_from : (n : ℕ) (f : ℕ → ℕ) (x : ℕ) → low n f x ≡ x → leads n f x ≡ true
unfolding leads
leads_from n f x e = eq-eqb (low n f x) x e

pub leads_not : (n : ℕ) (f : ℕ → ℕ) (x : ℕ) → low n f x ≢ x → leads n f x ≡ false
unfolding leads
leads_not n f x d = ne_eqb (low n f x) x d

module _ {n : ℕ} {f : ℕ → ℕ} (p : Permutes n f) where
  pub low_least : (x y : ℕ) → x < n → SameCycle f x y → low n f x ≤ y
  unfolding low
  low_least x y l s =
      let r = same_cycle_bounded p l s in
      rw r.2 at (lowest_le f n r.0 x (omega (arith, r.1)))

  pub low_is : (x z : ℕ) → x < n → SameCycle f x z → ((y : ℕ) → SameCycle f x y → z ≤ y) → low n f x ≡ z
  low_is x z l s least = omega (arith, low_least x z l s, least (low n f x) (low_same n f x))

  pub same_cycle_low : {x y : ℕ} → x < n → SameCycle f x y → low n f x ≡ low n f y
  same_cycle_low {x} {y} l s =
      low_is x (low n f y) l (same_cycle_trans s (low_same n f y))
      (λ z t. low_least y z (same_cycle_below p s l) (same_cycle_trans (same_cycle_sym p l s) t))

  pub low_same_cycle : (x y : ℕ) → x < n → y < n → low n f x ≡ low n f y → SameCycle f x y
  low_same_cycle x y l k e =
      let s : SameCycle f x (low n f y) = rw e at (low_same n f x) in
      same_cycle_trans s (same_cycle_sym p k (low_same n f y))

  pub low_step : (x : ℕ) → x < n → low n f (f x) ≡ low n f x
  low_step x l = sym (same_cycle_low l (same_cycle_step f x))

  pub low_low : (x : ℕ) → x < n → low n f (low n f x) ≡ low n f x
  low_low x l = sym (same_cycle_low l (low_same n f x))

  pub leads_low : (x : ℕ) → x < n → leads n f (low n f x) ≡ true
  leads_low x l = leads_from n f (low n f x) (low_low x l)

pub low_agree : {n : ℕ} {f g : ℕ → ℕ} → Permutes n f → ((x : ℕ) → x < n → f x ≡ g x) → (x : ℕ) → x < n → low n f x ≡ low n g x
low_agree {n} {f} {g} p same x l =
    let q = permutes_agree p same in
    sym (low_is q x (low n f x) l (same_cycle_agree p same l (low_same n f x))
    (λ y s. low_least p x y l (same_cycle_agree q (λ z k. sym (same z k)) l s)))
