-- Two numbers in one cycle of a permutation: an equivalence, decided in fewer than n steps.
--
-- same_cycle_refl, same_cycle_trans, same_cycle_sym == an equivalence (to go back wants a permutation)
-- same_cycle_step, same_cycle_back == x and f x are in one cycle; to go back from f x to x
-- same_cycle_is     == equal numbers are in one cycle
-- same_cycle_below  == a cycle stays below n
-- same_cycle_induct == what each step keeps is kept along a cycle
-- same_cycle_until  == what each step before b keeps holds at b
-- same_cycle_into   == a relation that holds along each step holds along the cycle
-- same_cycle_bounded == a number of the cycle is reached in fewer than n steps
-- same_cycle_decided == two numbers are in one cycle or not
-- same_cycle_agree  == functions that agree below n have the same cycles
-- Assumes nothing.
use mathlib.Core.Path.{◌≡◌, refl, sym, ◌∙◌, ap}
use mathlib.Core.Logic.{◌⊎◌, inl, inr, ◌≢◌}
use mathlib.Core.Bool.{Bool}
use Prim.Native.Nat.{ℕ, zero, suc, ◌+◌, ◌-◌, ◌<◌}
use native.Mathlib.Omega.{arith}
use lib.Dec.{eqb}
use borrow.Author.Tests.{eqb-true, eq-eqb}
use Rattle.count.specs.Below.{find}
use Rattle.count.proofs.Logic.{lt_or_ge, same_or_not}
use Rattle.count.proofs.Below.{find_has, find_at_most}
use Rattle.orbits.specs.Cycles.{iter, Permutes, SameCycle}
use Rattle.orbits.proofs.Iter.{iter_zero, iter_one, iter_next, iter_add, iter_commute, iter_below, iter_agree, returns}

pub same_cycle_refl : (f : ℕ → ℕ) (x : ℕ) → SameCycle f x x
same_cycle_refl f x = record { steps = 0; reach = iter_zero f x }

pub same_cycle_is : (f : ℕ → ℕ) (x y : ℕ) → x ≡ y → SameCycle f x y
same_cycle_is f x y e = record { steps = 0; reach = iter_zero f x ∙ e }

pub same_cycle_step : (f : ℕ → ℕ) (x : ℕ) → SameCycle f x (f x)
same_cycle_step f x = record { steps = 1; reach = iter_one f x }

pub same_cycle_trans : {f : ℕ → ℕ} {x y z : ℕ} → SameCycle f x y → SameCycle f y z → SameCycle f x z
same_cycle_trans {f} {x} {y} {z} s t =
    record { steps = t.steps + s.steps; reach = iter_add f t.steps s.steps x ∙ rw s.reach t.reach }

-- what each step before b keeps holds at b or after k steps
until {ℓ} : (f : ℕ → ℕ) (Q : ℕ → Type ℓ) (x b : ℕ) → ((z : ℕ) → SameCycle f x z → z ≢ b → Q z → Q (f z)) → Q x → (k : ℕ) → Q b ⊎ Q (iter f k x)
unfolding iter
until f Q x b step q zero = inr q
until f Q x b step q (suc k) =
    elim (until f Q x b step q k) [
      | inl d ↦ inl d
      | inr r ↦
          elim (same_or_not (iter f k x) b) [
            | inl e ↦ inl (rw e at r)
            | inr d ↦ inr (step (iter f k x) (record { steps = k; reach = refl }) d r)
          ]
    ]

pub same_cycle_until {ℓ} :
    (f : ℕ → ℕ) (Q : ℕ → Type ℓ) (x b : ℕ) → ((z : ℕ) → SameCycle f x z → z ≢ b → Q z → Q (f z)) → Q x → SameCycle f x b → Q b
same_cycle_until f Q x b step q s =
    elim (until f Q x b step q s.steps) [ inl d ↦ d | inr r ↦ rw s.reach at r ]

module _ {n : ℕ} {f : ℕ → ℕ} (p : Permutes n f) where
  pub same_cycle_below : {x y : ℕ} → SameCycle f x y → x < n → y < n
  same_cycle_below {x} {y} s l = rw s.reach at (iter_below p s.steps x l)

  pub same_cycle_induct {ℓ} : (Q : ℕ → Type ℓ) (x y : ℕ) → ((z : ℕ) → z < n → Q z → Q (f z)) → x < n → Q x → SameCycle f x y → Q y
  same_cycle_induct Q x y step l q s = same_cycle_until f Q x y (λ z t d. step z (same_cycle_below t l)) q s

  pub same_cycle_back : (x : ℕ) → x < n → SameCycle f (f x) x
  same_cycle_back x l =
      let r = returns p x l in
      let e : r.0 - 1 + 1 ≡ r.0 = omega arith in
      let s : iter f (r.0 - 1 + 1) x ≡ x = rw e r.3 in
      record { steps = r.0 - 1; reach = iter_commute f (r.0 - 1) x ∙ sym (iter_next f (r.0 - 1) x) ∙ s }

  pub same_cycle_sym : {x y : ℕ} → x < n → SameCycle f x y → SameCycle f y x
  same_cycle_sym {x} {y} l s =
      same_cycle_induct (λ z. SameCycle f z x) x y (λ z h t. same_cycle_trans (same_cycle_back z h) t) l (same_cycle_refl f x) s

  -- reached before x comes back
  within : {x y : ℕ} (m : ℕ) → 0 < m → iter f m x ≡ x → x < n → SameCycle f x y → (k : ℕ) × (k < m) × (iter f k x ≡ y)
  within {x} {y} m pos back l s =
      same_cycle_induct (λ z. (k : ℕ) × (k < m) × (iter f k x ≡ z)) x y
      (λ z h w.
      elim (same_or_not (w.0 + 1) m) [
        | inl e ↦ (0, pos, iter_zero f x ∙ sym back ∙ ap (λ i. iter f i x) (sym e) ∙ iter_next f w.0 x ∙ ap f w.2)
        | inr d ↦ (w.0 + 1, omega (arith, w.1), iter_next f w.0 x ∙ ap f w.2)
      ])
      l (0, pos, iter_zero f x) s

  pub same_cycle_bounded : {x y : ℕ} → x < n → SameCycle f x y → (k : ℕ) × (k < n) × (iter f k x ≡ y)
  same_cycle_bounded {x} {y} l s =
      let r = returns p x l in
      let q = within r.0 r.1 r.3 l s in
      (q.0, omega (arith, q.1, r.2), q.2)

  pub same_cycle_decided : (x y : ℕ) → x < n → SameCycle f x y ⊎ (SameCycle f x y → ⊥)
  same_cycle_decided x y l =
      let hits : ℕ → Bool = λ k. eqb (iter f k x) y in
      elim (lt_or_ge (find hits n) n) [
        | inl b ↦ inl (record { steps = find hits n; reach = eqb-true (iter f (find hits n) x) y (find_has hits n b) })
        | inr g ↦ inr (λ s.
            let q = same_cycle_bounded l s in
            omega (arith, q.1, find_at_most hits n q.0 q.1 (eq-eqb (iter f q.0 x) y q.2)))
      ]

  pub same_cycle_into : {g : ℕ → ℕ} → ((z : ℕ) → z < n → SameCycle g z (f z)) → {x y : ℕ} → x < n → SameCycle f x y → SameCycle g x y
  same_cycle_into {g} along {x} {y} l s =
      same_cycle_induct (λ z. SameCycle g x z) x y (λ z h t. same_cycle_trans t (along z h)) l (same_cycle_refl g x) s

  pub same_cycle_agree : {g : ℕ → ℕ} → ((x : ℕ) → x < n → f x ≡ g x) → {x y : ℕ} → x < n → SameCycle f x y → SameCycle g x y
  same_cycle_agree {g} same {x} l s = record { steps = s.steps; reach = sym (iter_agree p g same s.steps x l) ∙ s.reach }
