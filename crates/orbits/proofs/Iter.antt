-- Steps of a function, and permutations of the numbers below n.
--
-- iter_zero, iter_next, iter_add == no step; one step more; j + k steps are k steps and then j
-- iter_commute    == a step before k steps is a step after them
-- iter_below, iter_injective == steps of a permutation stay below n and send no two numbers to one
-- iter_cancel     == a walk that meets itself had come back to its start
-- returns         == each number comes back to itself after at most n steps
-- permutes_onto   == each number below n is reached by one step
-- permutes_differ == values below n that differ are a permutation's
-- permutes_involution == what undoes itself permutes
-- permutes_compose == one permutation after another permutes
-- permutes_agree, iter_agree == a function that agrees with a permutation below n permutes, and takes the same steps
-- Assumes nothing.
use mathlib.Core.Path.{◌≡◌, refl, sym, ◌∙◌, ap}
use mathlib.Core.Logic.{◌≢◌, inl, inr}
use mathlib.Core.Bool.{Bool, true}
use Prim.Native.Nat.{ℕ, zero, suc, ◌+◌, ◌-◌, ◌<◌, ◌≤◌}
use native.Mathlib.Numerals.{add-one}
use native.Mathlib.Omega.{arith}
use lib.Dec.{eqb}
use borrow.Author.Tests.{eqb-true, eqb-false}
use Rattle.count.specs.Below.{count, find}
use Rattle.count.proofs.Logic.{lt_or_ge, same_or_not}
use Rattle.count.proofs.Below.{find_has, find_not, count_all, count_injection, injective_onto}
use Rattle.orbits.specs.Cycles.{iter, Permutes}

pub iter_zero : (f : ℕ → ℕ) (x : ℕ) → iter f 0 x ≡ x
unfolding iter
iter_zero f x = refl

pub iter_next : (f : ℕ → ℕ) (k x : ℕ) → iter f (k + 1) x ≡ f (iter f k x)
unfolding iter
iter_next f k x = rw add-one

pub iter_one : (f : ℕ → ℕ) (x : ℕ) → iter f 1 x ≡ f x
unfolding iter
iter_one f x = refl

pub iter_add : (f : ℕ → ℕ) (j k x : ℕ) → iter f (j + k) x ≡ iter f j (iter f k x)
unfolding iter
iter_add f zero k x = let e : 0 + k ≡ k = omega arith in rw e
iter_add f (suc j) k x = let e : suc j + k ≡ suc (j + k) = omega arith in rw e (ap f (iter_add f j k x))

pub iter_commute : (f : ℕ → ℕ) (k x : ℕ) → iter f k (f x) ≡ f (iter f k x)
unfolding iter
iter_commute f zero x = refl
iter_commute f (suc k) x = ap f (iter_commute f k x)

pub permutes_onto : {n : ℕ} {f : ℕ → ℕ} → Permutes n f → (y : ℕ) → y < n → (x : ℕ) × (x < n) × (f x ≡ y)
permutes_onto {n} {f} p = injective_onto f n p.below p.injective

pub permutes_differ : (n : ℕ) (f : ℕ → ℕ) → ((x : ℕ) → x < n → f x < n) → ((x y : ℕ) → x < y → y < n → f x ≢ f y) → Permutes n f
permutes_differ n f b d =
    record {
      below = b;
      injective = λ x y bx by e.
          elim (lt_or_ge x y) [
            | inl l ↦ absurd (d x y l by e)
            | inr g ↦
                elim (same_or_not y x) [
                  | inl s ↦ sym s
                  | inr n ↦ absurd (d y x (omega arith) bx (sym e))
                ]
          ];
    }

pub permutes_involution : (n : ℕ) (f : ℕ → ℕ) → ((x : ℕ) → x < n → f x < n) → ((x : ℕ) → x < n → f (f x) ≡ x) → Permutes n f
permutes_involution n f b i = record { below = b; injective = λ x y l k e. sym (i x l) ∙ ap f e ∙ i y k }

pub permutes_compose : {n : ℕ} {f g : ℕ → ℕ} → Permutes n f → Permutes n g → Permutes n (λ x. f (g x))
permutes_compose {n} {f} {g} p q =
    record {
      below = λ x l. p.below (g x) (q.below x l);
      injective = λ x y l k e. q.injective x y l k (p.injective (g x) (g y) (q.below x l) (q.below y k) e);
    }

pub permutes_agree : {n : ℕ} {f g : ℕ → ℕ} → Permutes n f → ((x : ℕ) → x < n → f x ≡ g x) → Permutes n g
permutes_agree {n} {f} {g} p same =
    record {
      below = λ x l. rw (same x l) at (p.below x l);
      injective = λ x y l k e. p.injective x y l k (same x l ∙ e ∙ sym (same y k));
    }

module _ {n : ℕ} {f : ℕ → ℕ} (p : Permutes n f) where
  pub iter_below : (k x : ℕ) → x < n → iter f k x < n
  unfolding iter
  iter_below zero x l = l
  iter_below (suc k) x l = p.below (iter f k x) (iter_below k x l)

  pub iter_injective : (k x y : ℕ) → x < n → y < n → iter f k x ≡ iter f k y → x ≡ y
  unfolding iter
  iter_injective zero x y l m e = e
  iter_injective (suc k) x y l m e =
      iter_injective k x y l m (p.injective (iter f k x) (iter f k y) (iter_below k x l) (iter_below k y m) e)

  pub iter_agree : (g : ℕ → ℕ) → ((x : ℕ) → x < n → f x ≡ g x) → (k x : ℕ) → x < n → iter f k x ≡ iter g k x
  unfolding iter
  iter_agree g same zero x l = refl
  iter_agree g same (suc k) x l = same (iter f k x) (iter_below k x l) ∙ ap g (iter_agree g same k x l)

  pub iter_cancel : (i j x : ℕ) → x < n → i ≤ j → iter f i x ≡ iter f j x → iter f (j - i) x ≡ x
  iter_cancel i j x l h e =
      let s : i + (j - i) ≡ j = omega arith in
      iter_injective i (iter f (j - i) x) x (iter_below (j - i) x l) l (sym (iter_add f i (j - i) x) ∙ rw s (sym e))

  pub returns : (x : ℕ) → x < n → (k : ℕ) × (0 < k) × (k ≤ n) × (iter f k x ≡ x)
  returns x l =
      let back : ℕ → Bool = λ k. eqb (iter f (k + 1) x) x in
      elim (lt_or_ge (find back n) n) [
        | inl b ↦ (find back n + 1, omega arith, omega arith, eqb-true (iter f (find back n + 1) x) x (find_has back n b))
        | inr g ↦
            let never : (i j : ℕ) → i < j → j ≤ n → iter f i x ≡ iter f j x → ⊥ = λ i j h m e.
            (let s : j - i - 1 + 1 ≡ j - i = omega arith in
            eqb-false (iter f (j - i - 1 + 1) x) x (find_not back n (j - i - 1) (omega arith)) (rw s (iter_cancel i j x l (omega arith) e))) in
            let few : count (λ k. true) (n + 1) ≤ count (λ k. true) n
            = count_injection (λ k. true) (λ k. true) (λ k. iter f k x) (n + 1) n (λ k h t. iter_below k x l) (λ k h t. refl)
            (λ i j h m s t e. elim (lt_or_ge i j) [
              | inl b ↦ absurd (never i j b (omega arith) e)
              | inr c ↦ elim (same_or_not i j) [ inl q ↦ q | inr d ↦ absurd (never j i (omega arith) (omega arith) (sym e)) ]
            ]) in
            absurd (omega (arith, few, count_all (λ k. true) n (λ k h. refl), count_all (λ k. true) (n + 1) (λ k h. refl)))
      ]
