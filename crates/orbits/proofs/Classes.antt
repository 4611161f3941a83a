-- The number of cycles.
--
-- cycles_same    == functions that agree below n have as many cycles
-- cycles_few     == at most v, if c gives the numbers below n classes below v, and those of one class are in one cycle
-- cycles_many    == at least v, if v numbers are in different cycles
-- cycles_classes == if c numbers the numbers below n from 0 to v - 1, alike exactly within a cycle, there are v cycles
-- cycles_pos, cycles_le == at least one cycle if n is not 0, and at most n
-- two_cycles     == two numbers that lead make two cycles
-- one_cycle, one_cycle_from == one cycle exactly if any two numbers below n are in one
-- Assumes nothing.
use mathlib.Core.Path.{◌≡◌, refl, sym, ◌∙◌, ap}
use mathlib.Core.Logic.{inl, inr}
use mathlib.Core.Bool.{true}
use Prim.Native.Nat.{ℕ, ◌<◌, ◌≤◌}
use native.Mathlib.Omega.{arith}
use lib.Dec.{eqb}
use borrow.Author.Tests.{eqb-true, eq-eqb}
use Rattle.count.specs.Below.{find}
use Rattle.count.proofs.Logic.{lt_or_ge, same_or_not}
use Rattle.count.proofs.Below.{find_has, find_at_most, count_le, count_before, count_same, count_all, count_injection}
use Rattle.orbits.specs.Cycles.{Permutes, SameCycle, low, leads, cycles}
use Rattle.orbits.proofs.Low.{low_le, low_below, low_agree, leads_is, leads_from, leads_low, same_cycle_low, low_same_cycle}

pub cycles_same : {n : ℕ} {f g : ℕ → ℕ} → Permutes n f → ((x : ℕ) → x < n → f x ≡ g x) → cycles n f ≡ cycles n g
unfolding cycles
cycles_same {n} {f} {g} p same = count_same (leads n f) (leads n g) n (λ x l. ap (λ z. eqb z x) (low_agree p same x l))

pub cycles_le : (n : ℕ) (f : ℕ → ℕ) → cycles n f ≤ n
unfolding cycles
cycles_le n f = count_le (leads n f) n

pub cycles_pos : (n : ℕ) (f : ℕ → ℕ) → 0 < n → 0 < cycles n f
unfolding cycles
cycles_pos n f h =
    let e : low n f 0 ≡ 0 = omega (arith, low_le n f 0) in
    omega (arith, count_before (leads n f) 0 n h (leads_from n f 0 e))

module _ {n : ℕ} {f : ℕ → ℕ} (p : Permutes n f) where
  pub cycles_few : (c : ℕ → ℕ) (v : ℕ) → ((x : ℕ) → x < n → c x < v)
      → ((x y : ℕ) → x < n → y < n → c x ≡ c y → SameCycle f x y)
      → cycles n f ≤ v
  unfolding cycles
  cycles_few c v below apart =
      rw (← count_all (λ w. true) v (λ w h. refl)) (count_injection (leads n f) (λ w. true) c n v (λ x l h. below x l) (λ x l h. refl)
      (λ x y l k s t e. sym (leads_is n f x s) ∙ same_cycle_low p l (apart x y l k e) ∙ leads_is n f y t))

  pub cycles_many : (r : ℕ → ℕ) (v : ℕ) → ((w : ℕ) → w < v → r w < n)
      → ((u w : ℕ) → u < v → w < v → SameCycle f (r u) (r w) → u ≡ w)
      → v ≤ cycles n f
  unfolding cycles
  cycles_many r v below alone =
      rw (← count_all (λ w. true) v (λ w h. refl)) (count_injection (λ w. true) (leads n f) (λ w. low n f (r w)) v n
      (λ w h t. low_below n f (r w) (below w h))
      (λ w h t. leads_low p (r w) (below w h))
      (λ u w h k s t e. alone u w h k (low_same_cycle p (r u) (r w) (below u h) (below w k) e)))

  pub cycles_classes : (c : ℕ → ℕ) (v : ℕ) → ((x : ℕ) → x < n → c x < v)
      → ((w : ℕ) → w < v → (x : ℕ) × (x < n) × (c x ≡ w))
      → ((x y : ℕ) → x < n → y < n → c x ≡ c y → SameCycle f x y)
      → ((x y : ℕ) → x < n → y < n → SameCycle f x y → c x ≡ c y)
      → cycles n f ≡ v
  cycles_classes c v below onto apart alike = omega (arith, cycles_few c v below apart, cycles_many first v first_below first_alone)
    where
      -- the first number of class w
      first : ℕ → ℕ
      first w = find (λ x. eqb (c x) w) n

      first_below : (w : ℕ) → w < v → first w < n
      first_below w h =
          let r = onto w h in
          omega (arith, r.1, find_at_most (λ x. eqb (c x) w) n r.0 r.1 (eq-eqb (c r.0) w r.2))

      first_has : (w : ℕ) → w < v → c (first w) ≡ w
      first_has w h = eqb-true (c (first w)) w (find_has (λ x. eqb (c x) w) n (first_below w h))

      first_alone : (u w : ℕ) → u < v → w < v → SameCycle f (first u) (first w) → u ≡ w
      first_alone u w h k s = sym (first_has u h) ∙ alike (first u) (first w) (first_below u h) (first_below w k) s ∙ first_has w k

  pub two_cycles : (a b : ℕ) → a < b → b < n → leads n f a ≡ true → leads n f b ≡ true → 2 ≤ cycles n f
  unfolding cycles
  two_cycles a b h l s t = omega (arith, count_before (leads n f) a b h s, count_before (leads n f) b n l t)

  pub one_cycle : cycles n f ≡ 1 → (x y : ℕ) → x < n → y < n → SameCycle f x y
  one_cycle e x y l k =
      let a = low_below n f x l in
      let b = low_below n f y k in
      elim (same_or_not (low n f x) (low n f y)) [
        | inl q ↦ low_same_cycle p x y l k q
        | inr d ↦
            elim (lt_or_ge (low n f x) (low n f y)) [
              | inl h ↦ absurd (omega (arith, two_cycles (low n f x) (low n f y) h b (leads_low p x l) (leads_low p y k)))
              | inr g ↦ absurd (omega (arith, two_cycles (low n f y) (low n f x) (omega arith) a (leads_low p y k) (leads_low p x l)))
            ]
      ]

  pub one_cycle_from : 0 < n → ((x y : ℕ) → x < n → y < n → SameCycle f x y) → cycles n f ≡ 1
  one_cycle_from h all =
      cycles_classes (λ x. 0) 1 (λ x l. omega arith) (λ w l. (0, h, omega arith)) (λ x y l k e. all x y l k) (λ x y l k s. refl)
