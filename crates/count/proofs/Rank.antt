-- The j-th number that has a test: laws of nth, which undoes count.
--
-- nth_below    == there is a j-th if more than j have the test
-- nth_has      == the j-th has the test
-- nth_count    == j numbers before the j-th have the test
-- nth_of_count == x is the one counted by those before it
-- nth_mono     == a later one is larger
-- nth_none     == there is none if at most j have the test
-- nth_le       == nth never passes the bound
-- nth_same     == it depends only on the test below the bound
-- Assumes nothing.
use mathlib.Core.Path.{◌≡◌}
use mathlib.Core.Logic.{inl, inr}
use mathlib.Core.Bool.{Bool, true, ◌&&◌}
use Prim.Native.Nat.{ℕ, zero, suc, ◌<◌, ◌≤◌}
use native.Mathlib.Omega.{arith}
use lib.Dec.{eqb}
use borrow.Author.Tests.{eqb-true, eq-eqb}
use Rattle.count.specs.Below.{count, nth}
use Rattle.count.proofs.Logic.{same_or_not, lt_or_ge, true_or_false, both, both_left, both_right, not_both}
use Rattle.count.proofs.Search.{find_le, find_has, find_at_most, find_same, find_none}
use Rattle.count.proofs.Counts.{count_mono, count_before, count_same}

-- some number has the test and j such numbers before it
has_rank : (P : ℕ → Bool) (j n : ℕ) → j < count P n → (x : ℕ) × (x < n) × (P x ≡ true) × (count P x ≡ j)
unfolding count
has_rank P j zero h = absurd (omega arith)
has_rank P j (suc n) h =
    elim (lt_or_ge j (count P n)) [
      | inl b ↦ let r = has_rank P j n b in (r.0, omega (arith, r.1), r.2, r.3)
      | inr g ↦
          elim (true_or_false (P n)) [
            | inl t ↦ let k : j < suc (count P n) = rw t at h in (n, omega arith, t, omega arith)
            | inr e ↦ let k : j < count P n = rw e at h in absurd (omega arith)
          ]
    ]

-- the count tells numbers with the test apart
count_apart : (P : ℕ → Bool) (x y : ℕ) → P x ≡ true → P y ≡ true → count P x ≡ count P y → x ≡ y
count_apart P x y p q e =
    elim (lt_or_ge x y) [
      | inl b ↦ absurd (omega (arith, count_before P x y b p))
      | inr g ↦ elim (same_or_not x y) [ inl s ↦ s | inr d ↦ absurd (omega (arith, count_before P y x (omega arith) q)) ]
    ]

module _ (P : ℕ → Bool) (j n : ℕ) where
  pub nth_has : nth P j n < n → P (nth P j n) ≡ true
  unfolding nth
  nth_has h = both_left (P (nth P j n)) (eqb (count P (nth P j n)) j) (find_has (λ x. P x && eqb (count P x) j) n h)

  pub nth_count : nth P j n < n → count P (nth P j n) ≡ j
  unfolding nth
  nth_count h = eqb-true (count P (nth P j n)) j (both_right (P (nth P j n)) (eqb (count P (nth P j n)) j) (find_has (λ x. P x && eqb (count P x) j) n h))

  pub nth_below : j < count P n → nth P j n < n
  unfolding nth
  nth_below h =
      let r = has_rank P j n h in
      omega (arith, r.1, find_at_most (λ x. P x && eqb (count P x) j) n r.0 r.1 (both (P r.0) (eqb (count P r.0) j) r.2 (eq-eqb (count P r.0) j r.3)))

  pub nth_none : count P n ≤ j → nth P j n ≡ n
  unfolding nth
  nth_none h =
      find_none (λ x. P x && eqb (count P x) j) n
      (λ x l. not_both (P x) (eqb (count P x) j) (λ p q. omega (arith, count_before P x n l p, eqb-true (count P x) j q)))

pub nth_le : (P : ℕ → Bool) (j n : ℕ) → nth P j n ≤ n
unfolding nth
nth_le P j n = find_le (λ x. P x && eqb (count P x) j) n

pub nth_of_count : (P : ℕ → Bool) (x n : ℕ) → x < n → P x ≡ true → nth P (count P x) n ≡ x
nth_of_count P x n l h =
    let b = nth_below P (count P x) n (count_before P x n l h) in
    count_apart P (nth P (count P x) n) x (nth_has P (count P x) n b) h (nth_count P (count P x) n b)

pub nth_mono : (P : ℕ → Bool) (i j n : ℕ) → i < j → j < count P n → nth P i n < nth P j n
nth_mono P i j n h l =
    let a = nth_count P i n (nth_below P i n (omega arith)) in
    let b = nth_count P j n (nth_below P j n l) in
    elim (lt_or_ge (nth P i n) (nth P j n)) [
      | inl k ↦ k
      | inr g ↦ absurd (omega (arith, count_mono P (nth P j n) (nth P i n) g))
    ]

pub nth_same : (P Q : ℕ → Bool) (j n : ℕ) → ((x : ℕ) → x < n → P x ≡ Q x) → nth P j n ≡ nth Q j n
unfolding nth
nth_same P Q j n same = find_same (λ x. P x && eqb (count P x) j) (λ x. Q x && eqb (count Q x) j) n
    (λ x l. rw (same x l, count_same P Q x (λ y k. same y (omega arith))))
