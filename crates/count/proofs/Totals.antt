-- Classes of numbers: their counts add up.
--
-- count_classes == if each x < n has a class from 1 to v, the classes' counts add up to n
-- Assumes nothing.
use mathlib.Core.Path.{◌≡◌, sym, ap, ◌∙◌}
use mathlib.Core.Logic.{◌≢◌}
use mathlib.Core.Bool.{not, ◌&&◌}
use Prim.Native.Nat.{ℕ, zero, suc, ◌<◌, ◌≤◌}
use native.Mathlib.Omega.{arith}
use lib.Dec.{eqb, leb}
use borrow.Author.Tests.{eqb-true, eqb-false, ne_eqb, leb-true, le-leb, lt-leb, not-true}
use Rattle.count.specs.Below.{count, total}
use Rattle.count.proofs.Logic.{bool_same, both, both_left, both_right}
use Rattle.count.proofs.Counts.{count_same, count_split, count_none, count_all}

module _ (c : ℕ → ℕ) (n : ℕ) where
  -- the classes up to v count the numbers of a class up to v
  up_to : ((x : ℕ) → x < n → 1 ≤ c x) → (v : ℕ) → total (λ k. count (λ x. eqb (c x) k) n) v ≡ count (λ x. leb (c x) v) n
  unfolding total
  up_to pos zero = sym (count_none (λ x. leb (c x) 0) n (λ x l. lt-leb (c x) 0 (pos x l)))
  up_to pos (suc v) =
      let before : total (λ k. count (λ x. eqb (c x) k) n) v ≡ count (λ x. leb (c x) v) n = up_to pos v in
      let split = count_split (λ x. leb (c x) (suc v)) (λ x. eqb (c x) (suc v)) n in
      let here = count_same (λ x. leb (c x) (suc v) && eqb (c x) (suc v)) (λ x. eqb (c x) (suc v)) n (λ x l. bool_same _ _
      (λ e. both_right (leb (c x) (suc v)) (eqb (c x) (suc v)) e)
      (λ e. both (leb (c x) (suc v)) (eqb (c x) (suc v)) (le-leb (c x) (suc v) (omega (arith, eqb-true (c x) (suc v) e))) e)) in
      let lower = count_same (λ x. leb (c x) (suc v) && not (eqb (c x) (suc v))) (λ x. leb (c x) v) n (λ x l. bool_same _ _
      (λ e. let k : c x ≢ suc v = eqb-false (c x) (suc v) (not-true _ (both_right (leb (c x) (suc v)) _ e)) in
      le-leb (c x) v (omega (arith, leb-true (c x) (suc v) (both_left (leb (c x) (suc v)) _ e))))
      (λ e. let k : c x ≤ v = leb-true (c x) v e in
      both (leb (c x) (suc v)) _ (le-leb (c x) (suc v) (omega arith)) (ap not (ne_eqb (c x) (suc v) (omega arith))))) in
      omega arith

  pub count_classes : (v : ℕ) → ((x : ℕ) → x < n → (1 ≤ c x) × (c x ≤ v)) → total (λ k. count (λ x. eqb (c x) k) n) v ≡ n
  count_classes v inside = up_to (λ x l. (inside x l).0) v ∙ count_all (λ x. leb (c x) v) n (λ x l. le-leb (c x) v (inside x l).1)
