-- What find, all and any say of the numbers below a bound.
--
-- find_le       == find never passes the bound
-- find_has      == what it finds below the bound has the test
-- find_not      == nothing before what it finds has the test
-- find_at_most  == what it finds is at most any number that has the test
-- find_is       == it finds x if x has the test and nothing before x does
-- find_none     == it gives the bound if nothing has the test
-- find_same     == it depends only on the test below the bound
-- all_has, all_from, all_fails == all holds exactly if every number below has the test, else some fails it
-- any_has, any_from, any_none  == any holds exactly if some number below has the test, else none has
-- Assumes nothing.
use mathlib.Core.Path.{◌≡◌, refl, sym, ◌∙◌}
use mathlib.Core.Logic.{inl, inr}
use mathlib.Core.Bool.{Bool, true, false, true≢false}
use Prim.Native.Nat.{ℕ, zero, suc, ◌+◌, ◌<◌, ◌≤◌}
use native.Mathlib.Omega.{arith}
use Rattle.count.specs.Below.{find, find_from, all, any}
use Rattle.count.proofs.Logic.{same_or_not, lt_or_ge, true_or_false, true_not_false, both, both_left, both_right, one_of, either_left, either_right}

-- what a search of k numbers from a on gives
record Found (P : ℕ → Bool) (a k r : ℕ) : Type 0 where
  from : a ≤ r
  upto : r ≤ a + k
  has : r < a + k → P r ≡ true
  not_before : (x : ℕ) → a ≤ x → x < r → P x ≡ false

found : (P : ℕ → Bool) (a k : ℕ) → Found P a k (find_from P a k)
unfolding find_from
found P a zero = record { from = omega arith; upto = omega arith; has = λ h. absurd (omega arith); not_before = λ x l h. absurd (omega arith) }
found P a (suc k) = go (P a) refl (found P (suc a) k)
  where
    go : (t : Bool) → P a ≡ t → Found P (suc a) k (find_from P (suc a) k) → Found P a (suc k) (elim t [ true ↦ a | false ↦ find_from P (suc a) k ])
    go true e F = record { from = omega arith; upto = omega arith; has = λ h. e; not_before = λ x l h. absurd (omega arith) }
    go false e F =
        record {
          from = omega (arith, F.from);
          upto = omega (arith, F.upto);
          has = λ h. F.has (omega arith);
          not_before = λ x l h. elim (same_or_not a x) [ inl q ↦ rw q at e | inr n ↦ F.not_before x (omega arith) h ];
        }

module _ (P : ℕ → Bool) (n : ℕ) where
  pub find_le : find P n ≤ n
  unfolding find
  find_le = omega (arith, (found P 0 n).upto)

  pub find_has : find P n < n → P (find P n) ≡ true
  unfolding find
  find_has h = (found P 0 n).has (omega arith)

  pub find_not : (x : ℕ) → x < find P n → P x ≡ false
  unfolding find
  find_not x h = (found P 0 n).not_before x (omega arith) h

  pub find_at_most : (x : ℕ) → x < n → P x ≡ true → find P n ≤ x
  find_at_most x l h = elim (lt_or_ge x (find P n)) [ inl b ↦ absurd (true_not_false (P x) h (find_not x b)) | inr g ↦ g ]

  pub find_is : (x : ℕ) → x < n → P x ≡ true → ((y : ℕ) → y < x → P y ≡ false) → find P n ≡ x
  find_is x l h no_less =
      let m = find_at_most x l h in
      elim (lt_or_ge (find P n) x) [ inl b ↦ absurd (true_not_false (P (find P n)) (find_has (omega arith)) (no_less (find P n) b)) | inr g ↦ omega arith ]

  pub find_none : ((x : ℕ) → x < n → P x ≡ false) → find P n ≡ n
  find_none none =
      elim (lt_or_ge (find P n) n) [ inl b ↦ absurd (true_not_false (P (find P n)) (find_has b) (none (find P n) b)) | inr g ↦ omega (arith, find_le) ]

pub find_same : (P Q : ℕ → Bool) (n : ℕ) → ((x : ℕ) → x < n → P x ≡ Q x) → find P n ≡ find Q n
find_same P Q n same =
    elim (lt_or_ge (find Q n) n) [
      | inl b ↦ find_is P n (find Q n) b (same (find Q n) b ∙ find_has Q n b) (λ y h. same y (omega arith) ∙ find_not Q n y h)
      | inr g ↦
          let e : find Q n ≡ n = omega (arith, find_le Q n) in
          find_none P n (λ x h. same x h ∙ find_not Q n x (omega arith)) ∙ sym e
    ]

pub all_has : (P : ℕ → Bool) (n : ℕ) → all P n ≡ true → (x : ℕ) → x < n → P x ≡ true
unfolding all
all_has P zero h x l = absurd (omega arith)
all_has P (suc n) h x l =
    elim (same_or_not n x) [ inl e ↦ rw e at (both_left (P n) (all P n) h) | inr d ↦ all_has P n (both_right (P n) (all P n) h) x (omega arith) ]

pub all_from : (P : ℕ → Bool) (n : ℕ) → ((x : ℕ) → x < n → P x ≡ true) → all P n ≡ true
unfolding all
all_from P zero h = refl
all_from P (suc n) h = both (P n) (all P n) (h n (omega arith)) (all_from P n (λ x l. h x (omega arith)))

pub all_fails : (P : ℕ → Bool) (n : ℕ) → all P n ≡ false → (x : ℕ) × (x < n) × (P x ≡ false)
unfolding all
all_fails P zero f = absurd (true≢false f)
all_fails P (suc n) f =
    elim (true_or_false (P n)) [
      | inl t ↦ let r = all_fails P n (rw t at f) in (r.0, omega (arith, r.1), r.2)
      | inr e ↦ (n, omega arith, e)
    ]

pub any_has : (P : ℕ → Bool) (n : ℕ) → any P n ≡ true → (x : ℕ) × (x < n) × (P x ≡ true)
unfolding any
any_has P zero h = absurd (true≢false (sym h))
any_has P (suc n) h =
    elim (one_of (P n) (any P n) h) [
      | inl t ↦ (n, omega arith, t)
      | inr a ↦ let r = any_has P n a in (r.0, omega (arith, r.1), r.2)
    ]

pub any_from : (P : ℕ → Bool) (n x : ℕ) → x < n → P x ≡ true → any P n ≡ true
unfolding any
any_from P zero x l h = absurd (omega arith)
any_from P (suc n) x l h =
    elim (same_or_not x n) [
      | inl e ↦ either_left (P n) (any P n) (rw e at h)
      | inr d ↦ either_right (P n) (any P n) (any_from P n x (omega arith) h)
    ]

pub any_none : (P : ℕ → Bool) (n : ℕ) → any P n ≡ false → (x : ℕ) → x < n → P x ≡ false
any_none P n f x l =
    elim (true_or_false (P x)) [
      | inl t ↦ absurd (true_not_false (any P n) (any_from P n x l t) f)
      | inr e ↦ e
    ]
