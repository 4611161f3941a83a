-- How many numbers below a bound have a test: laws of count, up to the pigeonhole.
--
-- count_zero, count_yes, count_no == none below 0; at n + 1 one more where n has the test, else as many
-- count_le, count_mono  == at most the bound; no fewer below a larger bound
-- count_before          == fewer before a number that has the test
-- count_stays, count_next == as many where none is between, and one more at the next that has the test
-- count_same, count_implies == equal tests count alike; a test that implies another counts no more
-- count_split, count_not == a test counts as it does with and without a second one; with its negation it counts all
-- count_none, count_all == none has the test, all have it
-- count_one_less        == a test that differs in one place counts one less
-- count_injection       == an injection from one test's numbers into another's bounds the count
-- injective_onto        == an injection of the numbers below n into themselves reaches each of them
-- Assumes nothing.
use mathlib.Core.Path.{◌≡◌, refl, sym, ◌∙◌, ap}
use mathlib.Core.Logic.{inl, inr, ◌≢◌}
use mathlib.Core.Bool.{Bool, true, false, not, ◌&&◌}
use Prim.Native.Nat.{ℕ, zero, suc, ◌+◌, ◌<◌, ◌≤◌}
use native.Mathlib.Numerals.{add-one}
use native.Mathlib.Omega.{arith}
use lib.Dec.{eqb}
use borrow.Author.Tests.{eqb-true, eq-eqb, ne_eqb}
use Rattle.count.specs.Below.{count, tick, find}
use Rattle.count.proofs.Logic.{same_or_not, lt_or_ge, true_or_false, both}
use Rattle.count.proofs.Search.{find_has, find_not}

pub count_zero : (P : ℕ → Bool) → count P 0 ≡ 0
unfolding count
count_zero P = refl

pub count_yes : (P : ℕ → Bool) (n : ℕ) → P n ≡ true → count P (n + 1) ≡ count P n + 1
unfolding count
count_yes P n h = rw (add-one n, add-one (count P n), h)

pub count_no : (P : ℕ → Bool) (n : ℕ) → P n ≡ false → count P (n + 1) ≡ count P n
unfolding count
count_no P n h = rw (add-one, h)

tick_le : (t : Bool) (k : ℕ) → (k ≤ tick t k) × (tick t k ≤ k + 1)
tick_le true k = omega arith
tick_le false k = omega arith

pub count_le : (P : ℕ → Bool) (n : ℕ) → count P n ≤ n
unfolding count
count_le P zero = omega arith
count_le P (suc n) = omega (arith, count_le P n, tick_le (P n) (count P n))

pub count_mono : (P : ℕ → Bool) (i n : ℕ) → i ≤ n → count P i ≤ count P n
unfolding count
count_mono P i zero h = let e : i ≡ 0 = omega arith in rw e (omega arith)
count_mono P i (suc n) h =
    elim (same_or_not i (suc n)) [
      | inl e ↦ rw e (omega arith)
      | inr d ↦ omega (arith, count_mono P i n (omega arith), tick_le (P n) (count P n))
    ]

pub count_before : (P : ℕ → Bool) (x n : ℕ) → x < n → P x ≡ true → count P x < count P n
count_before P x n l h = omega (arith, count_yes P x h, count_mono P (x + 1) n (omega arith))

pub count_stays : (P : ℕ → Bool) (p n : ℕ) → p ≤ n → ((x : ℕ) → p ≤ x → x < n → P x ≡ false) → count P n ≡ count P p
unfolding count
count_stays P p zero h none = let e : p ≡ 0 = omega arith in rw e
count_stays P p (suc n) h none =
    elim (same_or_not p (suc n)) [
      | inl e ↦ rw e
      | inr d ↦ rw (none n (omega arith) (omega arith)) (count_stays P p n (omega arith) (λ x i j. none x i (omega arith)))
    ]

pub count_next : (P : ℕ → Bool) (p n : ℕ) → p < n → P p ≡ true → ((x : ℕ) → p < x → x < n → P x ≡ false) → count P n ≡ count P p + 1
count_next P p n h t none =
    count_stays P (p + 1) n (omega arith) (λ x i j. none x (omega arith) j) ∙ count_yes P p t

pub count_same : (P Q : ℕ → Bool) (n : ℕ) → ((x : ℕ) → x < n → P x ≡ Q x) → count P n ≡ count Q n
unfolding count
count_same P Q zero same = refl
count_same P Q (suc n) same = rw (same n (omega arith), count_same P Q n (λ x l. same x (omega arith)))

tick_implies : (s t : Bool) (j k : ℕ) → (s ≡ true → t ≡ true) → j ≤ k → tick s j ≤ tick t k
tick_implies true t j k f h = rw (f refl) (omega arith)
tick_implies false true j k f h = omega arith
tick_implies false false j k f h = h

pub count_implies : (P Q : ℕ → Bool) (n : ℕ) → ((x : ℕ) → x < n → P x ≡ true → Q x ≡ true) → count P n ≤ count Q n
unfolding count
count_implies P Q zero imp = omega arith
count_implies P Q (suc n) imp = tick_implies (P n) (Q n) (count P n) (count Q n) (imp n (omega arith)) (count_implies P Q n (λ x l. imp x (omega arith)))

tick_split : (s t : Bool) (i j k : ℕ) → i + j ≡ k → tick (s && t) i + tick (s && not t) j ≡ tick s k
tick_split true true i j k e = omega arith
tick_split true false i j k e = omega arith
tick_split false t i j k e = e

pub count_split : (P Q : ℕ → Bool) (n : ℕ) → count (λ x. P x && Q x) n + count (λ x. P x && not (Q x)) n ≡ count P n
unfolding count
count_split P Q zero = omega arith
count_split P Q (suc n) = tick_split (P n) (Q n) (count (λ x. P x && Q x) n) (count (λ x. P x && not (Q x)) n) (count P n) (count_split P Q n)

pub count_none : (P : ℕ → Bool) (n : ℕ) → ((x : ℕ) → x < n → P x ≡ false) → count P n ≡ 0
unfolding count
count_none P zero none = refl
count_none P (suc n) none = rw (none n (omega arith)) (count_none P n (λ x l. none x (omega arith)))

pub count_all : (P : ℕ → Bool) (n : ℕ) → ((x : ℕ) → x < n → P x ≡ true) → count P n ≡ n
unfolding count
count_all P zero all = refl
count_all P (suc n) all = rw (all n (omega arith)) (ap suc (count_all P n (λ x l. all x (omega arith))))

pub count_not : (P : ℕ → Bool) (n : ℕ) → count P n + count (λ x. not (P x)) n ≡ n
count_not P n = count_split (λ x. true) P n ∙ count_all (λ x. true) n (λ x l. refl)

tick_one : (t : Bool) (j k : ℕ) → j + 1 ≡ k → tick t j + 1 ≡ tick t k
tick_one true j k e = omega arith
tick_one false j k e = e

and_true : (t : Bool) → t && true ≡ t
and_true true = refl
and_true false = refl

pub count_one_less : (P Q : ℕ → Bool) (n a : ℕ) → a < n → P a ≡ true → Q a ≡ false → ((x : ℕ) → x < n → x ≢ a → P x ≡ Q x) → count Q n + 1 ≡ count P n
unfolding count
count_one_less P Q zero a l p q same = absurd (omega arith)
count_one_less P Q (suc n) a l p q same =
    elim (same_or_not n a) [
      | inl e ↦
          let pn : P n ≡ true = rw e p in
          let qn : Q n ≡ false = rw e q in
          rw (pn, qn) (omega (arith, count_same P Q n (λ x h. same x (omega arith) (omega arith))))
      | inr d ↦
          rw (same n (omega arith) d) (tick_one (Q n) (count Q n) (count P n) (count_one_less P Q n a (omega arith) p q (λ x h. same x (omega arith))))
    ]

-- y has the test and is not the number removed
abbrev others : (ℕ → Bool) → ℕ → ℕ → Bool
others Q z y = Q y && not (eqb y z)

others_one_less : (Q : ℕ → Bool) (m z : ℕ) → z < m → Q z ≡ true → count (others Q z) m + 1 ≡ count Q m
others_one_less Q m z l h =
    count_one_less Q (others Q z) m z l h (rw (h, eq-eqb z z refl))
    (λ x b d. rw (ne_eqb x z d) (sym (and_true (Q x))))

pub count_injection : (P Q : ℕ → Bool) (f : ℕ → ℕ) (n m : ℕ)
    → ((x : ℕ) → x < n → P x ≡ true → f x < m)
    → ((x : ℕ) → x < n → P x ≡ true → Q (f x) ≡ true)
    → ((x y : ℕ) → x < n → y < n → P x ≡ true → P y ≡ true → f x ≡ f y → x ≡ y)
    → count P n ≤ count Q m
unfolding count
count_injection P Q f zero m below has inj = omega arith
count_injection P Q f (suc n) m below has inj =
    elim (true_or_false (P n)) [
      | inl t ↦
          let other : count P n ≤ count (others Q (f n)) m
          = count_injection P (others Q (f n)) f n m (λ x l. below x (omega arith))
          (λ x l h. both (Q (f x)) (not (eqb (f x) (f n))) (has x (omega arith) h)
          (rw (ne_eqb (f x) (f n) (λ e. let d = inj x n (omega arith) (omega arith) h t e in omega arith))))
          (λ x y l k. inj x y (omega arith) (omega arith)) in
          rw t (omega (arith, others_one_less Q m (f n) (below n (omega arith) t) (has n (omega arith) t)))
      | inr e ↦
          rw e (count_injection P Q f n m (λ x l. below x (omega arith)) (λ x l. has x (omega arith)) (λ x y l k. inj x y (omega arith) (omega arith)))
    ]

pub injective_onto : (f : ℕ → ℕ) (n : ℕ) → ((x : ℕ) → x < n → f x < n) → ((x y : ℕ) → x < n → y < n → f x ≡ f y → x ≡ y)
    → (y : ℕ) → y < n → (x : ℕ) × (x < n) × (f x ≡ y)
injective_onto f n below inj y l =
    let hits : ℕ → Bool = λ x. eqb (f x) y in
    elim (lt_or_ge (find hits n) n) [
      | inl b ↦ (find hits n, b, eqb-true (f (find hits n)) y (find_has hits n b))
      | inr g ↦
          let miss : (x : ℕ) → x < n → eqb (f x) y ≡ false = λ x h. find_not hits n x (omega arith) in
          let few : count (λ x. true) n ≤ count (others (λ x. true) y) n
          = count_injection (λ x. true) (others (λ x. true) y) f n n (λ x h t. below x h) (λ x h t. rw (miss x h)) (λ x z h k s t. inj x z h k) in
          absurd (omega (arith, few, others_one_less (λ x. true) n y l refl))
    ]
