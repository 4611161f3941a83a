-- Lists made from the numbers below a bound: laws of table and gather.
--
-- table_length, table_get_d   == the table has n elements, and its i-th is f i
-- gather_length, gather_get_d == as many elements as numbers have the test, and the j-th is f at the j-th such number
-- table_same, gather_same    == equal elements, and equal tests, give equal lists
-- table_more                 == the table of one number more has one element more, at its end
-- table_map                  == a function of each element of a table gives a table
-- Assumes nothing.
use mathlib.Core.Path.{◌≡◌, refl, sym, ◌∙◌, ap}
use mathlib.Core.Logic.{inl, inr}
use mathlib.Core.Bool.{Bool}
use mathlib.Core.List.{[], ◌∷◌, ◌++◌, map}
use Prim.Native.Nat.{ℕ, zero, suc, ◌+◌, ◌<◌}
use native.Mathlib.Numerals.{add-one}
use native.Mathlib.Omega.{arith}
use lib.ListN.{length, get_or}
use lib.Seq.{ext_get_or}
use Rattle.count.specs.Below.{count, nth, table, table_from, gather, gather_from}
use Rattle.count.proofs.Logic.{true_or_false}
use Rattle.count.proofs.Counts.{count_zero, count_yes, count_no, count_same}
use Rattle.count.proofs.Rank.{nth_of_count, nth_below, nth_same}

module _ {ℓ} {X : Type ℓ} (f : ℕ → X) where
  from_length : (a k : ℕ) → length (table_from f a k) ≡ k
  unfolding table_from
  from_length a zero = refl
  from_length a (suc k) = ap suc (from_length (suc a) k)

  from_get_d : (a k i : ℕ) (d : X) → i < k → get_or (table_from f a k) i d ≡ f (a + i)
  unfolding table_from
  from_get_d a zero i d h = absurd (omega arith)
  from_get_d a (suc k) zero d h = let e : a + 0 ≡ a = omega arith in rw e
  from_get_d a (suc k) (suc i) d h =
      let e : suc a + i ≡ a + suc i = omega arith in
      from_get_d (suc a) k i d (omega arith) ∙ ap f e

  pub table_length : (n : ℕ) → length (table f n) ≡ n
  unfolding table
  table_length n = from_length 0 n

  pub table_get_d : (n i : ℕ) (d : X) → i < n → get_or (table f n) i d ≡ f i
  unfolding table
  table_get_d n i d h = let e : 0 + i ≡ i = omega arith in from_get_d 0 n i d h ∙ ap f e

module _ {ℓ} {X : Type ℓ} (P : ℕ → Bool) (f : ℕ → X) where
  gathered_length : (a k n : ℕ) → a + k ≡ n → count P a + length (gather_from P f a k) ≡ count P n
  unfolding gather_from
  gathered_length a zero n e = let q : a ≡ n = omega arith in rw q (omega arith)
  gathered_length a (suc k) n e =
      let r : count P (a + 1) + length (gather_from P f (a + 1) k) ≡ count P n = gathered_length (a + 1) k n (omega arith) in
      let s : count P (a + 1) + length (gather_from P f (suc a) k) ≡ count P n = rw (← add-one a) r in
      elim (true_or_false (P a)) [ inl t ↦ rw t (omega (arith, count_yes P a t)) | inr q ↦ rw q (omega (arith, count_no P a q)) ]

  gathered_get_d : (a k n j c : ℕ) (d : X) → a + k ≡ n → c ≡ count P a + j → c < count P n → get_or (gather_from P f a k) j d ≡ f (nth P c n)
  unfolding gather_from
  gathered_get_d a zero n j c d e s h = let q : a ≡ n = omega arith in absurd (omega (arith, rw q at s))
  gathered_get_d a (suc k) n zero c d e s h =
      elim (true_or_false (P a)) [
        | inl t ↦
            let q : c ≡ count P a = omega arith in
            rw (t, q) (ap f (sym (nth_of_count P a n (omega arith) t)))
        | inr u ↦
            rw u (gathered_get_d (suc a) k n 0 c d (omega arith) (omega (arith, rw add-one at (count_no P a u))) h)
      ]
  gathered_get_d a (suc k) n (suc j) c d e s h =
      elim (true_or_false (P a)) [
        | inl t ↦
            rw t (gathered_get_d (suc a) k n j c d (omega arith) (omega (arith, rw (add-one a) at (count_yes P a t))) h)
        | inr u ↦
            rw u (gathered_get_d (suc a) k n (suc j) c d (omega arith) (omega (arith, rw add-one at (count_no P a u))) h)
      ]

  pub gather_length : (n : ℕ) → length (gather P f n) ≡ count P n
  unfolding gather
  gather_length n = omega (arith, gathered_length 0 n n (omega arith), count_zero P)

  pub gather_get_d : (n j : ℕ) (d : X) → j < count P n → get_or (gather P f n) j d ≡ f (nth P j n)
  unfolding gather
  gather_get_d n j d h =
      gathered_get_d 0 n n j j d (omega arith) (omega (arith, count_zero P)) h

module _ {ℓ} {X : Type ℓ} (f g : ℕ → X) where
  from_same : (a k : ℕ) → ((x : ℕ) → x < a + k → f x ≡ g x) → table_from f a k ≡ table_from g a k
  unfolding table_from
  from_same a zero same = refl
  from_same a (suc k) same =
      ap (λ x. x ∷ table_from f (suc a) k) (same a (omega arith))
      ∙ ap (λ l. g a ∷ l) (from_same (suc a) k (λ x l. same x (omega arith)))

  pub table_same : (n : ℕ) → ((x : ℕ) → x < n → f x ≡ g x) → table f n ≡ table g n
  unfolding table
  table_same n same = from_same 0 n (λ x l. same x (omega arith))

module _ {ℓ} {X : Type ℓ} (f : ℕ → X) where
  from_more : (a k : ℕ) → table_from f a (suc k) ≡ table_from f a k ++ (f (a + k) ∷ [])
  unfolding table_from
  from_more a zero = let e : a ≡ a + 0 = omega arith in ap (λ x. f x ∷ []) e
  from_more a (suc k) =
      let e : suc a + k ≡ a + suc k = omega arith in
      ap (λ l. f a ∷ l) (from_more (suc a) k ∙ ap (λ x. table_from f (suc a) k ++ (f x ∷ [])) e)

  pub table_more : (n : ℕ) → table f (suc n) ≡ table f n ++ (f n ∷ [])
  unfolding table
  table_more n = let e : 0 + n ≡ n = omega arith in from_more 0 n ∙ ap (λ x. table_from f 0 n ++ (f x ∷ [])) e

module _ {ℓ} {X Y : Type ℓ} (h : X → Y) (f : ℕ → X) where
  from_map : (a k : ℕ) → map h (table_from f a k) ≡ table_from (λ i. h (f i)) a k
  unfolding table_from
  from_map a zero = refl
  from_map a (suc k) = ap (λ l. h (f a) ∷ l) (from_map (suc a) k)

  pub table_map : (n : ℕ) → map h (table f n) ≡ table (λ i. h (f i)) n
  unfolding table
  table_map n = from_map 0 n

pub gather_same : (P Q : ℕ → Bool) (f g : ℕ → ℕ) (n : ℕ) → ((x : ℕ) → x < n → P x ≡ Q x) → ((x : ℕ) → x < n → f x ≡ g x)
    → gather P f n ≡ gather Q g n
gather_same P Q f g n tests same =
    let a = gather_length P f n in
    let b = gather_length Q g n in
    let c = count_same P Q n tests in
    ext_get_or 0 (gather P f n) (gather Q g n) (omega arith)
    (λ j l. gather_get_d P f n j 0 (omega arith) ∙ same (nth P j n) (nth_below P j n (omega arith)) ∙ ap g (nth_same P Q j n tests)
    ∙ sym (gather_get_d Q g n j 0 (omega arith)))
