-- The laws of reading a string of bits, for whoever calls: over the bit v where they count.
--
-- bit_below_2, bit_cases     == a bit is 0 or 1
-- bit_past                   == a bit past the end is 0
-- bit_at                     == the bit by its byte and its place there
-- rank_zero, rank_here, rank_other == the rank from one position to the next
-- rank_le, rank_mono, rank_before  == a rank is at most its position, never falls, and rises over a bit that counts
-- rank_both                  == each bit is 0 or 1: the two ranks add up to the position
-- rank_among                 == what stands among the bits from p on is the difference of two ranks
-- field_below                == a field of w bits is below 2 ^ w
-- field_join                 == two fields, one after the other, make one field
-- field_first, field_rest    == the first bit of a field, and the others
-- field_part                 == a field within a field
-- rank_same, select_same     == strings with the same bits have the same ranks and positions
-- select_le, select_below, select_none == a selected position is at most n, and below n exactly if there are enough
-- select_holds               == a selected position holds the bit
-- rank_select, select_rank   == rank and select undo one another
-- select_mono                == a later one stands later
-- bracket_0, bracket_1, bracket_not_0, opens_0, closes_1 == 0 opens and 1 closes, and the converse
-- bracket_cases              == every bracket opens or closes
-- rank_openings              == the openings before a position are its zeros
-- unused_zero_from, unused_zero_has == unused_zero holds exactly if every bit from k on is 0
-- Assumes nothing.
use mathlib.Core.Path.{◌≡◌, sym, ap, ◌∙◌}
use mathlib.Core.Logic.{◌⊎◌, inl, inr, ⊎_elim}
use mathlib.Core.Bool.{true, false, not}
use mathlib.Core.List.{List}
use Prim.Native.Nat.{ℕ, zero, suc, ◌+◌, ◌-◌, ◌*◌, ◌/◌, ◌%◌, ◌^◌, ◌<◌, ◌≤◌}
use native.Mathlib.Nat.{add-zero, add-suc, zero-mul, add-mul, mul_assoc, mul_comm, pow-suc, zero-div}
use native.Mathlib.Omega.{arith}
use borrow.Author.Tests.{eq-eqb, ne_eqb, eqb-true}
use lib.Arith.{digits_lt}
use lib.Dec.{eqb}
use lib.ListN.{get_or, length, get_or-eq_default}
use lib.Pow.{pow-add, high, low}
use Rattle.count.specs.Below.{count}
use Rattle.count.proofs.Logic.{same_or_not, lt_or_ge, pick_yes, pick_no}
use Rattle.count.proofs.Below.{count_zero, count_yes, count_no, count_le, count_mono, count_before, count_same, count_not, nth_has, nth_count, nth_below, nth_none, nth_le, nth_of_count, nth_mono, nth_same, all_from, all_has}
use Rattle.words.specs.Brackets.{opens, closes, is_opens}
use Rattle.words.proofs.Letters.{opens_not_closes}
use Rattle.bits.specs.Strings.{bit, is_bit, rank, select, field, among, brackets, unused_zero}

pub bit_below_2 : (s : List ℕ) (i : ℕ) → bit s i < 2
unfolding bit
bit_below_2 s i = omega arith

-- one of two
pub bit_cases {ℓ} : {X : Type ℓ} (s : List ℕ) (i : ℕ) → (bit s i ≡ 0 → X) → (bit s i ≡ 1 → X) → X
bit_cases s i f g = ⊎_elim f (λ n. g (let h = bit_below_2 s i in omega arith)) (same_or_not (bit s i) 0)

pub bit_past : (s : List ℕ) (i : ℕ) → 8 * length s ≤ i → bit s i ≡ 0
unfolding bit
bit_past s i l = rw (get_or-eq_default s 0 {n = i / 8} (omega arith), zero-div (2 ^ (i % 8)))

-- bit r of byte k
pub bit_at : (s : List ℕ) (k r : ℕ) → r < 8 → bit s (8 * k + r) ≡ get_or s k 0 / 2 ^ r % 2
unfolding bit
bit_at s k r l =
    let e : (8 * k + r) / 8 ≡ k = omega arith in
    let f : (8 * k + r) % 8 ≡ r = omega arith in
    rw (e, f)

module _ (v : ℕ) (s : List ℕ) where
  is_bit_lem : (i : ℕ) → bit s i ≡ v → is_bit v s i ≡ true
  is_bit_lem i e = eq-eqb (bit s i) v e

  not_bit : (i : ℕ) → (bit s i ≡ v → ⊥) → is_bit v s i ≡ false
  not_bit i n = ne_eqb (bit s i) v n

  pub rank_zero : rank v s 0 ≡ 0
  unfolding rank
  rank_zero = count_zero (is_bit v s)

  pub rank_here : (i : ℕ) → bit s i ≡ v → rank v s (i + 1) ≡ rank v s i + 1
  unfolding rank
  rank_here i e = count_yes (is_bit v s) i (is_bit_lem i e)

  pub rank_other : (i : ℕ) → (bit s i ≡ v → ⊥) → rank v s (i + 1) ≡ rank v s i
  unfolding rank
  rank_other i n = count_no (is_bit v s) i (not_bit i n)

  pub rank_le : (i : ℕ) → rank v s i ≤ i
  unfolding rank
  rank_le i = count_le (is_bit v s) i

  pub rank_mono : (i n : ℕ) → i ≤ n → rank v s i ≤ rank v s n
  unfolding rank
  rank_mono i n l = count_mono (is_bit v s) i n l

  pub rank_before : (i n : ℕ) → i < n → bit s i ≡ v → rank v s i < rank v s n
  unfolding rank
  rank_before i n l e = count_before (is_bit v s) i n l (is_bit_lem i e)

  pub select_le : (n j : ℕ) → select v s n j ≤ n
  unfolding select
  select_le n j = nth_le (is_bit v s) j n

  pub select_below : (n j : ℕ) → j < rank v s n → select v s n j < n
  unfolding rank select
  select_below n j l = nth_below (is_bit v s) j n l

  pub select_none : (n j : ℕ) → rank v s n ≤ j → select v s n j ≡ n
  unfolding rank select
  select_none n j l = nth_none (is_bit v s) j n l

  pub select_holds : (n j : ℕ) → select v s n j < n → bit s (select v s n j) ≡ v
  unfolding select
  select_holds n j l = eqb-true (bit s (select v s n j)) v (nth_has (is_bit v s) j n l)

  pub rank_select : (n j : ℕ) → select v s n j < n → rank v s (select v s n j) ≡ j
  unfolding rank select
  rank_select n j l = nth_count (is_bit v s) j n l

  pub select_rank : (n i : ℕ) → i < n → bit s i ≡ v → select v s n (rank v s i) ≡ i
  unfolding rank select
  select_rank n i l e = nth_of_count (is_bit v s) i n l (is_bit_lem i e)

  pub select_mono : (n i j : ℕ) → i < j → j < rank v s n → select v s n i < select v s n j
  unfolding rank select
  select_mono n i j l h = nth_mono (is_bit v s) i j n l h

pub bracket_0 : (s : List ℕ) (i : ℕ) → bit s i ≡ 0 → brackets s i ≡ opens
unfolding brackets
bracket_0 s i e = pick_yes (eqb (bit s i) 0) opens closes (eq-eqb (bit s i) 0 e)

pub bracket_not_0 : (s : List ℕ) (i : ℕ) → (bit s i ≡ 0 → ⊥) → brackets s i ≡ closes
unfolding brackets
bracket_not_0 s i n = pick_no (eqb (bit s i) 0) opens closes (ne_eqb (bit s i) 0 n)

pub bracket_1 : (s : List ℕ) (i : ℕ) → bit s i ≡ 1 → brackets s i ≡ closes
bracket_1 s i e = bracket_not_0 s i (omega arith)

pub bracket_cases : (s : List ℕ) (i : ℕ) → (brackets s i ≡ opens) ⊎ (brackets s i ≡ closes)
bracket_cases s i = bit_cases s i (λ e. inl (bracket_0 s i e)) (λ e. inr (bracket_1 s i e))

pub opens_0 : (s : List ℕ) (i : ℕ) → brackets s i ≡ opens → bit s i ≡ 0
opens_0 s i o = bit_cases s i (λ e. e) (λ e. absurd (opens_not_closes o (bracket_1 s i e)))

pub closes_1 : (s : List ℕ) (i : ℕ) → brackets s i ≡ closes → bit s i ≡ 1
closes_1 s i c = bit_cases s i (λ e. absurd (opens_not_closes (bracket_0 s i e) c)) (λ e. e)

opens_bit : (s : List ℕ) (i : ℕ) → is_opens (brackets s i) ≡ is_bit 0 s i
opens_bit s i = bit_cases s i (λ e. ap is_opens (bracket_0 s i e) ∙ rw e) (λ e. ap is_opens (bracket_1 s i e) ∙ rw e)

pub rank_openings : (s : List ℕ) (i : ℕ) → count (λ q. is_opens (brackets s q)) i ≡ rank 0 s i
unfolding rank
rank_openings s i = count_same (λ q. is_opens (brackets s q)) (is_bit 0 s) i (λ q l. opens_bit s q)

other_bit : (s : List ℕ) (i : ℕ) → not (is_bit 0 s i) ≡ is_bit 1 s i
other_bit s i = bit_cases s i (λ e. rw e) (λ e. rw e)

pub rank_both : (s : List ℕ) (i : ℕ) → rank 0 s i + rank 1 s i ≡ i
unfolding rank
rank_both s i =
    rw (← count_same (λ x. not (is_bit 0 s x)) (is_bit 1 s) i (λ x l. other_bit s x)) (count_not (is_bit 0 s) i)

-- ---- a run of bits
module _ (v : ℕ) (s : List ℕ) (p : ℕ) where
  among_zero : among v s p 0 ≡ 0
  unfolding among
  among_zero = count_zero (λ i. is_bit v s (p + i))

  among_here : (w : ℕ) → bit s (p + w) ≡ v → among v s p (w + 1) ≡ among v s p w + 1
  unfolding among
  among_here w o = count_yes (λ i. is_bit v s (p + i)) w (is_bit_lem v s (p + w) o)

  among_other : (w : ℕ) → (bit s (p + w) ≡ v → ⊥) → among v s p (w + 1) ≡ among v s p w
  unfolding among
  among_other w n = count_no (λ i. is_bit v s (p + i)) w (not_bit v s (p + w) n)

  pub rank_among : (w : ℕ) → rank v s p + among v s p w ≡ rank v s (p + w)
  rank_among zero = rw (add-zero p) (omega (arith, among_zero))
  rank_among (suc w) =
      let e : p + suc w ≡ p + w + 1 = omega arith in
      let f : suc w ≡ w + 1 = omega arith in
      let h = rank_among w in
      rw (e, f)
      (elim (same_or_not (bit s (p + w)) v) [
        | inl o ↦ omega (arith, rank_here v s (p + w) o, among_here w o)
        | inr n ↦ omega (arith, rank_other v s (p + w) n, among_other w n)
      ])

pub field_below : (s : List ℕ) (p w : ℕ) → field s p w < 2 ^ w
unfolding field
field_below s p zero = omega arith
field_below s p (suc w) = rw (pow-suc 2 w, mul_comm (2 ^ w) 2) (digits_lt (bit_below_2 s (p + w)) (field_below s p w))

pub field_join : (s : List ℕ) (p a b : ℕ) → field s (p + a) b * 2 ^ a + field s p a ≡ field s p (a + b)
unfolding field
field_join s p a zero = rw (zero-mul (2 ^ a), add-zero a) (omega arith)
field_join s p a (suc b) =
    let e : p + a + b ≡ p + (a + b) = omega arith in
    let m : bit s (p + a + b) * 2 ^ b * 2 ^ a ≡ bit s (p + (a + b)) * 2 ^ (a + b) =
    rw (e, mul_assoc (bit s (p + (a + b))) (2 ^ b) (2 ^ a), mul_comm (2 ^ b) (2 ^ a), pow-add 2 a b) in
    rw (add-suc a b, add-mul (bit s (p + a + b) * 2 ^ b) (field s (p + a) b) (2 ^ a)) (omega (arith, m, field_join s p a b))

module _ (s : List ℕ) where
  field_one : (p : ℕ) → field s p 1 ≡ bit s p
  unfolding field
  field_one p = rw (add-zero p) (omega arith)

  first_and_rest : (p w : ℕ) → field s (p + 1) w * 2 + bit s p ≡ field s p (suc w)
  first_and_rest p w =
      let e : 1 + w ≡ suc w = omega arith in
      rw (field_one p, e) at (field_join s p 1 w)

  pub field_first : (p w : ℕ) → field s p (suc w) % 2 ≡ bit s p
  field_first p w = omega (arith, first_and_rest p w, bit_below_2 s p)

  pub field_rest : (p w : ℕ) → field s p (suc w) / 2 ≡ field s (p + 1) w
  field_rest p w = omega (arith, first_and_rest p w, bit_below_2 s p)

  pub field_part : (p t r w : ℕ) → r + w ≤ t → field s p t / 2 ^ r % 2 ^ w ≡ field s (p + r) w
  field_part p t r w l =
      let e : r + (t - r) ≡ t = omega arith in
      let f : w + (t - r - w) ≡ t - r = omega arith in
      let above : field s p t / 2 ^ r ≡ field s (p + r) (t - r) =
      rw e at (ap (λ x. x / 2 ^ r) (sym (field_join s p r (t - r))) ∙ high (field s (p + r) (t - r)) r (field_below s p r)) in
      rw above
      (rw f at (ap (λ x. x % 2 ^ w) (sym (field_join s (p + r) w (t - r - w))) ∙ low (field s (p + r + w) (t - r - w)) w (field_below s (p + r) w)))

module _ (v : ℕ) (s t : List ℕ) (n : ℕ) (same : (x : ℕ) → x < n → bit s x ≡ bit t x) where
  same_tests : (x : ℕ) → x < n → is_bit v s x ≡ is_bit v t x
  same_tests x l = ap (λ y. eqb y v) (same x l)

  pub rank_same : rank v s n ≡ rank v t n
  unfolding rank
  rank_same = count_same (is_bit v s) (is_bit v t) n same_tests

  pub select_same : (j : ℕ) → select v s n j ≡ select v t n j
  unfolding select
  select_same j = nth_same (is_bit v s) (is_bit v t) j n same_tests

pub unused_zero_from : (s : List ℕ) (k : ℕ) → ((i : ℕ) → k ≤ i → i < 8 * length s → bit s i ≡ 0) → unused_zero s k ≡ true
unfolding unused_zero
unused_zero_from s k h =
    all_from (λ i. is_bit 0 s (k + i)) (8 * length s - k) (λ i l. eq-eqb (bit s (k + i)) 0 (h (k + i) (omega arith) (omega arith)))

pub unused_zero_has : (s : List ℕ) (k i : ℕ) → unused_zero s k ≡ true → k ≤ i → bit s i ≡ 0
unfolding unused_zero
unused_zero_has s k i u l =
    elim (lt_or_ge i (8 * length s)) [
      | inl h ↦
          let e : k + (i - k) ≡ i = omega arith in
          rw e at (eqb-true (bit s (k + (i - k))) 0 (all_has (λ i. is_bit 0 s (k + i)) (8 * length s - k) u (i - k) (omega arith)))
      | inr g ↦ bit_past s i g
    ]
