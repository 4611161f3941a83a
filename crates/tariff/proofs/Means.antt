-- The mean of factors lies between 1/128 and 128, whatever is rounded.
--
-- Every factor does, by its bounds 0.01 and 100; then a sum of c of them lies between c / 128 and 128 c. Both are numbers that
-- the format has, for c up to 4,096, and rounding keeps the order: so what is rounded stays between them, sum after sum.
--
-- Near c x        == the number x lies between c / 128 and 128 c
-- near_positive   == for a c above 0 it is above 0
-- exact           == c up to 4,096 times a power of 2 is a number that the format has
-- floor_exact, ceiling_exact, count_exact == so c / 128, 128 c and c are
-- near_round      == a fraction that lies there is rounded to a number that does
-- near_within     == a number within the bounds is Near 1
-- add_is, div_is  == a sum and a quotient are their fractions, rounded
-- near_add        == one factor more
-- near_mean       == a sum of c, divided by c
-- near_added, near_summed == the sum of factors that are allowed
-- mean_near       == their mean
-- near_bounds     == Near 1, as a comparison of floats
-- Assumes nothing.
use mathlib.Core.Path.{◌≡◌, refl, sym, ap, ◌∙◌, subst}
use mathlib.Core.Bool.{Bool, true, false, cond}
use mathlib.Core.List.{List, [], ◌∷◌}
use Prim.Native.Nat.{ℕ, suc, ◌+◌, ◌*◌, ◌^◌, ◌≤◌, ◌<◌}
use native.Mathlib.Nat.{mul_assoc, mul-le-mul_right, mul-pos, lt_of_lt_of_le}
use native.Mathlib.Omega.{arith}
use lib.IntN.{pos}
use lib.ListN.{length, get_or}
use lib.Dec.{T, eqb, lit≤, ltb→lt, lt→ltb}
use lib.Pow.{pow_mono, shl_lt}
use borrow.Author.Tests.{ne_eqb}
use lib.Ieee.{Float, nan, inf, fin, up, down, binary64, low, round, add, div, of_int, of_bits, le}
use lib.Ieee.Fits.{down_pos}
use lib.Ieee.Exact.{HasValue, round_exact}
use lib.Ieee.Order.{le_of_values, round_mono}
use lib.Ieee.Positive.{positive, num, den, den_pos, own_value, value→cross, first_pos, positive_of_value}
use lib.Ieee.Positive.{values_of_le, le_trans_positive, between}
use Rattle.count.proofs.Logic.{both_left, both_right}
use Rattle.tariff.specs.declared.factor.Factor.{Factor}
use Rattle.tariff.specs.declared.factor.Running.{Running}
use Rattle.tariff.specs.Tariff.{least, most, within, held, allowed, begun, added, summed, mean}
use Rattle.tariff.proofs.Lists.{added_most, summed_most}
use Rattle.tariff.proofs.Held.{is_true, holds, least_positive, most_positive, within_positive, held_within}

-- finite and not negative
abbrev plain : Float → Bool
plain nan = false
plain (inf s) = false
plain (fin true m e) = false
plain (fin false m e) = true

pub record Near (c : ℕ) (x : Float) : Type 0 where
  pub finite : T (plain x)
  pub low : c * den x ≤ num x * 128
  pub high : num x ≤ c * 128 * den x

positive_plain : (x : Float) → T (positive x) → T (plain x)
positive_plain nan p = absurd p
positive_plain (inf s) p = absurd p
positive_plain (fin true m e) p = absurd p
positive_plain (fin false m e) p = tt

some : (c d n : ℕ) → 0 < c * d → c * d ≤ n * 128 → 0 < n
some c d n p h = omega arith

pub near_positive : (c : ℕ) (x : Float) → 0 < c → Near c x → T (positive x)
near_positive c nan p N = N.finite
near_positive c (inf s) p N = N.finite
near_positive c (fin true m e) p N = N.finite
near_positive c (fin false m e) p N =
    lt→ltb 0 m (first_pos m (up e) (some c (down e) (m * up e) (mul-pos p (down_pos e)) N.low))

-- ---- the bounds of a sum, and the count, are numbers of the format
exact : (c a b j : ℕ) → c ≤ 4096 → 0 < b → 13 + j ≤ 2098 → a * 2 ^ low binary64 ≡ c * 2 ^ j * b
    → HasValue (round binary64 false a b) false a b
exact c a b j few p k e =
    round_exact binary64 false a b c j p (omega arith) (lt_of_lt_of_le (shl_lt 13 j (omega arith)) (pow_mono k)) e

floor_exact : (c : ℕ) → c ≤ 4096 → HasValue (round binary64 false c 128) false c 128
floor_exact c few = exact c c 128 1067 few (omega arith) (lit≤ tt) (sym (mul_assoc c (2 ^ 1067) 128))

ceiling_exact : (c : ℕ) → c ≤ 4096 → HasValue (round binary64 false (c * 128) 1) false (c * 128) 1
ceiling_exact c few = exact c (c * 128) 1 1081 few (omega arith) (lit≤ tt) (mul_assoc c 128 (2 ^ 1074) ∙ sym (mul_assoc c (2 ^ 1081) 1))

count_exact : (c : ℕ) → c ≤ 4096 → HasValue (round binary64 false c 1) false c 1
count_exact c few = exact c c 1 1074 few (omega arith) (lit≤ tt) (sym (mul_assoc c (2 ^ 1074) 1))

pub near_round : (c n d : ℕ) → 0 < c → c ≤ 4096 → 0 < d → c * d ≤ n * 128 → n ≤ c * 128 * d → Near c (round binary64 false n d)
near_round c n d p few q l h =
    let f = binary64 in
    let y = round f false n d in
    let lo = round f false c 128 in
    let hi = round f false (c * 128) 1 in
    let L : HasValue lo false c 128 = floor_exact c few in
    let H : HasValue hi false (c * 128) 1 = ceiling_exact c few in
    let lp = positive_of_value lo c 128 L p in
    let hp = positive_of_value hi (c * 128) 1 H (omega arith) in
    let a : T (le lo y) = round_mono f c 128 n d (omega arith) q l in
    let b : T (le y hi) = round_mono f n d (c * 128) 1 q (omega arith) (omega arith) in
    let yp : T (positive y) = between lo y hi lp hp a b in
    record {
      finite = positive_plain y yp;
      low = values_of_le lo y c 128 (num y) (den y) lp yp L (own_value y yp) a;
      high = omega (arith, values_of_le y hi (num y) (den y) (c * 128) 1 yp hp (own_value y yp) H b);
    }

-- ---- 1/128 and 128
abbrev lowest : Float
lowest = of_bits binary64 0x3f80_0000_0000_0000

abbrev highest : Float
highest = of_bits binary64 0x4060_0000_0000_0000

lowest_value : HasValue lowest false 1 128
unfolding of_bits
lowest_value = (refl, refl)

highest_value : HasValue highest false 128 1
unfolding of_bits
highest_value = (refl, refl)

lowest_positive : T (positive lowest)
lowest_positive = positive_of_value lowest 1 128 lowest_value (omega arith)

highest_positive : T (positive highest)
highest_positive = positive_of_value highest 128 1 highest_value (omega arith)

lowest_least : T (le lowest least)
unfolding le of_bits
lowest_least = tt

most_highest : T (le most highest)
unfolding le of_bits
most_highest = tt

pub near_within : (x : Float) → within x ≡ true → Near 1 x
unfolding within
near_within x e =
    let p = within_positive x e in
    let l = le_trans_positive lowest least x lowest_positive least_positive p lowest_least (holds (both_left (le least x) (le x most) e)) in
    let h = le_trans_positive x most highest p most_positive highest_positive (holds (both_right (le least x) (le x most) e)) most_highest in
    record {
      finite = positive_plain x p;
      low = values_of_le lowest x 1 128 (num x) (den x) lowest_positive p lowest_value (own_value x p) l;
      high = omega (arith, values_of_le x highest (num x) (den x) 128 1 p highest_positive (own_value x p) highest_value h);
    }

pub near_bounds : (x : Float) → Near 1 x → (le lowest x ≡ true) × (le x highest ≡ true)
near_bounds x N =
    let p = near_positive 1 x (omega arith) N in
    let v = own_value x p in
    let d = den_pos x in (
      is_true (le_of_values lowest x 1 128 (num x) (den x) (omega arith) d lowest_value v N.low),
      is_true (le_of_values x highest (num x) (den x) 128 1 d (omega arith) v highest_value (omega (arith, N.high))),
    )

-- ---- one factor more
add_is : (x y : Float) → T (plain x) → T (plain y)
    → add binary64 x y ≡ round binary64 false (num x * den y + num y * den x) (den x * den y)
unfolding add
add_is nan y p q = absurd p
add_is (inf s) y p q = absurd p
add_is (fin true m e) y p q = absurd p
add_is (fin false m e) nan p q = absurd q
add_is (fin false m e) (inf t) p q = absurd q
add_is (fin false m e) (fin true n d) p q = absurd q
add_is (fin false m e) (fin false n d) p q = refl

sum_low : (c n d m b : ℕ) → c * d ≤ n * 128 → 1 * b ≤ m * 128 → (c + 1) * (d * b) ≤ (n * b + m * d) * 128
sum_low c n d m b h k = omega (arith, mul-le-mul_right b h, mul-le-mul_right d k)

sum_high : (c n d m b : ℕ) → n ≤ c * 128 * d → m ≤ 1 * 128 * b → n * b + m * d ≤ (c + 1) * 128 * (d * b)
sum_high c n d m b h k = omega (arith, mul-le-mul_right b h, mul-le-mul_right d k)

pub near_add : (c : ℕ) (s x : Float) → c < 4096 → Near c s → Near 1 x → Near (c + 1) (add binary64 s x)
near_add c s x few S X =
    subst (Near (c + 1)) (sym (add_is s x S.finite X.finite))
    (near_round (c + 1) (num s * den x + num x * den s) (den s * den x) (omega arith) (omega arith) (mul-pos (den_pos s) (den_pos x))
    (sum_low c (num s) (den s) (num x) (den x) S.low X.low)
    (sum_high c (num s) (den s) (num x) (den x) S.high X.high))

-- ---- divided by the count
div_is : (x y : Float) → T (plain x) → T (positive y) → div binary64 x y ≡ round binary64 false (num x * den y) (num y * den x)
unfolding div
div_is nan y p q = absurd p
div_is (inf s) y p q = absurd p
div_is (fin true m e) y p q = absurd p
div_is (fin false m e) nan p q = absurd q
div_is (fin false m e) (inf t) p q = absurd q
div_is (fin false m e) (fin true n d) p q = absurd q
div_is (fin false m e) (fin false n d) p q =
    let l = ltb→lt 0 n q in
    ap (λ b. cond b (cond (eqb m 0) nan (inf false)) (round binary64 false (m * up e * down d) (n * up d * down e))) (ne_eqb n 0 (omega arith))

of_count : (c : ℕ) → of_int binary64 (pos c) ≡ round binary64 false c 1
unfolding of_int
of_count c = refl

mean_low : (c n d m b : ℕ) → c * d ≤ n * 128 → m * 1 ≡ c * b → 1 * (m * d) ≤ n * b * 128
mean_low c n d m b h e =
    let p : m ≡ c * b = omega arith in
    rw p (omega (arith, mul-le-mul_right b h))

mean_high : (c n d m b : ℕ) → n ≤ c * 128 * d → m * 1 ≡ c * b → n * b ≤ 1 * 128 * (m * d)
mean_high c n d m b h e =
    let p : m ≡ c * b = omega arith in
    rw p (omega (arith, mul-le-mul_right b h))

pub near_mean : (c : ℕ) (s : Float) → 0 < c → c ≤ 4096 → Near c s → Near 1 (div binary64 s (of_int binary64 (pos c)))
near_mean c s p few S =
    let y = round binary64 false c 1 in
    let v : HasValue y false c 1 = count_exact c few in
    let q : T (positive y) = positive_of_value y c 1 v p in
    let e : num y * 1 ≡ c * den y = value→cross y c 1 v in
    let n : 0 < num y = omega (arith, mul-pos p (den_pos y)) in
    subst (λ z. Near 1 (div binary64 s z)) (sym (of_count c))
    (subst (Near 1) (sym (div_is s y S.finite q))
    (near_round 1 (num s * den y) (num y * den s) (omega arith) (omega arith) (mul-pos n (den_pos s))
    (mean_low c (num s) (den s) (num y) (den y) S.low e)
    (mean_high c (num s) (den s) (num y) (den y) S.high e)))

-- ---- the sum of factors that are allowed, and their mean
begun_near : Near 0 begun.sum
unfolding of_bits
begun_near = record { finite = tt; low = omega arith; high = omega arith }

near_added : (r : Running) (f : Factor) → allowed f ≡ true → r.count < 4096 → Near r.count r.sum
    → Near (added r f).count (added r f).sum
unfolding added allowed
near_added r (Factor.Own x) a few N = near_add r.count r.sum x few N (near_within x a)
near_added r (Factor.Held x low high) a few N =
    near_add r.count r.sum (held x low high) few N (near_within (held x low high) (held_within x low high a))
near_added r Factor.Unknown a few N = N

module _ (t : ℕ → Factor) where
  near_summed : (js : List ℕ) (r : Running) → ((i : ℕ) → i < length js → allowed (t (get_or js i 0)) ≡ true) → r.count + length js ≤ 4096
      → Near r.count r.sum → Near (summed t js r).count (summed t js r).sum
  unfolding summed
  near_summed [] r a few N = N
  near_summed (j ∷ js) r a few N =
      near_summed js (added r (t j)) (λ i l. a (suc i) (omega arith)) (omega (arith, added_most r (t j)))
      (near_added r (t j) (a 0 (omega arith)) (omega arith) N)

  pub mean_near : (js : List ℕ) → ((i : ℕ) → i < length js → allowed (t (get_or js i 0)) ≡ true) → length js ≤ 4096
      → 0 < (summed t js begun).count → Near 1 (mean (summed t js begun))
  unfolding mean
  mean_near js a few p =
      let r = summed t js begun in
      near_mean r.count r.sum p (omega (arith, summed_most t js begun)) (near_summed js begun a (omega arith) begun_near)
