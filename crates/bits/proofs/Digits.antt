-- One binary digit of a number, changed: what with_bit gives, digit by digit.
--
-- one_shifted      == 1 shifted by r within w places is 2 ^ r
-- digit_split      == a number is the digits above place r, the digit there, and those below
-- with_bit_here    == the digit at r is the new one
-- with_bit_other   == every other digit is as before
-- with_bit_below   == a number below 2 ^ w stays below it, for r below w
-- with_bit_either  == the number without its digit at r, and with the new one there
-- Assumes nothing.
use mathlib.Core.Path.{◌≡◌, sym, ap, ◌∙◌}
use mathlib.Core.Logic.{inl, inr}
use mathlib.Core.Bool.{Bool, true, false}
use Prim.Native.Nat.{ℕ, ◌+◌, ◌-◌, ◌*◌, ◌/◌, ◌%◌, ◌^◌, ◌<◌}
use native.Mathlib.Nat.{add_assoc, add-mul, mul_assoc, mul_comm, zero-mul, one-mul, mod-lt}
use native.Mathlib.Omega.{arith}
use lib.Arith.{digits_lt}
use lib.Pow.{pow_pos, pow-add, shl_exact, shr_lt, shr-shr, split, high, low, field, mod-mod-pow}
use Rattle.count.specs.Below.{pick}
use Rattle.count.proofs.Logic.{lt_or_ge}
use Rattle.bits.specs.Writes.{with_bit}

twice : (r : ℕ) → 2 ^ (r + 1) ≡ 2 ^ r + 2 ^ r
twice r = omega (arith, pow-add 2 r 1)

regroup : (q d m r : ℕ) → q * 2 ^ (r + 1) + d * 2 ^ r + m ≡ (q * 2 + d) * 2 ^ r + m
regroup q d m r = rw (pow-add 2 r 1, add-mul (q * 2) d (2 ^ r), mul_assoc q 2 (2 ^ r), mul_comm 2 (2 ^ r))

pub one_shifted : (w r : ℕ) → r < w → 1 * 2 ^ r % 2 ^ w ≡ 2 ^ r
one_shifted w r l = shl_exact 1 r w (omega arith) (omega arith) ∙ one-mul (2 ^ r)

pub digit_split : (x r : ℕ) → x / 2 ^ (r + 1) * 2 ^ (r + 1) + x / 2 ^ r % 2 * 2 ^ r + x % 2 ^ r ≡ x
digit_split x r =
    let e : x / 2 ^ (r + 1) * 2 + x / 2 ^ r % 2 ≡ x / 2 ^ r = omega (arith, shr-shr x r 1) in
    regroup (x / 2 ^ (r + 1)) (x / 2 ^ r % 2) (x % 2 ^ r) r ∙ rw e (split x r)

digit_small : (v : Bool) (m r : ℕ) → m < 2 ^ r → pick v 1 0 * 2 ^ r + m < 2 ^ (r + 1)
digit_small true m r l = omega (arith, twice r)
digit_small false m r l = omega (arith, twice r)

digit_below_2 : (v : Bool) → pick v 1 0 < 2
digit_below_2 true = omega arith
digit_below_2 false = omega arith

module _ (x r : ℕ) (v : Bool) where
  low_part : x % 2 ^ r < 2 ^ r
  low_part = mod-lt x (pow_pos r)

  -- the digits above
  above : with_bit x r v / 2 ^ (r + 1) ≡ x / 2 ^ (r + 1)
  unfolding with_bit
  above =
      rw (add_assoc (x / 2 ^ (r + 1) * 2 ^ (r + 1)) (pick v 1 0 * 2 ^ r) (x % 2 ^ r))
      (high (x / 2 ^ (r + 1)) (r + 1) (digit_small v (x % 2 ^ r) r low_part))

  -- the digits below
  below : with_bit x r v % 2 ^ r ≡ x % 2 ^ r
  unfolding with_bit
  below = rw (regroup (x / 2 ^ (r + 1)) (pick v 1 0) (x % 2 ^ r) r) (low (x / 2 ^ (r + 1) * 2 + pick v 1 0) r low_part)

  pub with_bit_here : with_bit x r v / 2 ^ r % 2 ≡ pick v 1 0
  unfolding with_bit
  with_bit_here =
      rw (regroup (x / 2 ^ (r + 1)) (pick v 1 0) (x % 2 ^ r) r, high (x / 2 ^ (r + 1) * 2 + pick v 1 0) r low_part)
      (omega (arith, digit_below_2 v))

  pub with_bit_below : (w : ℕ) → x < 2 ^ w → r < w → with_bit x r v < 2 ^ w
  unfolding with_bit
  with_bit_below w l h =
      let e : (w - (r + 1)) + (r + 1) ≡ w = omega arith in
      let q : x / 2 ^ (r + 1) < 2 ^ (w - (r + 1)) = shr_lt (w - (r + 1)) (r + 1) (rw e l) in
      let m : 2 ^ (w - (r + 1)) * 2 ^ (r + 1) ≡ 2 ^ w = sym (pow-add 2 (w - (r + 1)) (r + 1)) ∙ ap (λ k. 2 ^ k) e in
      rw (add_assoc (x / 2 ^ (r + 1) * 2 ^ (r + 1)) (pick v 1 0 * 2 ^ r) (x % 2 ^ r), ← m)
      (digits_lt q (digit_small v (x % 2 ^ r) r low_part))

above_digit : (n j r : ℕ) → r < j → n / 2 ^ j ≡ n / 2 ^ (r + 1) / 2 ^ (j - (r + 1))
above_digit n j r l =
    let e : (r + 1) + (j - (r + 1)) ≡ j = omega arith in
    sym (shr-shr n (r + 1) (j - (r + 1)) ∙ ap (λ k. n / 2 ^ k) e)

below_digit : (n j r : ℕ) → j < r → n / 2 ^ j % 2 ≡ n % 2 ^ r / 2 ^ j % 2
below_digit n j r l =
    let e : (r - j) + j ≡ r = omega arith in
    let f : (r - j - 1) + 1 ≡ r - j = omega arith in
    let g : n % 2 ^ r / 2 ^ j ≡ n / 2 ^ j % 2 ^ (r - j) = rw e at (field n (r - j) j) in
    let h : n / 2 ^ j % 2 ^ (r - j) % 2 ≡ n / 2 ^ j % 2 = rw f at (mod-mod-pow (n / 2 ^ j) (r - j - 1) 1) in
    sym (rw g h)

pub with_bit_other : (x r : ℕ) (v : Bool) (j : ℕ) → (j ≡ r → ⊥) → with_bit x r v / 2 ^ j % 2 ≡ x / 2 ^ j % 2
with_bit_other x r v j n =
    elim (lt_or_ge j r) [
      | inl l ↦ below_digit (with_bit x r v) j r l ∙ ap (λ m. m / 2 ^ j % 2) (below x r v) ∙ sym (below_digit x j r l)
      | inr g ↦
          let l : r < j = omega arith in
          rw (above_digit (with_bit x r v) j r l, above_digit x j r l, above x r v)
    ]

with_bit_off : (x r : ℕ) → x - x / 2 ^ r % 2 * 2 ^ r ≡ with_bit x r false
unfolding with_bit
with_bit_off x r = omega (arith, digit_split x r, zero-mul (2 ^ r))

with_bit_on : (x r : ℕ) → x - x / 2 ^ r % 2 * 2 ^ r + 2 ^ r ≡ with_bit x r true
unfolding with_bit
with_bit_on x r = omega (arith, digit_split x r, one-mul (2 ^ r))

pub with_bit_either : (x r : ℕ) (v : Bool) → x - x / 2 ^ r % 2 * 2 ^ r + pick v 1 0 * 2 ^ r ≡ with_bit x r v
with_bit_either x r true = omega (arith, with_bit_on x r, one-mul (2 ^ r))
with_bit_either x r false = omega (arith, with_bit_off x r, zero-mul (2 ^ r))
