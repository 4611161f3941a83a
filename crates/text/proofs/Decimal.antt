-- Decimal numbers: what is written is read, and what is read is what was written.
--
-- decimal_small, decimal_more == a number below 10 is one digit; another is the tenth of it, then its last digit
-- decimal_digits  == every byte of a decimal number is a digit
-- decimal_first   == a decimal number has a first byte, which is the byte of 0 only if the number is 0
-- digit_first s    == whether s begins with a digit
-- decides_digit   == a byte is a digit exactly if it is 48 to 57
-- digits_on, digits_stop  == one digit more is read, or none
-- number_zero, number_none, number_on == what the first byte decides: 0 alone, no number, a number from there on
-- read_decimal    == a decimal number is read back, if no digit follows it
-- number_decimal  == what is read as a number is the decimal number, then the rest
-- Assumes nothing.
use mathlib.Core.Path.{◌≡◌, refl, sym, ◌∙◌, ap}
use mathlib.Core.Logic.{inl, inr, ◌≢◌}
use mathlib.Core.Bool.{Bool, true, false}
use mathlib.Core.List.Memᴰ
use mathlib.Core.List.{List, [], ◌∷◌, ◌++◌, Memᴰ}
use mathlib.Core.Option.{none, some, some-injective, none-ne-some}
use Prim.Native.Nat.{ℕ, zero, suc, ◌+◌, ◌-◌, ◌*◌, ◌/◌, ◌%◌, ◌<◌, ◌≤◌}
use native.Mathlib.Omega.{arith}
use lib.Seq.{append_snoc}
use borrow.Author.Tests.{lt-ltb, le-ltb, ne_eqb}
use Rattle.count.specs.Below.{Decides}
use Rattle.count.proofs.Logic.{same_or_not, lt_or_ge, strong, true_or_false}
use Rattle.count.proofs.Decides.{decides_le, decides_both}
use Rattle.text.specs.Decimal.{decimal, decimal_in, zero_byte, is_digit, Read, read_digits, read_number}

-- fuel of at least x gives the same digits
fuel_same : (j k x : ℕ) → x ≤ j → x ≤ k → decimal_in j x ≡ decimal_in k x
unfolding decimal_in
fuel_same zero zero x h l = refl
fuel_same zero (suc k) x h l = let e : x ≡ 0 = omega arith in rw e
fuel_same (suc j) zero x h l = let e : x ≡ 0 = omega arith in rw e
fuel_same (suc j) (suc k) x h l =
    elim (lt_or_ge x 10) [
      | inl b ↦ rw (lt-ltb x 10 b, decimal_in)
      | inr g ↦ rw (le-ltb x 10 g, decimal_in, fuel_same j k (x / 10) (omega arith) (omega arith))
    ]

more_fuel : (x : ℕ) → decimal x ≡ decimal_in (suc x) x
unfolding decimal
more_fuel x = fuel_same x (suc x) x (omega arith) (omega arith)

pub decimal_small : (x : ℕ) → x < 10 → decimal x ≡ (zero_byte + x) ∷ []
unfolding decimal_in
decimal_small x h = more_fuel x ∙ rw (lt-ltb x 10 h, decimal_in)

pub decimal_more : (x : ℕ) → 10 ≤ x → decimal x ≡ decimal (x / 10) ++ ((zero_byte + x % 10) ∷ [])
unfolding decimal
decimal_more x h = more_fuel x ∙ rw (le-ltb x 10 h, decimal_in, fuel_same x (x / 10) (x / 10) (omega arith) (omega arith))

pub decides_digit : (c : ℕ) → Decides (is_digit c) ((zero_byte ≤ c) × (c ≤ zero_byte + 9))
decides_digit c = decides_both (decides_le zero_byte c) (decides_le c (zero_byte + 9))

digit_byte : (d : ℕ) → d < 10 → is_digit (zero_byte + d) ≡ true
digit_byte d h = (decides_digit (zero_byte + d)).complete (omega arith)

pub decimal_digits : (x c : ℕ) → Memᴰ c (decimal x) → is_digit c ≡ true
decimal_digits =
    strong (λ x. (c : ℕ) → Memᴰ c (decimal x) → is_digit c ≡ true)
    (λ x before c m.
    elim (lt_or_ge x 10) [
      | inl b ↦
          rw (Memᴰ.eq_of_singleton (rw (decimal_small x b) at m)) (digit_byte x b)
      | inr g ↦
          elim (Memᴰ.append_cases (decimal (x / 10)) (rw (decimal_more x g) at m)) [
            | inl n ↦ before (x / 10) (omega arith) c n
            | inr n ↦ rw (Memᴰ.eq_of_singleton n) (digit_byte (x % 10) (omega arith))
          ]
    ])

pub record First (x : ℕ) : Type 0 where
  pub byte : ℕ
  pub more : List ℕ
  pub is : decimal x ≡ byte ∷ more
  pub zero_only : byte ≡ zero_byte → x ≡ 0

pub decimal_first : (x : ℕ) → First x
decimal_first =
    strong First
    (λ x before.
    elim (lt_or_ge x 10) [
      | inl b ↦ record { byte = zero_byte + x; more = []; is = decimal_small x b; zero_only = λ e. omega arith }
      | inr g ↦
          let f = before (x / 10) (omega arith) in
          record {
            byte = f.byte;
            more = f.more ++ ((zero_byte + x % 10) ∷ []);
            is = decimal_more x g ∙ rw f.is;
            zero_only = λ e. absurd (omega (arith, f.zero_only e));
          }
    ])

abbrev pub digit_first : List ℕ → Bool
digit_first [] = false
digit_first (c ∷ s) = is_digit c

pub digits_on : (c x : ℕ) (s : List ℕ) → is_digit c ≡ true → read_digits (c ∷ s) x ≡ read_digits s (10 * x + (c - zero_byte))
unfolding read_digits
digits_on c x s h = rw (h, read_digits)

pub digits_stop : (x : ℕ) (s : List ℕ) → digit_first s ≡ false → read_digits s x ≡ record { value = x; rest = s }
unfolding read_digits
digits_stop x [] h = refl
digits_stop x (c ∷ s) h = rw (h, read_digits)

-- the digits of x, read from 0, leave x
digits_decimal : (x : ℕ) (t : List ℕ) → read_digits (decimal x ++ t) 0 ≡ read_digits t x
digits_decimal =
    strong (λ x. (t : List ℕ) → read_digits (decimal x ++ t) 0 ≡ read_digits t x)
    (λ x before t.
    elim (lt_or_ge x 10) [
      | inl b ↦
          let e : 10 * 0 + (zero_byte + x - zero_byte) ≡ x = omega arith in
          rw (decimal_small x b) (digits_on (zero_byte + x) 0 t (digit_byte x b) ∙ ap (read_digits t) e)
      | inr g ↦
          let e : 10 * (x / 10) + (zero_byte + x % 10 - zero_byte) ≡ x = omega arith in
          let d = digit_byte (x % 10) (omega arith) in
          rw (decimal_more x g, append_snoc (decimal (x / 10)) (zero_byte + x % 10) t)
          (before (x / 10) (omega arith) ((zero_byte + x % 10) ∷ t) ∙ digits_on (zero_byte + x % 10) (x / 10) t d ∙ ap (read_digits t) e)
    ])

pub number_zero : (c : ℕ) (s : List ℕ) → c ≡ zero_byte → read_number (c ∷ s) ≡ some (record { value = 0; rest = s })
unfolding read_number
number_zero c s e = rw e

pub number_none : (c : ℕ) (s : List ℕ) → is_digit c ≡ false → read_number (c ∷ s) ≡ none
unfolding read_number
number_none c s h = rw h

pub number_on : (c : ℕ) (s : List ℕ) → is_digit c ≡ true → c ≢ zero_byte → read_number (c ∷ s) ≡ some (read_digits s (c - zero_byte))
unfolding read_number
number_on c s h n = rw (h, ne_eqb c zero_byte n)

pub read_decimal : (x : ℕ) (t : List ℕ) → digit_first t ≡ false → read_number (decimal x ++ t) ≡ some (record { value = x; rest = t })
unfolding read_number decimal
read_decimal x t h =
    let f = decimal_first x in
    elim (same_or_not f.byte zero_byte) [
      | inl e ↦ rw (f.zero_only e)
      | inr n ↦
          let d : is_digit f.byte ≡ true = decimal_digits x f.byte (rw f.is (Memᴰ.head refl)) in
          let e : f.byte - zero_byte ≡ 10 * 0 + (f.byte - zero_byte) = omega arith in
          let r : read_number (decimal x ++ t) ≡ some (read_digits (decimal x ++ t) 0) =
          rw f.is (number_on f.byte (f.more ++ t) d n ∙ ap some (ap (read_digits (f.more ++ t)) e ∙ sym (digits_on f.byte 0 (f.more ++ t) d))) in
          r ∙ ap some (digits_decimal x t ∙ digits_stop x t h)
    ]

-- x and one digit more
decimal_snoc : (x c : ℕ) → 0 < x → is_digit c ≡ true → decimal (10 * x + (c - zero_byte)) ≡ decimal x ++ (c ∷ [])
decimal_snoc x c p h =
    let b = (decides_digit c).sound h in
    let q : (10 * x + (c - zero_byte)) / 10 ≡ x = omega arith in
    let r : zero_byte + (10 * x + (c - zero_byte)) % 10 ≡ c = omega arith in
    decimal_more (10 * x + (c - zero_byte)) (omega arith) ∙ rw (q, r)

-- reading on from x keeps the text
digits_kept : (s : List ℕ) (x : ℕ) → 0 < x → decimal x ++ s ≡ decimal (read_digits s x).value ++ (read_digits s x).rest
unfolding read_digits
digits_kept [] x p = refl
digits_kept (c ∷ s) x p =
    elim (true_or_false (is_digit c)) [
      | inl h ↦
          rw (digits_on c x s h)
          (sym (append_snoc (decimal x) c s) ∙ ap (λ (l : List ℕ). l ++ s) (sym (decimal_snoc x c p h)) ∙ digits_kept s (10 * x + (c - zero_byte)) (omega arith))
      | inr h ↦ rw (digits_stop x (c ∷ s) h)
    ]

pub number_decimal : (s : List ℕ) (r : Read) → read_number s ≡ some r → s ≡ decimal r.value ++ r.rest
unfolding read_number decimal
number_decimal [] r e = absurd (none-ne-some r e)
number_decimal (c ∷ s) r e =
    elim (true_or_false (is_digit c)) [
      | inl h ↦
          elim (same_or_not c zero_byte) [
            | inl z ↦
                let q : record { value = 0; rest = s } ≡ r = some-injective (record { value = 0; rest = s }) r (sym (number_zero c s z) ∙ e) in
                rw (z, ← q)
            | inr n ↦
                let q : read_digits s (c - zero_byte) ≡ r = some-injective (read_digits s (c - zero_byte)) r (sym (number_on c s h n) ∙ e) in
                let b = (decides_digit c).sound h in
                let back : zero_byte + (c - zero_byte) ≡ c = omega arith in
                let one : decimal (c - zero_byte) ≡ c ∷ [] = decimal_small (c - zero_byte) (omega arith) ∙ rw back in
                rw (← q, ← digits_kept s (c - zero_byte) (omega arith), one)
          ]
      | inr h ↦ absurd (none-ne-some r (sym (number_none c s h) ∙ e))
    ]
