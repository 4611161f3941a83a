-- What document 02, 4/14, says of the factor of an area: one record, for every byte string, number and pair of lists.
--
-- uses b f           == whether a kind byte b uses its number f: 0 the factor, 1 the floor, 2 the ceiling
-- SameUsed kinds values others == the two lists of numbers agree in all that is used
-- Factored s k kinds values == the whole
-- Assumes nothing.
use Rattle.std.specs.Prelude.{◌≡◌, Bool, true, List, ℕ, ◌+◌, ◌*◌, ◌<◌, eqb, Float, length, get_or}
use Rattle.std.specs.Float.{binary64, nan}
use Rattle.std.specs.Float.Ieee.{of_bits, le}
use Rattle.count.specs.Below.{pick}
use Rattle.answers.specs.Checks.{InOrder}
use Rattle.answers.specs.Answer.{answer}
use Rattle.format.specs.Bytes.{word_in}
use Rattle.format.specs.Calls.{landings_in}
use Rattle.tariff.specs.declared.factor.Factor.{Factor}
use Rattle.tariff.specs.Tariff.{factor_at, mean, sum_across}
use Rattle.tariff.specs.Maps.{factor_checks, factor_in, factor_of}

abbrev pub uses : ℕ → ℕ → Bool
uses b f = pick (eqb b 0) (eqb f 0) (eqb b 1)

pub record SameUsed (kinds : List ℕ) (values others : List Float) : Type 0 where
  pub long : length others ≡ length values
  pub used : (i f : ℕ) → i < length kinds → f < 3 → uses (get_or kinds i 0) f ≡ true
      → get_or others (3 * i + f) nan ≡ get_or values (3 * i + f) nan

-- Refusals come in order, and each exactly where it applies (`order`); what is answered is the factor by the lists, and nothing
-- else (`only`). An own factor is answered as it is, a held one lies between
-- its floor and its ceiling and is itself where it lies there already, one not known is the mean. Every answer is a number between
-- 1/128 and 128, so its bits are fixed (`bounded`): of a mean, rounding leaves no narrower claim that is as simple. What a kind
-- doesn't use changes nothing (`unread`).
pub record Factored (s : List ℕ) (k : ℕ) (kinds : List ℕ) (values : List Float) : Type 0 where
  pub order : InOrder (factor_checks s k kinds values) (factor_in s k kinds values) (factor_of s k kinds values)
  pub only : (y : Float) → factor_of s k kinds values ≡ answer y → y ≡ factor_in s k kinds values
  pub own : (x : Float) → factor_at kinds values k ≡ Factor.Own x → factor_in s k kinds values ≡ x
  pub between : (x low high y : Float) → factor_at kinds values k ≡ Factor.Held x low high → factor_of s k kinds values ≡ answer y
      → (le low y ≡ true) × (le y high ≡ true)
  pub inside : (x low high : Float) → factor_at kinds values k ≡ Factor.Held x low high → le low x ≡ true → le x high ≡ true
      → factor_in s k kinds values ≡ x
  pub unknown : factor_at kinds values k ≡ Factor.Unknown → factor_in s k kinds values ≡ mean (sum_across kinds values (landings_in (word_in s) k))
  pub bounded : (y : Float) → factor_of s k kinds values ≡ answer y
      → (le (of_bits binary64 0x3f80_0000_0000_0000) y ≡ true) × (le y (of_bits binary64 0x4060_0000_0000_0000) ≡ true)
  pub unread : (others : List Float) → SameUsed kinds values others → factor_of s k kinds others ≡ factor_of s k kinds values
