-- Decimal numbers as text (document 01, "Listing": "Decimal, no leading zeros").
--
-- codes t        == the bytes of a quoted text; space, line_feed and zero_byte are three bytes
-- decimal x      == x in decimal, without leading zeros
-- aligned w x    == x in decimal, right-aligned in w columns: with spaces before it where it has fewer digits
-- read_number s   == the decimal number that s begins with, and what follows it; none where s begins with no digit
-- Assumes nothing.
use Rattle.std.specs.Prelude.{Bool, true, false, ◌&&◌, List, [], ◌∷◌, ◌++◌, ℕ, zero, suc, ◌+◌, ◌-◌, ◌*◌, ◌/◌, ◌%◌, eqb, ltb, leb, length, replicate}
use Rattle.std.proofs.Math.Option.{Option, none, some}
use Prim.Native.Char.{code}
use Prim.Native.String.{String, [] as empty, ◌∷◌ as ◌then◌}
use Rattle.count.specs.Below.{pick}

unfoldable pub codes : String → List ℕ
codes empty = []
codes (c then t) = code c ∷ codes t

abbrev pub space : ℕ
space = 32

abbrev pub line_feed : ℕ
line_feed = 10

abbrev pub zero_byte : ℕ
zero_byte = 48

-- the decimal digits of x, of which there are at most k + 1
unfoldable pub decimal_in : ℕ → ℕ → List ℕ
decimal_in zero x = (zero_byte + x % 10) ∷ []
decimal_in (suc k) x = elim (ltb x 10) [ true ↦ (zero_byte + x) ∷ [] | false ↦ decimal_in k (x / 10) ++ ((zero_byte + x % 10) ∷ []) ]

unfoldable pub decimal : ℕ → List ℕ
unfolding decimal_in
decimal x = decimal_in x x

-- 02, 1/14: "right-aligned in 5 columns"
unfoldable pub aligned : ℕ → ℕ → List ℕ
unfolding decimal
aligned w x = replicate (w - length (decimal x)) space ++ decimal x

pub record Read : Type 0 where
  pub value : ℕ
  pub rest : List ℕ

abbrev pub is_digit : ℕ → Bool
is_digit c = leb zero_byte c && leb c (zero_byte + 9)

-- x, followed by the digits that s begins with
unfoldable pub read_digits : List ℕ → ℕ → Read
read_digits [] x = record { value = x; rest = [] }
read_digits (c ∷ s) x = elim (is_digit c) [ true ↦ read_digits s (10 * x + (c - zero_byte)) | false ↦ record { value = x; rest = c ∷ s } ]

-- a 0 stands alone: no leading zeros
unfoldable pub read_number : List ℕ → Option Read
unfolding read_digits
read_number [] = none
read_number (c ∷ s) =
    pick (is_digit c) (some (pick (eqb c zero_byte) (record { value = 0; rest = s }) (read_digits s (c - zero_byte)))) none
