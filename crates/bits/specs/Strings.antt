-- Bit strings held in bytes, first bit in the lowest bit of the first byte (document 01, "Bytes").
--
-- bit s i          == bit i of the bytes s: bit i % 8 of byte i / 8; 0 past the end
-- is_bit v s i      == whether that bit is v
-- rank v s i       == how many of the first i bits are v
-- select v s n j   == the position of the j-th bit (from 0) that is v among the first n; n where there is none
-- field s p w      == the number whose w binary digits are the bits from p on, the first bit lowest
-- among v s p w    == how many of the w bits from p on are v
-- widest           == the most bits that are read as one field
-- share v w c      == how many of w bits are v, where c of them are 1
-- brackets s       == the string read as brackets: 0 opens, 1 closes
-- bytes_for k       == how many bytes k bits take, from a fresh byte
-- unused_zero s k   == whether all bits of s from bit k on are 0
--
-- Balance, partner and innermost open bracket of a string are those of `words`, of `brackets s`. Assumes nothing.
use Rattle.std.specs.Prelude.{Bool, List, ℕ, zero, suc, ◌+◌, ◌-◌, ◌*◌, ◌/◌, ◌%◌, ◌^◌, get_or, length, eqb}
use Rattle.count.specs.Below.{pick, count, all, nth}
use Rattle.words.specs.Brackets.{Bracket, opens, closes}

unfoldable pub bit : List ℕ → ℕ → ℕ
bit s i = get_or s (i / 8) 0 / 2 ^ (i % 8) % 2

abbrev pub is_bit : ℕ → List ℕ → ℕ → Bool
is_bit v s i = eqb (bit s i) v

unfoldable pub rank : ℕ → List ℕ → ℕ → ℕ
unfolding count bit
rank v s i = count (is_bit v s) i

unfoldable pub select : ℕ → List ℕ → ℕ → ℕ → ℕ
unfolding nth bit
select v s n j = nth (is_bit v s) j n

unfoldable pub field : List ℕ → ℕ → ℕ → ℕ
unfolding bit
field s p zero = 0
field s p (suc w) = bit s (p + w) * 2 ^ w + field s p w

unfoldable pub among : ℕ → List ℕ → ℕ → ℕ → ℕ
unfolding count bit
among v s p w = count (λ i. is_bit v s (p + i)) w

abbrev pub widest : ℕ
widest = 24

unfoldable pub share : ℕ → ℕ → ℕ → ℕ
share v w c = pick (eqb v 0) (w - c) (pick (eqb v 1) c 0)

unfoldable pub brackets : List ℕ → ℕ → Bracket
unfolding bit
brackets s i = pick (eqb (bit s i) 0) opens closes

unfoldable pub bytes_for : ℕ → ℕ
bytes_for k = (k + 7) / 8

unfoldable pub unused_zero : List ℕ → ℕ → Bool
unfolding all bit
unused_zero s k = all (λ i. is_bit 0 s (k + i)) (8 * length s - k)
