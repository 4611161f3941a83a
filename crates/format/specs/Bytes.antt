-- The bytes of a packed map (document 01, "Tour and packed map", and document 02, 6/14; sources 002 and 000: Turán's three strings).
--
-- EachBelow k s      == every entry of s is below k: 2 for a list of bits, 256 for a byte string
-- at_m, at_n, at_areas, header == the offsets of the header's fields, and its length
-- areas_of z          == m - n + 2: how many areas there are with m and n of z
-- header_of z         == the header with m and n of z
-- size_in s           == m and n as the header of s has them
-- written_areas s     == the count of areas as the header of s has it
-- bits_a, bits_b K     == how many bits A, B (round) and B* (square) have
-- start_a, start_b, startS, map_length == where A, B and B* begin, and the length of the whole
-- longest            == the length of the longest map
-- part s a e         == the bytes of s from a up to e
-- word_in s           == the bracket word that the bytes s hold
-- string_a w, string_b K w == A, B and B* of a word
-- bytes_of bits       == bits in bytes from a fresh byte, first bit lowest, unused bits 0
-- map_bytes z w       == the bytes of the word w with m and n of z: the header, A, B and B*
-- Assumes nothing.
use Rattle.std.specs.Prelude.{List, [], ◌∷◌, ◌++◌, ℕ, ◌+◌, ◌-◌, ◌*◌, ◌/◌, ◌%◌, ◌<◌, length, get_or, take, drop}
use Rattle.count.specs.Below.{table, gather}
use Rattle.answers.specs.declared.given.Size.{Size}
use Rattle.words.specs.declared.family.Family.{Family}
use Rattle.words.specs.declared.family.Family.TheVariants.{Round as round, Square as square}
use Rattle.words.specs.Word.{same_family, Word}
use Rattle.bits.specs.Strings.{bit, rank, bytes_for}
use Rattle.bits.specs.Letters.{family_bit, closing_bit, spelled}

abbrev pub EachBelow : ℕ → List ℕ → Type 0
EachBelow k s = (i : ℕ) → get_or s i 0 < k

-- 01: "Bytes: m, then n, each two bytes, low byte first." 02, 6/14: "Two bytes, low first, follow n and hold m-n+2."
abbrev pub at_m : ℕ
at_m = 0

abbrev pub at_n : ℕ
at_n = 2

abbrev pub at_areas : ℕ
at_areas = 4

abbrev pub header : ℕ
header = 6

abbrev pub le16 : ℕ → List ℕ
le16 x = x % 256 ∷ x / 256 % 256 ∷ []

unfoldable pub le16_at : List ℕ → ℕ → ℕ
le16_at s i = get_or s i 0 + 256 * get_or s (i + 1) 0

-- 01: "There are m-n+2 areas."
abbrev pub areas_of : Size → ℕ
areas_of z = z.m + 2 - z.n

abbrev pub header_of : Size → List ℕ
header_of z = le16 z.m ++ (le16 z.n ++ le16 (areas_of z))

unfoldable pub size_in : List ℕ → Size
unfolding le16_at
size_in s = record { m = le16_at s at_m; n = le16_at s at_n }

unfoldable pub written_areas : List ℕ → ℕ
unfolding le16_at
written_areas s = le16_at s at_areas

-- 01: "Then A (2m bits), B (2n-2) and B* (2(m-n+1)), each from a fresh byte"
abbrev pub bits_a : Size → ℕ
bits_a z = 2 * z.m

abbrev pub bits_b : Family → Size → ℕ
bits_b round z = 2 * z.n - 2
bits_b square z = 2 * (z.m + 1 - z.n)

abbrev pub start_a : ℕ
start_a = header

unfoldable pub start_b : Family → Size → ℕ
unfolding bytes_for
start_b round z = start_a + bytes_for (bits_a z)
start_b square z = start_a + bytes_for (bits_a z) + bytes_for (bits_b round z)

unfoldable pub map_length : Size → ℕ
unfolding start_b bytes_for
map_length z = start_b square z + bytes_for (bits_b square z)

-- 02, 6/14: "The longest map is now 1,031 bytes"
abbrev pub longest : ℕ
longest = header + 1025

abbrev pub part : List ℕ → ℕ → ℕ → List ℕ
part s a e = take (e - a) (drop a s)

-- the three strings as they stand in the bytes s
unfoldable pub part_a : List ℕ → List ℕ
unfolding size_in start_b
part_a s = part s start_a (start_b round (size_in s))

unfoldable pub part_b : Family → List ℕ → List ℕ
unfolding size_in start_b map_length
part_b round s = part s (start_b round (size_in s)) (start_b square (size_in s))
part_b square s = part s (start_b square (size_in s)) (map_length (size_in s))

unfoldable pub word_in : List ℕ → Word
unfolding size_in part_a part_b bit rank
word_in s = spelled (part_a s) (λ K. bit (part_b K s)) (bits_a (size_in s))

unfoldable pub string_a : Word → List ℕ
unfolding table
string_a w = table (λ p. family_bit (w.letter p).family) w.size

unfoldable pub string_b : Family → Word → List ℕ
unfolding gather
string_b K w = gather (λ p. same_family K (w.letter p).family) (λ p. closing_bit (w.letter p).closing) w.size

-- the number that up to eight bits make, first bit lowest
abbrev pub byte_of : List ℕ → ℕ
byte_of [] = 0
byte_of (x ∷ bits) = x + 2 * byte_of bits

unfoldable pub bytes_of : List ℕ → List ℕ
unfolding table bytes_for
bytes_of bits = table (λ i. byte_of (take 8 (drop (8 * i) bits))) (bytes_for (length bits))

unfoldable pub map_bytes : Size → Word → List ℕ
unfolding bytes_of string_a string_b
map_bytes z w = header_of z ++ (bytes_of (string_a w) ++ (bytes_of (string_b round w) ++ bytes_of (string_b square w)))
