-- Opening: checks 8, 20 and 9 to 12 on any byte string (document 01, the table; document 02, 6/14), each as a test beside the
-- proposition that it decides.
--
-- HeaderFits h, header_fits h == a header of h bytes is there, m is at most 2,048 and n is 1 to m + 1
-- SizeFits, size_fits       == passes 8: that of the header
-- AreasFit, areas_fit       == passes 20: the header's count of areas is m - n + 2
-- LengthFits, length_fits   == passes 9: the length is the header's
-- UnusedFits, unused_fits   == passes 10: no unused bit is 1
-- OnesFit, ones_fit         == passes 11: A has 2n - 2 ones
-- BracketsFit, brackets_fit == passes 12: B and B* are balanced
-- UnusedZero t k   == the bits of the string t from bit k on are 0
-- open_checks s     == these checks of the bytes s, in the order in which they run
-- open_refusal s    == the number of the first of them that applies; 0 where none does
-- Opens s          == s is a byte string, and none applies
-- open_of s         == opening: m and n, or the refusal
-- Assumes nothing.
use Rattle.std.specs.Prelude.{◌≡◌, Bool, ◌&&◌, List, [], ◌∷◌, ℕ, ◌+◌, ◌-◌, ◌*◌, ◌≤◌, ◌<◌, length, eqb, leb}
use Rattle.answers.specs.Answer.{Answer}
use Rattle.answers.specs.declared.given.Size.{Size}
use Rattle.answers.specs.Checks.{Check, check, refusal_in, after}
use Rattle.words.specs.Brackets.{Balanced, balanced}
use Rattle.words.specs.declared.family.Family.{Family}
use Rattle.words.specs.declared.family.Family.TheVariants.{Round as round, Square as square}
use Rattle.bits.specs.Strings.{bit, rank, brackets, unused_zero}
use Rattle.drawing.specs.Drawing.{most_borders}
use Rattle.format.specs.Bytes.{EachBelow, header, areas_of, size_in, written_areas, bits_a, bits_b, map_length, part_a, part_b}

-- 8: "under 4 bytes, m over 2,048, or n not 1 to m+1"; 02, 6/14: "refusal 8 wants 6 bytes"
pub record HeaderFits (h : ℕ) (s : List ℕ) : Type 0 where
  pub header_fits : h ≤ length s
  pub m_most : (size_in s).m ≤ most_borders
  pub n_least : 1 ≤ (size_in s).n
  pub n_most : (size_in s).n ≤ (size_in s).m + 1

abbrev pub header_fits : ℕ → List ℕ → Bool
header_fits h s = leb h (length s) && leb (size_in s).m most_borders && leb 1 (size_in s).n && leb (size_in s).n ((size_in s).m + 1)

abbrev pub SizeFits : List ℕ → Type 0
SizeFits s = HeaderFits header s

unfoldable pub size_fits : List ℕ → Bool
unfolding size_in
size_fits s = header_fits header s

-- 20: "when the written count isn't m-n+2, between 8 and 9"
pub record AreasFit (s : List ℕ) : Type 0 where
  pub written : written_areas s ≡ areas_of (size_in s)

unfoldable pub areas_fit : List ℕ → Bool
unfolding written_areas size_in
areas_fit s = eqb (written_areas s) (areas_of (size_in s))

-- 9: "length differs from the header's"
pub record LengthFits (s : List ℕ) : Type 0 where
  pub long : length s ≡ map_length (size_in s)

unfoldable pub length_fits : List ℕ → Bool
unfolding map_length size_in
length_fits s = eqb (length s) (map_length (size_in s))

-- 10: "an unused bit is 1". The unused bits of a string are those from bit k on.
abbrev pub UnusedZero : List ℕ → ℕ → Type 0
UnusedZero t k = (i : ℕ) → k ≤ i → i < 8 * length t → bit t i ≡ 0

pub record UnusedFits (s : List ℕ) : Type 0 where
  pub unused_a : UnusedZero (part_a s) (bits_a (size_in s))
  pub unused_b : (K : Family) → UnusedZero (part_b K s) (bits_b K (size_in s))

unfoldable pub unused_fits : List ℕ → Bool
unfolding unused_zero part_a part_b size_in
unused_fits s =
    unused_zero (part_a s) (bits_a (size_in s))
    && unused_zero (part_b round s) (bits_b round (size_in s))
    && unused_zero (part_b square s) (bits_b square (size_in s))

-- 11: "A has not 2n-2 ones"
pub record OnesFit (s : List ℕ) : Type 0 where
  pub ones : rank 1 (part_a s) (bits_a (size_in s)) ≡ 2 * (size_in s).n - 2

unfoldable pub ones_fit : List ℕ → Bool
unfolding rank part_a size_in
ones_fit s = eqb (rank 1 (part_a s) (bits_a (size_in s))) (bits_b round (size_in s))

-- 12: "B or B* not balanced (0 opens)"
pub record BracketsFit (s : List ℕ) : Type 0 where
  pub nested : (K : Family) → Balanced (brackets (part_b K s)) (bits_b K (size_in s))

unfoldable pub brackets_fit : List ℕ → Bool
unfolding balanced brackets part_b size_in
brackets_fit s =
    balanced (brackets (part_b round s)) (bits_b round (size_in s))
    && balanced (brackets (part_b square s)) (bits_b square (size_in s))

-- 01: "Checks run in table order", and 20 "between 8 and 9"
abbrev pub open_checks : List ℕ → List Check
open_checks s =
    check 8 (size_fits s) (SizeFits s)
    ∷ check 20 (areas_fit s) (AreasFit s)
    ∷ check 9 (length_fits s) (LengthFits s)
    ∷ check 10 (unused_fits s) (UnusedFits s)
    ∷ check 11 (ones_fit s) (OnesFit s)
    ∷ check 12 (brackets_fit s) (BracketsFit s)
    ∷ []

unfoldable pub open_refusal : List ℕ → ℕ
open_refusal s = refusal_in (open_checks s)

-- 01, demand 2: a "byte string accepted on opening"
pub record Opens (s : List ℕ) : Type 0 where
  pub bytes : EachBelow 256 s
  pub passes : open_refusal s ≡ 0

-- 01: "Opening gives m and n"
unfoldable pub open_of : List ℕ → Answer Size
unfolding size_fits areas_fit length_fits unused_fits ones_fit brackets_fit size_in
open_of s = after (open_checks s) (size_in s)
