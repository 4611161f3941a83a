-- What the pass over a map fills its lists with, one entry for each position (position p is place p + 1).
--
-- mates_in s     == the positions that crossing leads to: the other end of each place's border
-- numbers_in K s == the number of each place's point (K round) or area (K square)
-- Mates s l     == what l has for a position is its mate
-- Numbers K s l == what l has for a position is the number of its point (area)
-- Surveyed s ms rs ps == s opens, and what the lists have for a position is its mate, its area, its point
-- Early n most x r == r answers x, or is None where more than `most` of n places would have to be looked at
-- Assumes nothing.
use Rattle.std.specs.Prelude.{◌≡◌, List, ℕ, ◌<◌, ◌≤◌, length, get_or, IsSome}
use Rattle.std.specs.declared.option.Option.{Option}
use Rattle.std.specs.declared.option.Option.TheVariants.{Some}
use Rattle.count.specs.Below.{table}
use Rattle.words.specs.Brackets.{number}
use Rattle.words.specs.declared.family.Family.{Family}
use Rattle.words.specs.declared.family.Family.TheVariants.{Round as round, Square as square}
use Rattle.words.specs.Word.{seen, mate_in}
use Rattle.format.specs.Bytes.{size_in, bits_a, word_in}
use Rattle.format.specs.Open.{open_refusal}

-- 01, Moves: "Cross: the place of the other end."
unfoldable pub mates_in : List ℕ → List ℕ
unfolding table mate_in word_in size_in
mates_in s = table (mate_in (word_in s)) (bits_a (size_in s))

-- 01, Moves: "Point and area of a place"
unfoldable pub numbers_in : Family → List ℕ → List ℕ
unfolding table number seen word_in size_in
numbers_in K s = table (number (seen K (word_in s))) (bits_a (size_in s))

-- a list with no entries holds nothing that is wrong
pub record Mates (s l : List ℕ) : Type 0 where
  pub at : (p : ℕ) → p < bits_a (size_in s) → p < length l → get_or l p 0 ≡ mate_in (word_in s) p

pub record Numbers (K : Family) (s l : List ℕ) : Type 0 where
  pub at : (p : ℕ) → p < bits_a (size_in s) → p < length l → get_or l p 0 ≡ number (seen K (word_in s)) p

pub record Surveyed (s ms rs ps : List ℕ) : Type 0 where
  pub opens : open_refusal s ≡ 0
  pub mates : Mates s ms
  pub areas : Numbers square s rs
  pub points : Numbers round s ps

pub record Early (n most x : ℕ) (r : Option ℕ) : Type 0 where
  pub is : (y : ℕ) → r ≡ Some y → y ≡ x
  pub enough : n ≤ most → IsSome r
