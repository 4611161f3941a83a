-- The running count of ones while a map is listed (document 02, 5/14).
--
-- counts A p       == the count with which the line of position p is written: 0 at first, then that of the line before and its bit of A
-- letter_from x b c == the letter that a bit of A, the next unread bit of B and that of B* make
-- RunningRank s    == of the map s: each line's rank in A is the count, and its bracket is found by it
--
-- Position p is place p + 1. So `counts A p` is how many of the places before it are marked, and `counts A (p + 1)` how many of those up
-- to it are. Assumes nothing.
use Rattle.std.specs.Prelude.{◌≡◌, List, ℕ, zero, suc, ◌+◌, ◌-◌, eqb}
use Rattle.count.specs.Below.{pick}
use Rattle.words.specs.declared.family.Family.TheVariants.{Round as round, Square as square}
use Rattle.words.specs.Word.{Letter}
use Rattle.bits.specs.Strings.{bit, rank}
use Rattle.bits.specs.Letters.{family_of}
use Rattle.format.specs.Bytes.{part_a, part_b, word_in}

-- 02: "got from the count of the line before (0 at first) and this place's bit alone"
unfoldable pub counts : List ℕ → ℕ → ℕ
unfolding bit
counts A zero = 0
counts A (suc p) = counts A p + bit A p

-- 01: "A: bit i is 1 if place i is of a marked border"; B says of the marked ones whether they are second, B* of the others
abbrev pub letter_from : ℕ → ℕ → ℕ → Letter
letter_from x b c = record { family = family_of x; closing = eqb (pick (eqb x 1) b c) 1 }

-- 02: "each line's rank in A is that count"
pub record RunningRank (s : List ℕ) : Type 0 where
  -- 0 at first; then the count of the line before, and this place's bit
  pub first : counts (part_a s) 0 ≡ 0
  pub next : (p : ℕ) → counts (part_a s) (p + 1) ≡ counts (part_a s) p + bit (part_a s) p
  -- the rank in A, of the ones; that of the zeros is what is left
  pub marked : (p : ℕ) → rank 1 (part_a s) p ≡ counts (part_a s) p
  pub unmarked : (p : ℕ) → rank 0 (part_a s) p ≡ p - counts (part_a s) p
  -- what a line needs it for: the next unread bit of B, and of B*, by which it has its kind
  pub letter : (p : ℕ) → (word_in s).letter p
      ≡ letter_from (bit (part_a s) p) (bit (part_b round s) (counts (part_a s) p)) (bit (part_b square s) (p - counts (part_a s) p))
