-- What packing answers, and what the memory lent to it holds after (document 01, "Numbers returned when a call declines").
--
-- PackLeaves D work work' out out' == packing the drawing D makes work' of the working list and out' of the output
-- Packs D work work' out out' p == and p is what it answers
-- smaller_in r, larger_in r == the numbers that bits 8 to 19 and bits 20 to 31 of r hold
-- PackReturns D work work' out out' l l' r == r is returned to a C host by packing D; work, out and the length l become work', out', l'
-- Assumes nothing.
use Rattle.std.specs.Prelude.{◌≡◌, List, ℕ, ◌/◌, ◌%◌, length, get_or}
use Rattle.answers.specs.Answer.{Answer, number_of, carried_by, told}
use Rattle.answers.specs.Lent.{laid, leaves, itself}
use Rattle.drawing.specs.Drawing.{Drawing, borders}
use Rattle.format.specs.Pack.{pack_refusal, pack_of, work_left}

-- 01: "An accepted pack writes the map's bytes and its length and touches nothing beyond."
pub record PackLeaves (D : Drawing) (work work' out out' : List ℕ) : Type 0 where
  pub working : work' ≡ work_left (pack_refusal D (length work) (length out)) (borders D) work
  pub output : out' ≡ leaves laid (pack_of D (length work) (length out)) out

pub record Packs (D : Drawing) (work work' out out' : List ℕ) (p : Answer ℕ) : Type 0 where
  pub answers : p ≡ told length (pack_of D (length work) (length out))
  pub leaves : PackLeaves D work work' out out'

abbrev pub smaller_in : ℕ → ℕ
smaller_in r = r / 256 % 4096

abbrev pub larger_in : ℕ → ℕ
larger_in r = r / 1048576

-- the C interface: "low 8 bits: 0 or the refusal; with 7, bits 8 to 19 hold the smaller border and bits 20 to 31 the larger;
-- else those bits are 0"
pub record PackReturns (D : Drawing) (work work' out out' : List ℕ) (l l' r : ℕ) : Type 0 where
  pub low : r % 256 ≡ number_of (pack_of D (length work) (length out))
  pub smaller : smaller_in r ≡ get_or (carried_by (pack_of D (length work) (length out))) 0 0
  pub larger : larger_in r ≡ get_or (carried_by (pack_of D (length work) (length out))) 1 0
  pub length_given : l' ≡ leaves itself (told length (pack_of D (length work) (length out))) l
  pub leaves : PackLeaves D work work' out out'
