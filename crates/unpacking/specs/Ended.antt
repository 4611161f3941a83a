-- What unpacking keeps beside the lent lists, one entry for each position (position p is place p + 1).
--
-- Ends s l == what l has for a position is the end there
-- Assumes nothing.
use Rattle.std.specs.Prelude.{◌≡◌, List, ℕ, ◌<◌, get_or}
use Rattle.format.specs.Bytes.{size_in, bits_a, word_in}
use Rattle.format.specs.Pack.{end_in}

-- 01: "Unpacking numbers borders by their first places. The first place is the even end, the start is 0."
pub record Ends (s l : List ℕ) : Type 0 where
  pub at : (p : ℕ) → p < bits_a (size_in s) → get_or l p 0 ≡ end_in (word_in s) p
