-- A list of the areas across the sides of an area.
--
-- Landed s k c l == the first c entries of l are the areas across the sides of area k of the map s, in walk order, all of them
-- Assumes nothing.
use Rattle.std.specs.Prelude.{◌≡◌, List, ℕ, ◌<◌, length, get_or}
use Rattle.format.specs.Bytes.{word_in}
use Rattle.format.specs.Calls.{landings_in}

pub record Landed (s : List ℕ) (k c : ℕ) (l : List ℕ) : Type 0 where
  pub count : c ≡ length (landings_in (word_in s) k)
  pub each : (i : ℕ) → i < c → get_or l i 0 ≡ get_or (landings_in (word_in s) k) i 0
