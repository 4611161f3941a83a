-- The neighbour count of an area of a map that opens, and how many areas there are in a list.
--
-- neighbours_at s k == the neighbour count of area k of the map s
-- others_in l c k   == how many areas other than k are among the first c entries of l
-- Countable l c k  == those and k are areas of a largest map at most
-- Assumes nothing.
use Rattle.std.specs.Prelude.{not, ◌&&◌, List, ℕ, suc, ◌≤◌, ◌<◌, eqb, length, get_or}
use Rattle.count.specs.Below.{count, any}
use Rattle.answers.specs.Answer.{Kind}
use Rattle.format.specs.Bytes.{size_in, word_in}
use Rattle.format.specs.Calls.{cells_in, neighbours_in}

-- 02, 3/14: "the number of other areas across at least one side"
abbrev pub neighbours_at : List ℕ → ℕ → ℕ
neighbours_at s k = neighbours_in (word_in s) (cells_in (size_in s) Kind.area) k

unfoldable pub others_in : List ℕ → ℕ → ℕ → ℕ
unfolding count any
others_in l c k = count (λ i. not (eqb (suc i) k) && any (λ x. eqb (get_or l x 0) (suc i)) c) 2049

pub record Countable (l : List ℕ) (c k : ℕ) : Type 0 where
  pub long : c ≤ length l
  pub own : k ≤ 2049
  pub each : (i : ℕ) → i < c → (1 ≤ get_or l i 0) × (get_or l i 0 ≤ 2049)
