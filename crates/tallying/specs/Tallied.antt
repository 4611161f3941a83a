-- What a tally fills its lists with, one entry for each area (entry k - 1 is that of area k).
--
-- sides_in s   == how many sides each area of the map s has
-- firsts_in s  == the first place of each area
-- Blank l     == every entry of l is 0
-- Tallied s sides firsts == what the lists have for an area is its sides, its first place
-- entry_at l k == what the list l has for area k
-- HasEntry l k == it has an entry for area k
-- Noted k p sides firsts sides' firsts' == place p is noted as a side of area k: it is counted, and stands for the first
-- Assumes nothing.
use Rattle.std.specs.Prelude.{◌≡◌, List, ℕ, suc, ◌+◌, ◌-◌, ◌<◌, ◌≤◌, length, get_or, set}
use Rattle.count.specs.Below.{table}
use Rattle.answers.specs.Answer.{Kind}
use Rattle.format.specs.Bytes.{size_in, word_in}
use Rattle.format.specs.Calls.{cells_in, first_in, places_in}

-- 01, Moves: "sides of an area: how many places have that number"
unfoldable pub sides_in : List ℕ → List ℕ
unfolding table places_in word_in size_in
sides_in s = table (λ i. places_in (word_in s) Kind.area (suc i)) (cells_in (size_in s) Kind.area)

-- 01, Moves: "First place of an area: its lowest." It is "0 if m = 0".
unfoldable pub firsts_in : List ℕ → List ℕ
unfolding table first_in word_in size_in
firsts_in s = table (λ i. first_in (word_in s) Kind.area (suc i)) (cells_in (size_in s) Kind.area)

pub record Blank (l : List ℕ) : Type 0 where
  pub zero : (i : ℕ) → get_or l i 0 ≡ 0

pub record Tallied (s sides firsts : List ℕ) : Type 0 where
  pub sides_at : (i : ℕ) → i < cells_in (size_in s) Kind.area → get_or sides i 0 ≡ places_in (word_in s) Kind.area (suc i)
  pub first_at : (i : ℕ) → i < cells_in (size_in s) Kind.area → get_or firsts i 0 ≡ first_in (word_in s) Kind.area (suc i)

abbrev pub entry_at : List ℕ → ℕ → ℕ
entry_at l k = get_or l (k - 1) 0

pub record HasEntry (l : List ℕ) (k : ℕ) : Type 0 where
  pub least : 1 ≤ k
  pub most : k ≤ length l

pub record Noted (k p : ℕ) (sides firsts sides' firsts' : List ℕ) : Type 0 where
  pub counted : sides' ≡ set sides (k - 1) (entry_at sides k + 1)
  pub first : firsts' ≡ set firsts (k - 1) p
