-- What is shown of the schedule (document 02, 1/14): one record for each theorem of proofs/Schedule.antt.
--
-- LineFits r     == the line of a row has exactly 19 characters and a line feed, and no number needs a sixth column
-- AreasDown s    == reading the area numbers down the pages gives 1, 2, .. m-n+2; every page but the last has 50
-- Answered s k   == the row of area k has what `sides` and `area_first` answer
-- Scheduled s    == all that is shown of the schedule of a map that opens
-- Assumes nothing.
use Rattle.std.specs.Prelude.{◌≡◌, ◌≢◌, ℕ, suc, ◌+◌, ◌-◌, ◌*◌, ◌≤◌, ◌<◌, length, get_or}
use mathlib.Core.List.{List, [], ◌∷◌, ◌++◌, Memᴰ, map, flatten}
use Rattle.count.specs.Below.{table}
use Rattle.answers.specs.Answer.{answer, Kind}
use Rattle.format.specs.Bytes.{size_in}
use Rattle.format.specs.Calls.{cells_in, first_of, size_of}
use Rattle.text.specs.Decimal.{line_feed, decimal}
use Rattle.text.specs.Schedule.{per_page, Row, row_of, rows_of, row_cells, row_line, pages_of, sum_of, total_line, schedule_text, schedule_of}

-- 02: "each area's line has exactly 19 characters"
pub record LineFits (r : Row) : Type 0 where
  pub line : row_line r ≡ row_cells r ++ (line_feed ∷ [])
  pub characters : length (row_cells r) ≡ 19
  pub one_line : (c : ℕ) → Memᴰ c (row_cells r) → c ≢ line_feed
  pub area_fits : length (decimal r.area) ≤ 5
  pub sides_fit : length (decimal r.sides) ≤ 5
  pub first_fits : length (decimal r.first) ≤ 5

-- 02: "50 areas in order, fewer only on the last page"; 01: "There are m-n+2 areas."
pub record AreasDown (s : List ℕ) : Type 0 where
  pub numbers : map (λ (r : Row). r.area) (flatten (pages_of (rows_of s))) ≡ table suc ((size_in s).m + 2 - (size_in s).n)
  pub full : (j : ℕ) → suc j < length (pages_of (rows_of s)) → length (get_or (pages_of (rows_of s)) j []) ≡ per_page
  pub last : (j : ℕ) → suc j ≡ length (pages_of (rows_of s))
      → (0 < length (get_or (pages_of (rows_of s)) j [])) × (length (get_or (pages_of (rows_of s)) j []) ≤ per_page)

-- 02: "number, sides and first place": those that the calls answer
pub record Answered (s : List ℕ) (k : ℕ) : Type 0 where
  pub number : (row_of s k).area ≡ k
  pub sides : size_of s Kind.area k ≡ answer (row_of s k).sides
  pub first : first_of s Kind.area k ≡ answer (row_of s k).first

-- 02: "That the sum is 2m, and that each area's line has exactly 19 characters, is shown for all maps." What is printed is made
-- of these rows and of no others. The last line has 12 characters and a line feed: the sum needs no sixth column.
pub record Scheduled (s : List ℕ) : Type 0 where
  pub printed : schedule_of s ≡ schedule_text (rows_of s)
  pub total : sum_of (rows_of s) ≡ 2 * (size_in s).m
  pub total_fits : length (total_line (sum_of (rows_of s))) ≡ 13
  pub lines : (k : ℕ) → k ≤ cells_in (size_in s) Kind.area → LineFits (row_of s k)
  pub areas : AreasDown s
  pub answers : (k : ℕ) → 1 ≤ k → k ≤ cells_in (size_in s) Kind.area → Answered s k
