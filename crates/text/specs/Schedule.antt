-- The schedule of a map's areas, and what the program `schedule` prints (document 02, 1/14).
--
-- per_page         == how many areas a page has; page_heading is its first line
-- column x        == x right-aligned in 5 columns; gap is the two spaces between columns
-- Row             == what a line says of an area: its number, its sides, its first place
-- row_of s k       == the row of area k of the map s, by what `sides` and `area_first` answer
-- rows_of s        == the rows of all areas of the map s, in order
-- book_rows D      == the rows that the drawing's book gives
-- row_cells r      == the 19 characters of a row's line; row_line is the line, row_lines the lines of several rows
-- pages_of rs      == the rows of each page: 50 in order, fewer only on the last page
-- page_text rs     == a page: the heading and the lines of its rows
-- apart ts        == texts with an empty line between one and the next
-- pages_text rs    == the pages of the rows so put apart
-- sum_of rs        == the sum of the rows' sides
-- total_line x     == the last line, with the sum x
-- schedule_text rs == the pages of the rows and the last line
-- schedule s      == the schedule of the map s
-- schedule_of s    == what `schedule` prints for the bytes s
-- Assumes nothing.
use Rattle.std.specs.Prelude.{List, [], ◌∷◌, ◌++◌, map, ℕ, suc, ◌+◌, ◌-◌, ◌*◌, ◌/◌, length, take, drop}
use Rattle.count.specs.Below.{table}
use Rattle.answers.specs.Answer.{value_of, Kind}
use Rattle.answers.specs.Checks.{after}
use Rattle.drawing.specs.Drawing.{Drawing, cells}
use Rattle.drawing.specs.Book.{book_first, book_size}
use Rattle.format.specs.Bytes.{size_in, word_in}
use Rattle.format.specs.Calls.{cells_in, first_in, places_in}
use Rattle.format.specs.Open.{open_checks, open_of}
use Rattle.text.specs.Decimal.{codes, line_feed, aligned}
use Rattle.text.specs.Listing.{shown}

-- 02: "Each page has a heading line .., then 50 areas in order"
abbrev pub per_page : ℕ
per_page = 50

unfoldable pub page_heading : List ℕ
unfolding codes
page_heading = codes " area  sides  first\n"

-- 02: "each right-aligned in 5 columns with two spaces between"
unfoldable pub column : ℕ → List ℕ
unfolding aligned
column x = aligned 5 x

unfoldable pub gap : List ℕ
unfolding codes
gap = codes "  "

-- 02: "number, sides and first place"
pub record Row : Type 0 where
  pub area : ℕ
  pub sides : ℕ
  pub first : ℕ

-- the definitions by which `map::sides` and `map::area_first` answer
unfoldable pub row_of : List ℕ → ℕ → Row
unfolding places_in first_in word_in
row_of s k = record { area = k; sides = places_in (word_in s) Kind.area k; first = first_in (word_in s) Kind.area k }

unfoldable pub rows_of : List ℕ → List Row
unfolding table row_of size_in
rows_of s = table (λ i. row_of s (suc i)) (cells_in (size_in s) Kind.area)

-- the same from the book, which never sees the packed map
unfoldable pub book_rows : Drawing → List Row
unfolding table value_of book_size book_first cells
book_rows D =
    table (λ i. record { area = suc i; sides = value_of (book_size D Kind.area (suc i)); first = value_of (book_first D Kind.area (suc i)) })
    (cells D Kind.area)

-- 02: "so 19 characters and a line feed"
unfoldable pub row_cells : Row → List ℕ
unfolding column gap
row_cells r = column r.area ++ (gap ++ (column r.sides ++ (gap ++ column r.first)))

unfoldable pub row_line : Row → List ℕ
unfolding row_cells
row_line r = row_cells r ++ (line_feed ∷ [])

unfoldable pub row_lines : List Row → List ℕ
unfolding row_line
row_lines [] = []
row_lines (r ∷ rs) = row_line r ++ row_lines rs

unfoldable pub page_text : List Row → List ℕ
unfolding page_heading row_lines
page_text rs = page_heading ++ row_lines rs

-- 02: "50 areas in order, fewer only on the last page". Page j, from 0, has the rows after the first 50 j.
unfoldable pub pages_of : List Row → List (List Row)
unfolding table
pages_of rs = table (λ j. take per_page (drop (per_page * j) rs)) ((length rs + (per_page - 1)) / per_page)

-- 02: "An empty line stands between pages."
unfoldable pub apart : List (List ℕ) → List ℕ
apart [] = []
apart (t ∷ []) = t
apart (t ∷ u ∷ ts) = t ++ (line_feed ∷ apart (u ∷ ts))

unfoldable pub sum_of : List Row → ℕ
sum_of [] = 0
sum_of (r ∷ rs) = r.sides + sum_of rs

-- 02: "The last line, straight after the last area's, is `total`, two spaces and the sum of sides, right-aligned in 5 columns."
unfoldable pub total_line : ℕ → List ℕ
unfolding codes gap column
total_line x = codes "total" ++ (gap ++ (column x ++ (line_feed ∷ [])))

unfoldable pub pages_text : List Row → List ℕ
unfolding pages_of page_text apart
pages_text rs = apart (map page_text (pages_of rs))

unfoldable pub schedule_text : List Row → List ℕ
unfolding pages_text sum_of total_line
schedule_text rs = pages_text rs ++ total_line (sum_of rs)

unfoldable pub schedule : List ℕ → List ℕ
unfolding schedule_text rows_of
schedule s = schedule_text (rows_of s)

-- 02: "A program reads a map's bytes from standard input and prints it, or the `refused` line as `places` does."
unfoldable pub schedule_of : List ℕ → List ℕ
unfolding open_of shown schedule
schedule_of s = shown schedule (after (open_checks s) s)
