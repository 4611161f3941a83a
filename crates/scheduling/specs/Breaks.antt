-- Where the pages of a schedule begin, line by line.
--
-- page_break i == what stands before the line of area i + 1
-- Assumes nothing.
use Rattle.std.specs.Prelude.{List, [], ◌∷◌, ℕ, ◌%◌, eqb}
use Rattle.count.specs.Below.{pick}
use Rattle.text.specs.Decimal.{line_feed}
use Rattle.text.specs.Schedule.{per_page, page_heading}

-- 02, 1/14: "Each page has a heading line .., then 50 areas in order"; "An empty line stands between pages."
unfoldable pub page_break : ℕ → List ℕ
unfolding page_heading
page_break i = pick (eqb (i % per_page) 0) (pick (eqb i 0) page_heading (line_feed ∷ page_heading)) []
