-- The factor of an area in the drawing's book, which has only the drawing and its tour.
--
-- book_factor D k kinds values == 15, 18, 19, or the factor of area k
-- Assumes nothing.
use Rattle.std.specs.Prelude.{List, ℕ, Float}
use Rattle.count.specs.Below.{pick}
use Rattle.answers.specs.Answer.{Answer, refused, Kind}
use Rattle.drawing.specs.Drawing.{Drawing, cells}
use Rattle.drawing.specs.Book.{has_number, book_landings}
use Rattle.tariff.specs.Tariff.{rated}

-- 02: "both come after opening and 15"; "the mean across its sides", read with the book's walk, crossings and numbers
unfoldable pub book_factor : Drawing → ℕ → List ℕ → List Float → Answer Float
unfolding has_number rated cells book_landings
book_factor D k kinds values =
    pick (has_number D Kind.area k) (rated (cells D Kind.area) kinds values k (book_landings D k)) (refused 15)
