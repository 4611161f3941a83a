-- The line of a place, as the code holds it (document 01, "Listing").
--
-- line_text l  == the text of the line l: place, kind, mate, node and area
-- Short l     == its numbers have at most four digits
-- Says s p l  == l is the line of position p of the map s
-- Assumes nothing.
use Rattle.std.specs.Prelude.{◌≡◌, List, [], ◌∷◌, ◌++◌, ℕ, ◌<◌}
use Rattle.format.specs.Bytes.{word_in}
use Rattle.text.specs.Decimal.{space, line_feed, decimal}
use Rattle.text.specs.Listing.{place_line}
use Rattle.listing.specs.declared.line.Line.{Line}

unfoldable pub line_text : Line → List ℕ
unfolding decimal
line_text l =
    decimal l.place.0 ++ (space ∷ l.bracket ∷ space ∷ decimal l.mate.0 ++ (space ∷ decimal l.node.0 ++ (space ∷ decimal l.area.0 ++ (line_feed ∷ []))))

pub record Short (l : Line) : Type 0 where
  pub place : l.place.0 < 10000
  pub mate : l.mate.0 < 10000
  pub node : l.node.0 < 10000
  pub area : l.area.0 < 10000

pub record Says (s : List ℕ) (p : ℕ) (l : Line) : Type 0 where
  pub text : line_text l ≡ place_line (word_in s) p
  pub short : Short l
