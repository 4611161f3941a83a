-- A point or an area by its number.
--
-- kind_of c       == whether the cell c is a point or an area
-- number_of_cell c == its number
-- Assumes nothing.
use Rattle.std.specs.Prelude.{ℕ}
use Rattle.answers.specs.Answer.{Kind}
use Rattle.opening.specs.declared.cells.Cell.{Cell}

abbrev pub kind_of : Cell → Kind
kind_of (Cell.Point p) = Kind.point
kind_of (Cell.Area a) = Kind.area

abbrev pub number_of_cell : Cell → ℕ
number_of_cell (Cell.Point p) = p.0
number_of_cell (Cell.Area a) = a.0
