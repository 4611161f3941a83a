-- Positions and numbers of a map's bytes: what the functions on its word ask, and promise of their answers.
--
-- Position s p == s opens, and p is one of its positions: p is place p + 1
-- Numbered s c == s opens, and has the point or the area c
-- Assumes nothing.
use Rattle.std.specs.Prelude.{◌≡◌, List, ℕ, ◌<◌, ◌≤◌}
use Rattle.drawing.specs.Drawing.{most_ends}
use Rattle.format.specs.Bytes.{size_in, bits_a}
use Rattle.format.specs.Open.{open_refusal}
use Rattle.format.specs.Calls.{cells_in}
use Rattle.opening.specs.Cells.{kind_of, number_of_cell}
use Rattle.opening.specs.declared.cells.Cell.{Cell}

pub record Position (s : List ℕ) (p : ℕ) : Type 0 where
  pub opens : open_refusal s ≡ 0
  pub below : p < bits_a (size_in s)
  pub few : p < most_ends

pub record Numbered (s : List ℕ) (c : Cell) : Type 0 where
  pub opens : open_refusal s ≡ 0
  pub least : 1 ≤ number_of_cell c
  pub most : number_of_cell c ≤ cells_in (size_in s) (kind_of c)
