-- `opening::numbers::cells` meets its contract. Assumes nothing.
use Rattle.opening.proofs.Refused.{cells_points, cells_areas}
use Rattle.opening.proofs.numbers.cells.Goals as goal

pub returns-in-Point : goal.returns-in-Point
returns-in-Point c = search cells_points

pub returns-in-Area : goal.returns-in-Area
returns-in-Area c = search cells_areas
