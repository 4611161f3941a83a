-- `unpacking::ends::end_by` meets its contract. Assumes nothing.
use Rattle.unpacking.proofs.Placed.{end_first, end_second}
use Rattle.unpacking.proofs.ends.end_by.Goals as goal

pub returns-then-p-q : goal.returns-then-p-q
returns-then-p-q c = search end_first

pub returns-else-p-q : goal.returns-else-p-q
returns-else-p-q c = search end_second
