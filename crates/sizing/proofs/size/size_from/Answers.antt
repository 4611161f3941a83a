-- `sizing::size::size_from` meets its contract. Assumes nothing.
use Rattle.sizing.proofs.Counting.{counting_within}
use Rattle.sizing.proofs.size.size_from.Goals as goal

pub count-requires : goal.count-requires
count-requires c = search counting_within
