-- `opening::checks::open_map` meets its contract. Assumes nothing.
use Rattle.opening.proofs.Passed.{open_passes}
use Rattle.opening.proofs.checks.open_map.Goals as goal

pub invariant_of-result : goal.invariant_of-result
invariant_of-result c = record { opens = open_passes _ c.in_ok-check.ensures.value }
