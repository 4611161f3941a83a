-- `opening::checks::unused_a` meets its contract. Assumes nothing.
use Rattle.opening.proofs.Rows.{unused_is}
use Rattle.opening.proofs.checks.unused_a.Goals as goal

pub returns : goal.returns
returns c = search unused_is
