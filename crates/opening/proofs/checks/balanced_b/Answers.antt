-- `opening::checks::balanced_b` meets its contract. Assumes nothing.
use Rattle.opening.proofs.Rows.{balanced_is}
use Rattle.opening.proofs.checks.balanced_b.Goals as goal

pub returns : goal.returns
returns c = search balanced_is
