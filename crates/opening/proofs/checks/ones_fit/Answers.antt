-- `opening::checks::ones_fit` meets its contract. Assumes nothing.
use Rattle.opening.proofs.Rows.{ones_is}
use Rattle.opening.proofs.checks.ones_fit.Goals as goal

pub returns : goal.returns
returns c = search ones_is
