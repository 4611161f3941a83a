-- `opening::checks::areas_fit` meets its contract. Assumes nothing.
use Rattle.opening.proofs.Rows.{areas_is}
use Rattle.opening.proofs.checks.areas_fit.Goals as goal

pub returns : goal.returns
returns c = search areas_is
