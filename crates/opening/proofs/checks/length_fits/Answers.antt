-- `opening::checks::length_fits` meets its contract. Assumes nothing.
use Rattle.opening.proofs.Rows.{length_is}
use Rattle.opening.proofs.checks.length_fits.Goals as goal

pub returns : goal.returns
returns c = search length_is
