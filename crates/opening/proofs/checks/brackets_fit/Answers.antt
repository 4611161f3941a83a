-- `opening::checks::brackets_fit` meets its contract. Assumes nothing.
use Rattle.opening.proofs.Rows.{brackets_not, brackets_left}
use Rattle.opening.proofs.checks.brackets_fit.Goals as goal

pub returns-then-balanced_b : goal.returns-then-balanced_b
returns-then-balanced_b c = search brackets_left

pub returns-else-balanced_b : goal.returns-else-balanced_b
returns-else-balanced_b c = search brackets_not
