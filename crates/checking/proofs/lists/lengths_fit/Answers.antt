-- `checking::lists::lengths_fit` meets its contract. Assumes nothing.
use native.Mathlib.Omega.{arith}
use Rattle.checking.proofs.Scans.{lengths_long, lengths_are}
use Rattle.checking.proofs.lists.lengths_fit.Goals as goal

pub returns-then-ends-gt-MOST_ENDS : goal.returns-then-ends-gt-MOST_ENDS
returns-then-ends-gt-MOST_ENDS c = lengths_long _ _ (omega (arith, c.if-ends-gt-MOST_ENDS.true))

pub returns : goal.returns
returns c = lengths_are _ _ (omega (arith, c.if-ends-gt-MOST_ENDS.false))
