-- `touring::chart::crossed` meets its contract. Assumes nothing.
use borrow.Author.Rules.{rules}
use Rattle.touring.proofs.Touring.{crossed_marked, crossed_below, crossed_not}
use Rattle.touring.proofs.chart.crossed.Goals as goal

pub returns-then-marks-from-eq1 : goal.returns-then-marks-from-eq1
returns-then-marks-from-eq1 c = (crossed_marked _ _ (rw c.from.ensures at c.if-marks-from-eq1.true) _ c.other.ensures, search crossed_below)

pub returns-else-marks-from-eq1 : goal.returns-else-marks-from-eq1
returns-else-marks-from-eq1 c = (crossed_not _ _ (rw c.from.ensures at c.if-marks-from-eq1.false), search rules)
