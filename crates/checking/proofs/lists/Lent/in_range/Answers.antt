-- `checking::lists::Lent::in_range` meets its contract. Assumes nothing.
use mathlib.Core.Path.{◌∙◌}
use native.Mathlib.Omega.{arith}
use Rattle.checking.proofs.Scans.{range_start, range_entries, range_marks}
use Rattle.checking.proofs.lists.Lent.in_range.Goals as goal

pub returns-then-max-self : goal.returns-then-max-self
returns-then-max-self c = range_start _ _ _ c.requires (omega (arith, c.max.ensures, c.if-max-self.true))

pub returns-then-entries_fit : goal.returns-then-entries_fit
returns-then-entries_fit c = range_marks _ _ _ c.requires (omega (arith, c.max.ensures, c.if-max-self.false)) _ c.entries_fit.ensures c.if-entries_fit.true _ c.marks_fit.ensures

pub returns-else-entries_fit : goal.returns-else-entries_fit
returns-else-entries_fit c = c.if-entries_fit.false ∙ range_entries _ _ _ c.requires _ c.entries_fit.ensures c.if-entries_fit.false
