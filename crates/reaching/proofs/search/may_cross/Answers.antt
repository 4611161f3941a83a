-- `reaching::search::may_cross` meets its contract. Assumes nothing.
use mathlib.Core.Path.{◌∙◌}
use borrow.Author.Tests.{le-leb}
use Rattle.reaching.proofs.Step.{allowed_has, allowed_past}
use Rattle.reaching.proofs.search.may_cross.Goals as goal

pub returns-then-e-marks : goal.returns-then-e-marks
returns-then-e-marks c = le-leb _ _ c.if-e-marks.true ∙ allowed_past _ _ c.if-e-marks.true

pub returns-else-e-marks : goal.returns-else-e-marks
returns-else-e-marks c = search allowed_has
