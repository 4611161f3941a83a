-- `opening::checks::unused_fits` meets its contract. Assumes nothing.
use Rattle.opening.proofs.Rows.{unused_a_not, unused_never, unused_b_not, unused_left}
use Rattle.opening.proofs.checks.unused_fits.Goals.{else-unused_a, then-unused_a}
use Rattle.opening.proofs.checks.unused_fits.Goals as goal

pub returns-then-unused_b : goal.returns-then-unused_b
returns-then-unused_b c =
    elim c.if-unused_a.branch [
      | then-unused_a w ↦ search unused_left
      | else-unused_a w ↦ search unused_never
    ]

pub returns-else-unused_b : goal.returns-else-unused_b
returns-else-unused_b c =
    elim c.if-unused_a.branch [
      | then-unused_a w ↦ search unused_b_not
      | else-unused_a w ↦ search unused_a_not
    ]
