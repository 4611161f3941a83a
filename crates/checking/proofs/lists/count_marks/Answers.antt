-- `checking::lists::count_marks` meets its contract. Assumes nothing.
use Rattle.checking.proofs.Scans.{marked_no, marked_yes}
use Rattle.checking.proofs.lists.count_marks.Goals.{else-m-eq1, then-m-eq1}
use Rattle.checking.proofs.lists.count_marks.Goals as goal

pub loop-m-preserved : goal.loop-m-preserved
loop-m-preserved c =
    elim c.if-m-eq1.branch [
      | then-m-eq1 w ↦ search marked_yes
      | else-m-eq1 w ↦ search marked_no
    ]
