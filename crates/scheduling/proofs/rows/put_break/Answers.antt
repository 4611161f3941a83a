-- `scheduling::rows::put_break` meets its contract. Assumes nothing.
use native.Mathlib.Omega.{arith}
use Rattle.text.specs.Schedule.{page_heading}
use Rattle.scheduling.proofs.Columns.{break_none, break_first, break_next}
use Rattle.scheduling.proofs.rows.put_break.Goals as goal
use Rattle.scheduling.proofs.rows.put_break.Goals.{then-i-ne0-2, else-i-ne0-2}

pub returns-then-i-ne0 : goal.returns-then-i-ne0
returns-then-i-ne0 c = break_none _ _ c.if-i-ne0.true

pub returns : goal.returns
unfolding page_heading
returns c =
    elim c.if-i-ne0-2.branch [
      | then-i-ne0-2 w ↦ break_next _ _ _ _ c.text.ensures _ (omega arith) (omega arith) w.if-i-ne0-2.true w.byte.ensures w.page-is
      | else-i-ne0-2 w ↦ break_first _ _ _ _ c.text.ensures (omega arith) w.page-is
    ]
