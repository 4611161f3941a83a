use native.Mathlib.Omega.{arith}
use Rattle.scheduling.proofs.Paging.{paged_start, break_room, row_room, paged_more, total_room, paged_end}
use Rattle.scheduling.proofs.pages.put_pages.Goals as goal

pub loop-i-init : goal.loop-i-init
loop-i-init c = search paged_start

pub put_break-requires : goal.put_break-requires
put_break-requires c = search break_room

pub put_row-requires : goal.put_row-requires
put_row-requires c = (omega arith, omega arith, omega arith, row_room _ _ _ _ _ _ _ _ c.loop-i.invariant _ c.loop-i-test.true c.put_break.ensures)

pub loop-i-preserved : goal.loop-i-preserved
loop-i-preserved c =
    paged_more _ _ _ _ _ _ _ _ c.loop-i.invariant _ _ _ _ c.loop-i-test.true
    c.sides_of-count.ensures c.first_of-first.ensures.0 c.put_break.ensures (c.put_row.ensures.wrote, c.put_row.ensures.value)

pub put_total-requires : goal.put_total-requires
put_total-requires c = total_room _ _ _ _ _ _ _ _ c.loop-i.invariant c.loop-i-test.false

pub returns : goal.returns
returns c = paged_end _ _ _ _ _ _ _ _ c.loop-i.invariant c.loop-i-test.false _ c.put_total.ensures
