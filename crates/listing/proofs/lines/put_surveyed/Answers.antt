use Rattle.listing.proofs.Listed.{lined_start, lined_step}
use Rattle.listing.proofs.lines.put_surveyed.Goals as goal

pub loop-p-init : goal.loop-p-init
loop-p-init c = search lined_start

pub loop-p-preserved : goal.loop-p-preserved
loop-p-preserved c =
    lined_step _ _ _ _ _ _ c.loop-p.invariant _ _ _ _ c.loop-p-test.true c.part_a-a.ensures c.bit-marked.ensures.0
    c.line_at-line.ensures c.put_line.ensures.0 c.put_line.ensures.1
