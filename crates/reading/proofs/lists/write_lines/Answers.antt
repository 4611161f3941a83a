use native.Mathlib.Omega.{arith}
use lib.ListN.{length-set}
use Rattle.reading.proofs.Passes.{writing_start, writing_more, writing_room, writing_end}
use Rattle.reading.proofs.lists.write_lines.Goals as goal

pub loop-row-init : goal.loop-row-init
loop-row-init c = writing_start _ _ _ c.requires.0 c.requires.1 c.requires.2

pub bounds-turning-e : goal.bounds-turning-e
bounds-turning-e c = let r = writing_room _ _ _ _ _ _ _ c.loop-row.invariant _ c.in-Some.ensures in omega arith

pub bounds-turning-e-in-Some : goal.bounds-turning-e-in-Some
bounds-turning-e-in-Some c =
    let r = writing_room _ _ _ _ _ _ _ c.loop-row.invariant _ c.in-Some.ensures in simp length-set (omega arith)

pub bounds-marks-e : goal.bounds-marks-e
bounds-marks-e c = let r = writing_room _ _ _ _ _ _ _ c.loop-row.invariant _ c.in-Some.ensures in omega arith

pub loop-row-smaller : goal.loop-row-smaller
loop-row-smaller c = let r = writing_room _ _ _ _ _ _ _ c.loop-row.invariant _ c.in-Some.ensures in omega arith

pub loop-row-preserved : goal.loop-row-preserved
loop-row-preserved c = writing_more _ _ _ _ _ _ _ c.loop-row.invariant _ c.in-Some.ensures

pub returns : goal.returns
returns c =
    let w = writing_end _ _ _ _ _ _ _ c.loop-row.invariant c.in_default.ensures in
    record { turning_after = w.0; marks_after = w.1 }
