use mathlib.Core.Path.{refl}
use native.Mathlib.Omega.{arith}
use borrow.Author.Rules.{rules}
use Rattle.unpacking.proofs.Written.{writing_start, mate_few, round_below, turning_room, marks_room, writing_more, writing_turning, writing_marks}
use Rattle.unpacking.proofs.lists.write_drawing.Goals as goal

pub loop-p-init : goal.loop-p-init
loop-p-init c = search writing_start

pub round_mate-q-requires : goal.round_mate-q-requires
round_mate-q-requires c = (search rules, search rules, search mate_few)

pub after-requires : goal.after-requires
after-requires c = (search round_below, search rules)

pub bounds-turning-h : goal.bounds-turning-h
bounds-turning-h c = search turning_room

pub bounds-marks-h : goal.bounds-marks-h
bounds-marks-h c = search marks_room

pub loop-p-preserved : goal.loop-p-preserved
loop-p-preserved c =
    writing_more _ _ _ _ _ _ _ c.loop-p.invariant (omega arith) _ _ _ _ _ _ _ _ _ c.requires.map_value.0 c.requires.map_value.1 c.requires.in_bounds.0
    c.part_a-a.ensures c.bit-mark.ensures.0 c.from-h.ensures c.from.ensures c.round_mate-q.ensures c.after.ensures.0 c.after.ensures.1 refl

pub returns : goal.returns
returns c =
    record {
      turning_after = search writing_turning;
      marks_after = search writing_marks;
    }
