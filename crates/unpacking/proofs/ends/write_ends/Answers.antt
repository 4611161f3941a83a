use native.Mathlib.Omega.{arith}
use borrow.Author.Rules.{rules}
use Rattle.unpacking.proofs.Placed.{placing_start, placing_room, mate_room, end_small, placing_opens, placing_closes, placing_end}
use Rattle.unpacking.proofs.ends.write_ends.Goals.{else-p-q, then-p-q}
use Rattle.unpacking.proofs.ends.write_ends.Goals as goal

pub loop-p-init : goal.loop-p-init
loop-p-init c = search placing_start

pub bounds-ends-q : goal.bounds-ends-q
bounds-ends-q c = search mate_room

pub overflow_cast-ends : goal.overflow_cast-ends
overflow_cast-ends c = search (end_small, rules)

pub bounds-ends-p : goal.bounds-ends-p
bounds-ends-p c = search placing_room

pub loop-p-preserved : goal.loop-p-preserved
loop-p-preserved c =
    elim c.if-p-q.branch [
      | then-p-q w ↦ placing_opens _ _ _ _ _ _ c.loop-p.invariant _ _ (omega arith) c.requires.map_value c.requires.in_bounds.0 c.from-q.ensures _ _ c.from.ensures c.end_by.ensures w.if-p-q.true _ w.even-is
      | else-p-q w ↦ placing_closes _ _ _ _ _ _ c.loop-p.invariant _ _ (omega arith) c.requires.map_value c.requires.in_bounds.0 c.from-q.ensures _ _ c.from.ensures c.end_by.ensures w.if-p-q.false _ w.even-is
    ]

pub returns : goal.returns
returns c = search placing_end
