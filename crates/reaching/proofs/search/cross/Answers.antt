-- `reaching::search::cross` meets its contract. Assumes nothing.
use Rattle.std.proofs.Common.{not, ap}
use borrow.Author.Rules.{rules}
use Rattle.drawing.specs.Drawing.{border}
use Rattle.reaching.proofs.Step.{crossed_out, crossed_old, cross_beyond, cross_in, cross_entry, noted_queue, noted_whole, cross_length, cross_points, crossed_new}
use Rattle.reaching.proofs.search.cross.Goals as goal

pub returns-then-not-may_cross : goal.returns-then-not-may_cross
returns-then-not-may_cross c = crossed_out _ _ _ _ _ _ _ c.requires.4 _ (rw c.from-e.ensures at c.may_cross.ensures) (ap not c.if-not-may_cross.true)

pub bounds-work-from : goal.bounds-work-from
bounds-work-from c = rw c.from.ensures (cross_in _ _ _ _ _ _ _ c.requires.4 c.requires.0 c.requires.1 c.requires.2 _ c.other-beyond.ensures)

pub returns-then-work-from-ne0 : goal.returns-then-work-from-ne0
returns-then-work-from-ne0 c = crossed_old _ _ _ _ _ _ _ c.requires.4 _ c.other-beyond.ensures (rw c.from.ensures at c.if-work-from-ne0.true)

pub bounds-work-turning : goal.bounds-work-turning
unfolding border
bounds-work-turning c = rw c.from-e.ensures (cross_entry _ _ _ _ _ _ _ c.requires.4 c.requires.0 c.requires.1 c.requires.2)

pub gather-requires : goal.gather-requires
unfolding border
gather-requires c = (
  c.requires.0,
  search (c.requires.2, cross_beyond _ _ _ _ _ _ _ c.requires.4 c.requires.0 c.requires.1 c.requires.2 _ c.other-beyond.ensures),
  rw c.from-e.ensures (noted_queue _ _ _ _ _ _ _ c.requires.4 c.requires.0 c.requires.1 c.requires.2),
  rw c.from-e.ensures (noted_whole _ _ _ _ _ _ _ c.requires.4 c.requires.0 c.requires.1 c.requires.2),
)

pub overflow_add-result : goal.overflow_add-result
overflow_add-result c = cross_points _ _ _ _ _ _ _ c.requires.4 c.requires.0 c.requires.1 c.requires.2 (search rules)

pub shape_of-work : goal.shape_of-work
unfolding border
shape_of-work c = cross_length _ _ _ _ _ _ _ c.requires.4 c.requires.0 c.requires.1 c.requires.2 _ _ _ (rw c.from-e.ensures at c.gather.ensures)

pub returns : goal.returns
unfolding border
returns c =
    crossed_new _ _ _ _ _ _ _ c.requires.4 c.requires.0 c.requires.1 c.requires.2 c.requires.3
    _ (rw c.from-e.ensures at c.may_cross.ensures) (ap not c.if-not-may_cross.false)
    _ c.other-beyond.ensures (rw c.from.ensures at c.if-work-from-ne0.false) _ _ (rw c.from-e.ensures at c.gather.ensures)
