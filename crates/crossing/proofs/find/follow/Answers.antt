use Rattle.crossing.proofs.Stack.{nesting_border, nesting_flag, nesting_found, nesting_height, nesting_here, nesting_last, nesting_last_place, nesting_narrow, nesting_none, nesting_outside, nesting_pop, nesting_push, nesting_scaled, nesting_skip, nesting_some, nesting_stands, nesting_start, nesting_sum, nesting_top, nesting_top_scaled, nesting_top_sum, some_all}
use Rattle.crossing.proofs.find.follow.Goals.{then-marks-e-ne1+then-work-places-eq0, then-marks-e-ne1+else-work-places-eq0+else-opened-e, else-marks-e-ne1}
use Rattle.crossing.proofs.find.follow.Goals as goal

pub loop-p-init : goal.loop-p-init
loop-p-init c = search nesting_start

pub border_in-e-requires : goal.border_in-e-requires
border_in-e-requires c = search nesting_here

pub bounds-marks-e : goal.bounds-marks-e
bounds-marks-e c = search nesting_border

pub overflow_add-places : goal.overflow_add-places
overflow_add-places c = search nesting_sum

pub offset_bounds-work-places : goal.offset_bounds-work-places
offset_bounds-work-places c = search nesting_scaled

pub bounds-work-places : goal.bounds-work-places
bounds-work-places c = search nesting_flag

pub overflow_cast-work : goal.overflow_cast-work
overflow_cast-work c = search nesting_narrow

pub overflow_add-work : goal.overflow_add-work
overflow_add-work c = search nesting_top_sum

pub offset_bounds-work-places-then-work-places-eq0 : goal.offset_bounds-work-places-then-work-places-eq0
offset_bounds-work-places-then-work-places-eq0 c = search nesting_top_scaled

pub bounds-work-places-then-work-places-eq0 : goal.bounds-work-places-then-work-places-eq0
bounds-work-places-then-work-places-eq0 c = search nesting_top

pub overflow_add-k : goal.overflow_add-k
overflow_add-k c = search nesting_height

pub overflow_sub-k : goal.overflow_sub-k
overflow_sub-k c = search nesting_some

pub opened-requires : goal.opened-requires
opened-requires c = (search nesting_last, search nesting_last_place)

pub above-b-requires : goal.above-b-requires
above-b-requires c =
    nesting_stands _ _ c.requires _ _ _ c.loop-p.invariant c.loop-p-test.true _ c.border_in-e.ensures c.if-marks-e-ne1.true
    c.if-work-places-eq0.false _ c.opened.ensures c.if-opened-e.true

pub returns-then-opened-e : goal.returns-then-opened-e
returns-then-opened-e c =
    record {
      result_value = search nesting_found;
      outside = search nesting_outside;
    }

pub overflow_sub-k-else-work-places-eq0 : goal.overflow_sub-k-else-work-places-eq0
overflow_sub-k-else-work-places-eq0 c = search some_all

pub loop-p-preserved : goal.loop-p-preserved
loop-p-preserved c =
    elim c.if-marks-e-ne1.branch [
      | then-marks-e-ne1+then-work-places-eq0 w ↦ search nesting_push
      | then-marks-e-ne1+else-work-places-eq0+else-opened-e w ↦
          nesting_pop _ _ c.requires _ _ _ c.loop-p.invariant c.loop-p-test.true _ c.border_in-e.ensures w.if-marks-e-ne1.true
          w.if-work-places-eq0.false _ w.opened.ensures w.if-opened-e.false _ _ w.k-is w.work-is
      | else-marks-e-ne1 w ↦ search nesting_skip
    ]

pub returns : goal.returns
returns c =
    record {
      result_value = search nesting_none;
      outside = search nesting_outside;
    }
