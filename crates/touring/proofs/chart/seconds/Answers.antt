use Rattle.touring.proofs.Touring.{telling_all, telling_flag, telling_here, telling_more, telling_place, telling_scaled, telling_start, telling_stored, telling_sum}
use Rattle.touring.proofs.chart.seconds.Goals as goal

pub loop-p-init : goal.loop-p-init
loop-p-init c = search telling_start

pub border_in-e-requires : goal.border_in-e-requires
border_in-e-requires c = search telling_here

pub overflow_add-work : goal.overflow_add-work
overflow_add-work c = search telling_sum

pub offset_bounds-work-places : goal.offset_bounds-work-places
offset_bounds-work-places c = search telling_scaled

pub bounds-work-places : goal.bounds-work-places
bounds-work-places c = search telling_flag

pub bounds-work-places-in-loop-p : goal.bounds-work-places-in-loop-p
bounds-work-places-in-loop-p c = search telling_place

pub overflow_add-work-in-loop-p-2 : goal.overflow_add-work-in-loop-p-2
overflow_add-work-in-loop-p-2 c = search telling_sum

pub offset_bounds-work-places-in-loop-p-2 : goal.offset_bounds-work-places-in-loop-p-2
offset_bounds-work-places-in-loop-p-2 c = search telling_scaled

pub bounds-work-places-in-loop-p-2 : goal.bounds-work-places-in-loop-p-2
bounds-work-places-in-loop-p-2 c = search telling_stored

pub loop-p-preserved : goal.loop-p-preserved
loop-p-preserved c = search telling_more

pub returns : goal.returns
returns c = search telling_all
