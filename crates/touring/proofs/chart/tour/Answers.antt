use Rattle.touring.proofs.Touring.{touring_all, touring_end, touring_entry, touring_more, touring_narrow, touring_outside, touring_start}
use Rattle.touring.proofs.chart.tour.Goals as goal

pub overflow_cast-h : goal.overflow_cast-h
overflow_cast-h c = search touring_narrow

pub loop-p-init : goal.loop-p-init
loop-p-init c = search touring_start

pub crossed-requires : goal.crossed-requires
crossed-requires c = search touring_end

pub bounds-drawing-from : goal.bounds-drawing-from
bounds-drawing-from c = rw c.from.ensures (search touring_entry)

pub loop-p-preserved : goal.loop-p-preserved
loop-p-preserved c = rw c.from.ensures (search touring_more)

pub returns : goal.returns
returns c =
    record {
      tours = search touring_all;
      outside = search touring_outside;
    }
