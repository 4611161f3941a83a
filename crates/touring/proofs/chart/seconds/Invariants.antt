-- `touring::chart::seconds` meets its contract. The loop keeps `Telling`: of the positions passed it is told which are second. Assumes nothing.
use Rattle.touring.proofs.Touring.{Telling}
use Rattle.touring.proofs.chart.seconds.Given as goal

abbrev pub invariant-loop-p : goal.invariant-loop-p
invariant-loop-p l = Telling l.places l.initial.work l.p l.work
