-- `touring::chart::tour` meets its contract. The loop keeps `Touring`: the ends passed stand in the list. Assumes nothing.
use Rattle.checking.specs.Lent.{drawn}
use Rattle.touring.proofs.Touring.{Touring}
use Rattle.touring.proofs.chart.tour.Given as goal

abbrev pub invariant-loop-p : goal.invariant-loop-p
invariant-loop-p l = Touring (drawn l.drawing) l.initial.work l.h l.p l.work
