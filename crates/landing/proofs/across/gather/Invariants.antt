-- `landing::across::gather` meets its contract. The loop keeps `Passing`. Assumes nothing.
use lib.ListN.{length}
use Rattle.landing.proofs.Gathering.{Passing}
use Rattle.landing.proofs.across.gather.Given as goal

abbrev pub invariant-loop-p : goal.invariant-loop-p
invariant-loop-p l = Passing l.survey.map.now l.k l.mates l.areas (length l.initial.list) l.n l.p l.c l.list
