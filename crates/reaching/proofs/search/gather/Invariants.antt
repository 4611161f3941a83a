-- `reaching::search::gather` meets its contract. The loop keeps `Gathering`: the ends passed are flagged and queued. Assumes nothing.
use Prim.Native.Nat.{◌-◌}
use lib.ListN.{length}
use Rattle.reaching.proofs.Gather.{Gathering}
use Rattle.reaching.proofs.search.gather.Given as goal

abbrev pub invariant-loop-work : goal.invariant-loop-work
invariant-loop-work l = Gathering l.turning l.h l.initial.work l.tail l.at l.work l.end

abbrev pub decreases-loop-work : goal.decreases-loop-work
decreases-loop-work l = length l.turning - l.end
