-- `reaching::search::spread` meets its contract. The loop keeps `Searching`: what is queued is reached. Assumes nothing.
use Prim.Native.Nat.{◌-◌}
use lib.ListN.{length}
use Rattle.reaching.specs.Reaching.{allowed, borders_of}
use Rattle.reaching.proofs.Reach.{Searching}
use Rattle.reaching.proofs.search.spread.Given as goal

abbrev pub invariant-loop-head : goal.invariant-loop-head
invariant-loop-head l = Searching l.turning (borders_of l.turning) (allowed l.marks) l.initial.work l.work l.reached.ends l.reached.points l.head

abbrev pub decreases-loop-head : goal.decreases-loop-head
decreases-loop-head l = length l.turning - l.head
