-- `landing::across::few_across` meets its contract. The loop keeps `Walking`. Assumes nothing.
use Prim.Native.Nat.{◌-◌}
use lib.ListN.{length}
use Rattle.landing.proofs.Gathering.{area_of, Walking}
use Rattle.landing.proofs.across.few_across.Given as goal

abbrev pub invariant-loop-work : goal.invariant-loop-work
invariant-loop-work l = Walking l.map (area_of l.map l.initial.p) (length l.initial.list) l.most l.p l.c l.work l.list

abbrev pub decreases-loop-work : goal.decreases-loop-work
decreases-loop-work l = l.most - l.work
