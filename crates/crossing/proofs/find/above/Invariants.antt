-- `crossing::find::above` meets its contract. Assumes nothing.
use Prim.Native.Nat.{◌-◌}
use Rattle.crossing.proofs.Climb.{Climbing}
use Rattle.crossing.proofs.find.above.Given as goal

abbrev pub invariant-loop-i : goal.invariant-loop-i
invariant-loop-i l = Climbing l.places l.k l.e l.work l.i

abbrev pub decreases-loop-i : goal.decreases-loop-i
decreases-loop-i l = l.k - l.i
