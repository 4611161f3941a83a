-- `sizing::counts::Strings::count` meets its contract. The loop keeps `Going`. Assumes nothing.
use Prim.Native.Nat.{◌-◌}
use Rattle.sizing.proofs.Letters.{Going}
use Rattle.sizing.proofs.counts.Strings.count.Given as goal

abbrev pub invariant-loop-p : goal.invariant-loop-p
invariant-loop-p l = Going l.self.v l.self.a.now l.self.b.now l.n l.initial.p l.initial.j l.p l.j l.at.depth l.at.found

abbrev pub decreases-loop-p : goal.decreases-loop-p
decreases-loop-p l = l.n - l.p
