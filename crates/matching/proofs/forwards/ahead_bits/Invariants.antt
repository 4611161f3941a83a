-- `matching::forwards::ahead_bits` meets its contract. The loop keeps `Going`: the scan comes this far. Assumes nothing.
use Prim.Native.Nat.{◌-◌}
use Rattle.matching.proofs.Loops.{Going}
use Rattle.matching.proofs.forwards.ahead_bits.Given as goal

abbrev pub invariant-loop-q : goal.invariant-loop-q
invariant-loop-q l = Going l.s l.n l.p l.d l.q l.depth

abbrev pub decreases-loop-q : goal.decreases-loop-q
decreases-loop-q l = l.n - l.q
