-- `bits::read::select_in_bits` meets its contract. The loop keeps `Selected`: how many of those sought are still to come. Assumes nothing.
use Prim.Native.Nat.{◌+◌}
use Rattle.bits.specs.Strings.{rank}
use Rattle.bits.proofs.Loops.{Selected}
use Rattle.bits.proofs.read.select_in_bits.Given as goal

abbrev pub invariant-loop-k : goal.invariant-loop-k
invariant-loop-k l = Selected l.v l.s l.n (rank l.v l.s l.p + l.j) l.k l.left
