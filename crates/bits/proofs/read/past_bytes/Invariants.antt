-- `bits::read::past_bytes` meets its contract. The loop keeps `Selected`: how many of those sought are still to come. Assumes nothing.
use Prim.Native.Nat.{◌+◌, ◌*◌}
use Rattle.bits.specs.Strings.{rank}
use Rattle.bits.proofs.Loops.{Selected}
use Rattle.bits.proofs.read.past_bytes.Given as goal

abbrev pub invariant-loop-k : goal.invariant-loop-k
invariant-loop-k l = Selected l.v l.s (8 * l.e) (rank l.v l.s (8 * l.a) + l.j) (8 * l.k) l.left
