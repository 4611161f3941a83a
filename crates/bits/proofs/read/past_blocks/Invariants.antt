-- `bits::read::past_blocks` meets its contract. The loop keeps `Selected`: how many of those sought are still to come. Assumes nothing.
use Prim.Native.Nat.{◌*◌}
use Rattle.bits.proofs.Loops.{Selected}
use Rattle.bits.proofs.read.past_blocks.Given as goal

abbrev pub invariant-loop-b : goal.invariant-loop-b
invariant-loop-b l = Selected l.v l.s (8 * l.e) l.j (8 * (8 * l.b)) l.left
