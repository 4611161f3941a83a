-- `bits::read::rank` meets its contract. The loops keep `Counted`: the ones of the bytes passed. Assumes nothing.
use Prim.Native.Nat.{◌+◌, ◌*◌, ◌/◌}
use Rattle.bits.proofs.Loops.{Counted}
use Rattle.bits.proofs.read.rank.Given as goal

abbrev pub invariant-loop-block : goal.invariant-loop-block
invariant-loop-block l = Counted l.s l.i 0 (8 * l.block-index) l.ones

abbrev pub invariant-loop-x : goal.invariant-loop-x
invariant-loop-x l = Counted l.s l.i 0 (l.e / 8 * 8 + l.x-index) l.ones
