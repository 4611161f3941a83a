-- `matching::backwards::behind_by` meets its contract. The loop keeps `Coming`, a byte at a time. Assumes nothing.
use Prim.Native.Nat.{◌*◌, ◌≤◌}
use lib.ListN.{length}
use Rattle.matching.proofs.Loops.{Coming}
use Rattle.matching.proofs.backwards.behind_by.Given as goal

abbrev pub invariant-loop-at : goal.invariant-loop-at
invariant-loop-at l = (l.at ≤ length l.s) × Coming l.s 0 (8 * l.k) l.d (8 * l.at) l.depth

abbrev pub decreases-loop-at : goal.decreases-loop-at
decreases-loop-at l = l.at
