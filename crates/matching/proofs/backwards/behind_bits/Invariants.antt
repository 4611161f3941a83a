-- `matching::backwards::behind_bits` meets its contract. The loop keeps `Coming`: the scan comes this far. Assumes nothing.
use Rattle.matching.proofs.Loops.{Coming}
use Rattle.matching.proofs.backwards.behind_bits.Given as goal

abbrev pub invariant-loop-k : goal.invariant-loop-k
invariant-loop-k l = Coming l.s l.e l.p l.d l.k l.depth

abbrev pub decreases-loop-k : goal.decreases-loop-k
decreases-loop-k l = l.k
