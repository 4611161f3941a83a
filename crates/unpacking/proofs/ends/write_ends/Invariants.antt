-- `unpacking::ends::write_ends` meets its contract. The loop keeps `Placing`: the ends at the positions passed are written. Assumes nothing.
use Rattle.unpacking.proofs.Placed.{Placing}
use Rattle.unpacking.proofs.ends.write_ends.Given as goal

abbrev pub invariant-loop-p : goal.invariant-loop-p
invariant-loop-p l = Placing l.map.bytes.now l.initial.ends l.n l.p l.even l.ends
