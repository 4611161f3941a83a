-- `unpacking::lists::write_drawing` meets its contract. The loop keeps `Writing`: what belongs to the positions passed is written, the rest is as before. Assumes nothing.
use Rattle.unpacking.proofs.Written.{Writing}
use Rattle.unpacking.proofs.lists.write_drawing.Given as goal

abbrev pub invariant-loop-p : goal.invariant-loop-p
invariant-loop-p l = Writing l.map.bytes.now l.initial.turning l.initial.marks l.n l.p l.turning l.marks
