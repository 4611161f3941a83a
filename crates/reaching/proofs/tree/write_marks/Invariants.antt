-- `reaching::tree::write_marks` meets its contract. The loop keeps `Copied`: the marks passed are written. Assumes nothing.
use Rattle.reaching.proofs.Writing.{Copied}
use Rattle.reaching.proofs.tree.write_marks.Given as goal

abbrev pub invariant-loop-e : goal.invariant-loop-e
invariant-loop-e l = Copied l.work l.from l.e l.initial.marks l.marks
