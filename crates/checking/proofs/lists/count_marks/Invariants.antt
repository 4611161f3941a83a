-- `checking::lists::count_marks` meets its contract. The loop keeps `Marked`: the count of the marks passed. Assumes nothing.
use Rattle.checking.proofs.Scans.{Marked}
use Rattle.checking.proofs.lists.count_marks.Given as goal

abbrev pub invariant-loop-m : goal.invariant-loop-m
invariant-loop-m l = Marked l.marks l.m-index l.marked
