-- `crossing::find::follow` meets its contract. The loop keeps `Nesting`: the open unmarked borders are on the stack. Assumes nothing.
use Rattle.crossing.proofs.Stack.{Nesting}
use Rattle.crossing.proofs.find.follow.Given as goal

abbrev pub invariant-loop-p : goal.invariant-loop-p
invariant-loop-p l = Nesting l.marks l.initial.work l.p l.k l.work
