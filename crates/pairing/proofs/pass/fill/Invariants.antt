-- `pairing::pass::fill` meets its contract. The loop keeps `Filling`. Assumes nothing.
use Rattle.pairing.proofs.Filling.{Filling}
use Rattle.pairing.proofs.pass.fill.Given as goal

abbrev pub invariant-loop-p : goal.invariant-loop-p
invariant-loop-p l = Filling l.a l.n l.strings l.initial.unread l.initial.mates l.initial.squares l.initial.rounds l.stacks l.unread l.mates l.squares l.rounds l.p
