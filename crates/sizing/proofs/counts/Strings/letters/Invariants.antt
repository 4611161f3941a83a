-- `sizing::counts::Strings::letters` meets its contract. The loop keeps `Lettering`. Assumes nothing.
use Rattle.sizing.proofs.Letters.{Lettering}
use Rattle.sizing.proofs.counts.Strings.letters.Given as goal

abbrev pub invariant-loop-q : goal.invariant-loop-q
invariant-loop-q l = Lettering l.self.v l.self.a.now l.self.b.now l.e l.p l.j l.fn.at.depth l.fn.at.found l.x l.y l.depth l.found l._q
