-- `searching::about::join_from` meets its contract. The loop keeps `Joining`: the rest of the search answers what the whole search answers. Assumes nothing.
use Rattle.searching.proofs.Joins.{Joining}
use Rattle.searching.proofs.about.join_from.Given as goal

abbrev pub invariant-loop-left : goal.invariant-loop-left
invariant-loop-left l = Joining l.survey.map.now l.to l.f l.most l.p l.left

abbrev pub decreases-loop-left : goal.decreases-loop-left
decreases-loop-left l = l.left
