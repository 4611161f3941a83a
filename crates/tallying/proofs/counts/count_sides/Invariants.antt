-- `tallying::counts::count_sides` meets its contract. The loop keeps `Tallying`: the sides from position p on are noted. Assumes nothing.
use Rattle.tallying.proofs.Counting.{Tallying}
use Rattle.tallying.proofs.counts.count_sides.Given as goal

abbrev pub invariant-loop-p : goal.invariant-loop-p
invariant-loop-p l = Tallying l.survey.map.now l.initial.sides l.initial.firsts l.p l.sides l.firsts
