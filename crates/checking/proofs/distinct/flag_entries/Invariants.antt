-- `checking::distinct::flag_entries` meets its contract. The loop keeps `Seen`: the entries passed are flagged. Assumes nothing.
use Rattle.checking.proofs.Seen.{Seen}
use Rattle.checking.proofs.distinct.flag_entries.Given as goal

abbrev pub invariant-loop-entry : goal.invariant-loop-entry
invariant-loop-entry l = Seen l.turning l.initial.work l.entry-index l.work
