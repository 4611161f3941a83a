-- `listing::lines::put_surveyed` meets its contract. The loop keeps `Lined`: the lines of the first p places are put, and `ones` is the
-- running count of `running_rank`. Assumes nothing.
use Rattle.listing.proofs.Listed.{Lined}
use Rattle.listing.proofs.lines.put_surveyed.Given as goal

abbrev pub invariant-loop-p : goal.invariant-loop-p
invariant-loop-p l = Lined l.survey.map.now l.initial.page l.p-end l.p l.ones l.page
