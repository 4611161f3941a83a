-- `neighbouring::across::count_in` meets its contract. The loop keeps `Counting`: the entries before the index are counted. Assumes
-- nothing.
use Rattle.neighbouring.proofs.Counting.{Counting}
use Rattle.neighbouring.proofs.across.count_in.Given as goal

abbrev pub invariant-loop-k : goal.invariant-loop-k
invariant-loop-k l = Counting l.list l.fn.area.0 l.k-index l.others l.met
