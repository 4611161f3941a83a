-- `reading::lists::count_lines` meets its contract. The loop keeps `Counting`: the rest of the lines decides the count. Assumes nothing.
use Prim.Native.Nat.{◌-◌}
use Rattle.reading.proofs.Passes.{Counting}
use Rattle.reading.proofs.lists.count_lines.Given as goal

abbrev pub invariant-loop-rest : goal.invariant-loop-rest
invariant-loop-rest l = Counting l.text l.rest l.e

abbrev pub decreases-loop-rest : goal.decreases-loop-rest
decreases-loop-rest l = 2049 - l.e
