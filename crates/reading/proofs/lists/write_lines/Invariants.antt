-- `reading::lists::write_lines` meets its contract. The loop keeps `Writing`: the lists hold the lines passed. Assumes nothing.
use Prim.Native.Nat.{◌-◌}
use Rattle.reading.proofs.Passes.{Writing}
use Rattle.reading.proofs.lists.write_lines.Given as goal

abbrev pub invariant-loop-row : goal.invariant-loop-row
invariant-loop-row l = Writing l.text l.initial.turning l.initial.marks l.rest l.e l.turning l.marks

abbrev pub decreases-loop-row : goal.decreases-loop-row
decreases-loop-row l = 2048 - l.e
