-- `matching::forwards::ahead_by` meets its contract. The loop keeps `Going`, a byte at a time. Assumes nothing.
use Prim.Native.Nat.{◌*◌, ◌≤◌, max}
use mathlib.Core.Path.{◌≡◌}
use Rattle.matching.proofs.Loops.{Going}
use Rattle.matching.proofs.forwards.ahead_by.Given as goal

abbrev pub invariant-loop-at : goal.invariant-loop-at
invariant-loop-at l = (l.stop ≡ max l.m l.k) × (l.at ≤ max l.m l.k) × Going l.s l.n (8 * l.k) l.d (8 * l.at) l.depth
