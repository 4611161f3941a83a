-- The number of points and of areas, by whether there are borders.
--
-- cells_none == without borders there is one point, and one area
-- cells_are  == with borders there are as many as there are cycles
-- points_are == for points those are the turning list's
-- cells_some == there is one in any case
-- Assumes nothing.
use mathlib.Core.Path.{◌≡◌}
use mathlib.Core.Logic.{inl, inr}
use Prim.Native.Nat.{◌<◌}
use native.Mathlib.Omega.{arith}
use lib.Dec.{eqb}
use borrow.Author.Tests.{eq-eqb, ne_eqb}
use Rattle.count.proofs.Logic.{lt_or_ge, pick_yes, pick_no}
use Rattle.answers.specs.Answer.{Kind}
use Rattle.orbits.specs.Cycles.{cycles}
use Rattle.orbits.proofs.Classes.{cycles_pos}
use Rattle.drawing.specs.Drawing.{Drawing, borders, ends, turn, over, walk, around, cells}

pub cells_none : (D : Drawing) (c : Kind) → borders D ≡ 0 → cells D c ≡ 1
unfolding cells
cells_none D c z =
    pick_yes (eqb (borders D) 0) 1 (cycles (ends D) (around D c)) (eq-eqb (borders D) 0 z)

pub cells_are : (D : Drawing) (c : Kind) → 0 < borders D → cells D c ≡ cycles (ends D) (around D c)
unfolding cells
cells_are D c pos =
    pick_no (eqb (borders D) 0) 1 (cycles (ends D) (around D c)) (ne_eqb (borders D) 0 (omega arith))

-- about a point nothing is crossed
pub points_are : (D : Drawing) → 0 < borders D → cells D Kind.point ≡ cycles (ends D) (turn D)
unfolding around walk over
points_are D pos = cells_are D Kind.point pos

pub cells_some : (D : Drawing) (c : Kind) → 0 < cells D c
unfolding ends
cells_some D c =
    elim (lt_or_ge 0 (borders D)) [
      | inl pos ↦ omega (arith, cells_are D c pos, cycles_pos (ends D) (around D c) (omega arith))
      | inr z ↦ let e : borders D ≡ 0 = omega arith in omega (arith, cells_none D c e)
    ]
