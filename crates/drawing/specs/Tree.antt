-- Marks suggested for a drawing (document 02, 7/14, "Marks found for the drawer"): which they are is left open, and this holds of
-- them. It is a free result: docs/PROOFS.md lists it by this name.
--
-- SuggestedTree D ms == the marks ms are those of a spanning tree of the drawing, whatever marks it has itself
-- Assumes nothing.
use Rattle.std.specs.Prelude.{◌≡◌, List, ℕ, suc, ◌<◌, ◌≤◌, length, get_or}
use Rattle.count.specs.Below.{count}
use Rattle.answers.specs.Answer.{Kind}
use Rattle.drawing.specs.Drawing.{Drawing, borders, marked, cells}
use Rattle.drawing.specs.Checks.{Joins}

-- 02, 7/14: "every mark is 0 or 1, n-1 are 1, and those borders join all points". One mark for each border, as 01 has it.
pub record SuggestedTree (D : Drawing) (ms : List ℕ) : Type 0 where
  pub one_each : length ms ≡ borders D
  pub binary : (e : ℕ) → e < borders D → get_or ms e 0 ≤ 1
  pub number : suc (count (marked ms) (borders D)) ≡ cells D Kind.point
  pub join : Joins D (marked ms)
