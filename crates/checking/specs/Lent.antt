-- A drawing lent as slices.
--
-- drawn d          == the drawing that is lent as d
-- next ts h        == entry h of the turning list
-- Ranged ts        == every entry is below the list's length
-- Binary ms        == every mark is 0 or 1
-- Differ ts        == no two entries are equal
-- Turns ts         == the turning list is a permutation of its ends
-- Assumes nothing.
use Rattle.std.specs.Prelude.{◌≢◌, List, ℕ, ◌<◌, ◌≤◌, length, get_or}
use Rattle.drawing.specs.Drawing.{Drawing, lent}
use Rattle.orbits.specs.Cycles.{Permutes}
use Rattle.checking.specs.declared.lists.Lent.{Lent}

abbrev pub drawn : Lent → Drawing
drawn d = lent d.turning.now d.marks.now d.start

abbrev pub next : List ℕ → ℕ → ℕ
next ts h = get_or ts h 0

pub record Ranged (ts : List ℕ) : Type 0 where
  pub below : (h : ℕ) → h < length ts → next ts h < length ts

pub record Binary (ms : List ℕ) : Type 0 where
  pub small : (e : ℕ) → e < length ms → get_or ms e 0 ≤ 1

pub record Differ (ts : List ℕ) : Type 0 where
  pub differ : (i j : ℕ) → i < j → j < length ts → next ts i ≢ next ts j

abbrev pub Turns : List ℕ → Type 0
Turns ts = Permutes (length ts) (next ts)
