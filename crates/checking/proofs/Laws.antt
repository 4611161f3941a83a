-- What a caller meets the requirements with, and reads the answers with.
--
-- lengths_passed  == check 1 passed: the lengths fit
-- work_fits, work_blank == the length asked of the working list fits its type, and so many entries made 0 are enough
-- ranged_from     == the entries fit: every entry is in range
-- turns_of        == entries in range that differ: the turning list is a permutation
-- turns_from, turns_permute == the same, from the drawing and of its own turn, for any start
-- entries_is, distinct_is == the answers of check 3, of the entries alone, and of check 4, by the drawing
-- blank_still     == a working list that is as it was is as blank
-- Assumes nothing.
use mathlib.Core.Path.{◌≡◌}
use mathlib.Core.Bool.{Bool, false, not}
use mathlib.Core.List.{List}
use Prim.Native.Nat.{ℕ, ◌*◌, ◌≤◌}
use native.Mathlib.Omega.{arith}
use lib.ListN.{length}
use mir.Syntax.{w64}
use mir.Val.{Fits}
use Rattle.count.specs.Below.{Decides}
use Rattle.count.proofs.Decides.{decides_as}
use Rattle.answers.specs.Lent.{cleared}
use Rattle.orbits.specs.Cycles.{Permutes}
use Rattle.orbits.proofs.Iter.{permutes_differ}
use Rattle.drawing.specs.Drawing.{borders, ends, turn, lent}
use Rattle.drawing.specs.Checks.{LengthsFit, lengths_fit, EntriesFit, entries_fit, Distinct, distinct}
use Rattle.drawing.proofs.Checks.{lengths_decides, entries_decides, distinct_decides}
use Rattle.drawing.proofs.Ends.{entries_permute}
use Rattle.lending.specs.Lists.{Blank}
use Rattle.lending.proofs.Kept.{blank_cleared}
use Rattle.checking.specs.Lent.{next, Ranged, Differ, Turns}
use Rattle.checking.proofs.Decided.{passes, decides_same}

module _ (ts ms : List ℕ) (r : Bool) (p : (s : ℕ) → r ≡ lengths_fit (lent ts ms s)) (h : not r ≡ false) where
  pub lengths_passed : (s : ℕ) → LengthsFit (lent ts ms s)
  lengths_passed s = (lengths_decides (lent ts ms s)).sound (passes r (lengths_fit (lent ts ms s)) (p s) h)

  pub work_fits : Fits w64 (6 * length ms)
  work_fits = record { fits = omega (arith, (lengths_passed 0).half, (lengths_passed 0).most) }

  pub work_blank : (work u : List ℕ) → 6 * length ms ≤ length work → u ≡ cleared (6 * length ms) work → Blank (3 * length ts) u
  work_blank work u l e =
      let f : 6 * length ms ≡ 3 * length ts = omega (arith, (lengths_passed 0).half) in
      rw f at (blank_cleared (6 * length ms) work u l e)

pub turns_of : (ts : List ℕ) → Ranged ts → Differ ts → Turns ts
turns_of ts R D = permutes_differ (length ts) (next ts) R.below D.differ

module _ (ts ms : List ℕ) (s : ℕ) where
  pub turns_permute : Turns ts → length ts ≡ 2 * length ms → Permutes (ends (lent ts ms s)) (turn (lent ts ms s))
  unfolding ends borders turn
  turns_permute P h = rw h at P

  module _ (h : length ts ≡ 2 * length ms) where
    pub ranged_from : EntriesFit (lent ts ms s) → Ranged ts
    unfolding ends borders turn
    ranged_from f = record { below = λ i b. rw h (f i (rw h at b)) }

    pub turns_from : EntriesFit (lent ts ms s) → Distinct (lent ts ms s) → Turns ts
    unfolding ends borders turn
    turns_from f E = rw h (entries_permute (lent ts ms s) f E)

    pub entries_is : (r : Bool) → Decides r (Ranged ts) → r ≡ entries_fit (lent ts ms s)
    unfolding ends borders turn
    entries_is r d =
        decides_same
        (decides_as
        (λ R i b. rw h at (R.below i (rw h b)))
        (λ f. ranged_from f)
        d)
        (entries_decides (lent ts ms s))

    pub distinct_is : (r : Bool) → Decides r (Differ ts) → r ≡ distinct (lent ts ms s)
    unfolding ends borders turn
    distinct_is r d =
        decides_same
        (decides_as
        (λ D. record { differ = λ i j l b. D.differ i j l (rw h b) })
        (λ D. record { differ = λ i j l b. D.differ i j l (rw h at b) })
        d)
        (distinct_decides (lent ts ms s))

pub blank_still : (k : ℕ) (old new : List ℕ) → Blank k old → new ≡ old → Blank k new
blank_still k old new B e = rw e B
