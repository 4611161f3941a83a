-- The tests of checks 1, 3, 4 and 6 decide their propositions.
--
-- lengths_decides, entries_decides, range_decides, distinct_decides, few_decides == as the names of the checks say
-- Assumes nothing.
use mathlib.Core.Path.{◌≡◌}
use mathlib.Core.Bool.{not}
use Prim.Native.Nat.{ℕ, ◌*◌, ◌<◌, ◌≤◌, max}
use lib.ListN.{length, get_or}
use lib.Dec.{eqb, ltb, leb}
use Rattle.count.specs.Below.{Decides, all}
use Rattle.count.proofs.Decides.{decides_eq, decides_le, decides_lt, decides_not, decides_both, decides_all, decides_as}
use Rattle.answers.specs.Answer.{Kind}
use Rattle.drawing.specs.Drawing.{most_ends, Drawing, borders, ends, turn, cells}
use Rattle.drawing.specs.Checks.{LengthsFit, lengths_fit, EntriesFit, entries_fit, InRange, in_range, Distinct, distinct, FewMarks, few_marks, mark_count}

pub lengths_decides : (D : Drawing) → Decides (lengths_fit D) (LengthsFit D)
unfolding lengths_fit
lengths_decides D =
    decides_as (λ t. record { half = t.0; most = t.1 }) (λ r. (r.half, r.most))
    (decides_both (decides_eq (length D.turning) (2 * length D.marks)) (decides_le (length D.turning) most_ends))

pub entries_decides : (D : Drawing) → Decides (entries_fit D) (EntriesFit D)
unfolding entries_fit
entries_decides D =
    decides_all (λ h. ltb (turn D h) (ends D)) (λ h. turn D h < ends D) (ends D) (λ h b. decides_lt (turn D h) (ends D))

pub range_decides : (D : Drawing) → Decides (in_range D) (InRange D)
unfolding in_range
range_decides D =
    decides_as (λ t. record { entries = t.0.0; start = t.0.1; marks = t.1 }) (λ r. ((r.entries, r.start), r.marks))
    (decides_both
    (decides_both
    (entries_decides D)
    (decides_lt D.start (max (ends D) 1)))
    (decides_all (λ e. leb (get_or D.marks e 0) 1) (λ e. get_or D.marks e 0 ≤ 1) (borders D) (λ e b. decides_le (get_or D.marks e 0) 1)))

pub distinct_decides : (D : Drawing) → Decides (distinct D) (Distinct D)
unfolding distinct
distinct_decides D =
    decides_as (λ f. record { differ = λ i j l b. f j b i l }) (λ r j b i l. r.differ i j l b)
    (decides_all
    (λ j. all (λ i. not (eqb (turn D i) (turn D j))) j)
    (λ j. (i : ℕ) → i < j → turn D i ≡ turn D j → ⊥)
    (ends D)
    (λ j b. decides_all
    (λ i. not (eqb (turn D i) (turn D j)))
    (λ i. turn D i ≡ turn D j → ⊥)
    j
    (λ i l. decides_not (decides_eq (turn D i) (turn D j)))))

pub few_decides : (D : Drawing) → Decides (few_marks D) (FewMarks D)
unfolding few_marks
few_decides D =
    decides_as (λ l. record { fewer = l }) (λ r. r.fewer) (decides_lt (mark_count D) (cells D Kind.point))
