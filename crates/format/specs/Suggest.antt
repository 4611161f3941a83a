-- Marks found for the drawer (document 02, 7/14): when the call declines, and what it leaves in the memory lent.
--
-- marks_checks D w  == its checks in the order in which they run, with w entries of working list lent
-- marks_refusal D w == the number of the first of them that applies; 0 where none does
-- Suggests D work work' ms k == k is answered for the drawing D, whose marks are the list lent; that list becomes ms, the working list
--                     work becomes work'
-- Assumes nothing.
use Rattle.std.specs.Prelude.{◌≡◌, ◌≢◌, List, [], ◌∷◌, ℕ, ◌*◌, ◌≤◌, leb, length}
use Rattle.answers.specs.Checks.{Check, check, refusal_in}
use Rattle.drawing.specs.Drawing.{Drawing, borders}
use Rattle.drawing.specs.Checks.{LengthsFit, lengths_fit, EntriesFit, entries_fit, Distinct, distinct, Connected, connected}
use Rattle.drawing.specs.Tree.{SuggestedTree}
use Rattle.format.specs.Pack.{work_left}

-- 02, 7/14: "The call succeeds for every connected drawing that passes 1 to 4 (start, mark values and map output don't concern it)";
-- "21 when some two points have no path of borders, straight after 4". So 2 is about the working list alone, 3 about the entries.
abbrev pub marks_checks : Drawing → ℕ → List Check
marks_checks D work =
    check 1 (lengths_fit D) (LengthsFit D)
    ∷ check 2 (leb (6 * borders D) work) (6 * borders D ≤ work)
    ∷ check 3 (entries_fit D) (EntriesFit D)
    ∷ check 4 (distinct D) (Distinct D)
    ∷ check 21 (connected D) (Connected D)
    ∷ []

unfoldable pub marks_refusal : Drawing → ℕ → ℕ
unfolding lengths_fit borders entries_fit distinct connected
marks_refusal D work = refusal_in (marks_checks D work)

-- 02, 7/14: "The marks lent are overwritten and not read."; "marks are then unchanged"; it "leaves its working list as packing does".
-- Which tree comes out is left open: `suggested` has what holds of it.
pub record Suggests (D : Drawing) (work work' ms : List ℕ) (k : ℕ) : Type 0 where
  pub number : k ≡ marks_refusal D (length work)
  pub suggested : k ≡ 0 → SuggestedTree D ms
  pub unchanged : k ≢ 0 → ms ≡ D.marks
  pub working : work' ≡ work_left k (borders D) work
