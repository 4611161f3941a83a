-- Finding marks after checks 1 to 3.
--
-- later_checks D         == the checks after 3
-- later_refusal D        == the first of 4 and 21 that applies; 0 where none does
-- SuggestsLater D ms k  == k is answered then, and the marks become ms
-- Assumes nothing.
use Rattle.std.specs.Prelude.{◌≡◌, ◌≢◌, List, ℕ, drop}
use Rattle.answers.specs.Checks.{Check, refusal_in}
use Rattle.drawing.specs.Drawing.{Drawing}
use Rattle.drawing.specs.Tree.{SuggestedTree}
use Rattle.format.specs.Suggest.{marks_checks}

-- whatever the working list: its length is asked by 2 alone
abbrev pub later_checks : Drawing → List Check
later_checks D = drop 3 (marks_checks D 0)

unfoldable pub later_refusal : Drawing → ℕ
later_refusal D = refusal_in (later_checks D)

pub record SuggestsLater (D : Drawing) (ms : List ℕ) (k : ℕ) : Type 0 where
  pub number : k ≡ later_refusal D
  pub suggested : k ≡ 0 → SuggestedTree D ms
  pub unchanged : k ≢ 0 → ms ≡ D.marks
