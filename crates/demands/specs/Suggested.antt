-- What holds of marks found for the drawer (document 02, 7/14): one record for each theorem of proofs/Suggested.antt.
--
-- SuggestedPasses D ms s == with the marks ms and the start s the drawing passes 1 to 6, so that packing answers its map or 7
-- ConnectedTree D        == D is connected exactly if some marks join all points with n - 1 borders
-- MarksDecline D work    == when the call declines, with work entries of working list lent
-- Assumes nothing.
use Rattle.std.specs.Prelude.{◌≡◌, ◌⊎◌, ◌↔◌, List, ℕ, ◌*◌, ◌≤◌, length}
use Rattle.answers.specs.Checks.{after, InOrder}
use Rattle.answers.specs.Answer.{answer, refused_with}
use Rattle.drawing.specs.Drawing.{Drawing, borders, lent}
use Rattle.drawing.specs.Checks.{Connected, PassesFour, PassesSix, first_crossing}
use Rattle.drawing.specs.Tree.{SuggestedTree}
use Rattle.format.specs.Pack.{Room, pack_of}
use Rattle.format.specs.Suggest.{marks_checks, marks_refusal}
use Rattle.demands.specs.Statements.{turan_bytes}

-- 02, 7/14: "They reach packing only if they join all points with n-1 borders." Where there is room packing then writes Turán's
-- strings, or names the first crossing.
pub record SuggestedPasses (D : Drawing) (ms : List ℕ) (s : ℕ) : Type 0 where
  pub six : PassesSix (lent D.turning ms s)
  pub packs : (work out : ℕ) → Room (lent D.turning ms s) work out
      → (pack_of (lent D.turning ms s) work out ≡ answer (turan_bytes (lent D.turning ms s)))
      ⊎ (pack_of (lent D.turning ms s) work out ≡ refused_with 7 (first_crossing (lent D.turning ms s)))

pub record ConnectedTree (D : Drawing) : Type 0 where
  pub exactly : Connected D ↔ ((ms : List ℕ) × SuggestedTree D ms)

-- `order`: "21 .. straight after 4", and the first check that fails gives its number. `unread`: "start, mark values and map output don't
-- concern it". `never_the_method`: 21 is given where there is no tree to be found, and nowhere else.
pub record MarksDecline (D : Drawing) (work : ℕ) : Type 0 where
  pub order : InOrder (marks_checks D work) (tt {0}) (after (marks_checks D work) (tt {0}))
  pub unread : (ms : List ℕ) (s : ℕ) → length ms ≡ borders D → marks_refusal (lent D.turning ms s) work ≡ marks_refusal D work
  pub never_the_method : (marks_refusal D work ≡ 21)
      ↔ ((6 * borders D ≤ work) × PassesFour D × ((ms : List ℕ) → SuggestedTree D ms → ⊥))
