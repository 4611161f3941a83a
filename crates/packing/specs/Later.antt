-- Packing after checks 1 to 3: definitions of the code's own. What packing answers and leaves is in the crate `format`, specs/Packs.
--
-- later_checks D    == the checks after 3
-- later_of D        == packing after checks 1 to 3
-- PacksLater D p old new == p is the answer then, and the output old becomes new
-- Assumes nothing.
use Rattle.std.specs.Prelude.{◌≡◌, List, ℕ, length, drop}
use Rattle.answers.specs.Answer.{Answer, told}
use Rattle.answers.specs.Checks.{Check, after}
use Rattle.answers.specs.Lent.{laid, leaves}
use Rattle.drawing.specs.Drawing.{Drawing}
use Rattle.format.specs.Pack.{packed_bytes, pack_checks}

-- whatever the memory lent: it is asked by 2 alone
abbrev pub later_checks : Drawing → List Check
later_checks D = drop 3 (pack_checks D 0 0)

unfoldable pub later_of : Drawing → Answer (List ℕ)
later_of D = after (later_checks D) (packed_bytes D)

pub record PacksLater (D : Drawing) (p : Answer ℕ) (old new : List ℕ) : Type 0 where
  pub answers : p ≡ told length (later_of D)
  pub output : new ≡ leaves laid (later_of D) old
