-- What opening's functions say: of opening's checks, and of a call's own number after them (document 01, the table; document 02,
-- 6/14). A call's checks alone give no answer: nothing, or the refusal of the first that fails.
--
-- header_checks s     == those of opening's checks that are about the header and the length: 8, 20 and 9
-- string_checks s     == the others: 10, 11 and 12
-- header_check s      == the first of them
-- open_check s        == opening's checks
-- place_check s i     == opening's checks, then 13
-- cell_check s c k    == opening's checks, then 14 (points) or 15 (areas)
-- Assumes nothing.
use Rattle.std.specs.Prelude.{List, ℕ, take, drop}
use Rattle.answers.specs.Answer.{Answer, Kind}
use Rattle.answers.specs.Checks.{Check, alone}
use Rattle.format.specs.Open.{open_checks}
use Rattle.format.specs.Calls.{place_checks, cell_checks}

abbrev pub header_checks : List ℕ → List Check
header_checks s = take 3 (open_checks s)

abbrev pub string_checks : List ℕ → List Check
string_checks s = drop 3 (open_checks s)

unfoldable pub header_check : List ℕ → Answer (Unit {0})
header_check s = alone (header_checks s)

unfoldable pub open_check : List ℕ → Answer (Unit {0})
open_check s = alone (open_checks s)

unfoldable pub place_check : List ℕ → ℕ → Answer (Unit {0})
place_check s i = alone (place_checks s i)

unfoldable pub cell_check : List ℕ → Kind → ℕ → Answer (Unit {0})
cell_check s c k = alone (cell_checks s c k)
