-- The factor of an area of a map, as a total function of the bytes, the number and the two lists.
--
-- factor_checks s k kinds values == the call's checks in the order in which they run: opening's, 15, 18 and 19
-- factor_in s k kinds values == the factor of area k by the lists, whatever the checks say
-- factor_of s k kinds values == the factor of area k of the map s, after these checks
-- Assumes nothing.
use Rattle.std.specs.Prelude.{List, ◌++◌, ℕ, Float}
use Rattle.answers.specs.Answer.{Answer, Kind}
use Rattle.answers.specs.Checks.{Check, after}
use Rattle.format.specs.Bytes.{size_in, word_in}
use Rattle.format.specs.Open.{open_of}
use Rattle.format.specs.Calls.{cells_in, cell_checks, landings_in}
use Rattle.tariff.specs.Tariff.{factor_at, tariff_fits, sum_across, has_factor, worth, tariff_checks}

-- 02: "both come after opening and 15, 18 first"
abbrev pub factor_checks : List ℕ → ℕ → List ℕ → List Float → List Check
factor_checks s k kinds values =
    cell_checks s Kind.area k ++ tariff_checks (cells_in (size_in s) Kind.area) kinds values k (landings_in (word_in s) k)

unfoldable pub factor_in : List ℕ → ℕ → List ℕ → List Float → Float
unfolding worth factor_at sum_across landings_in word_in
factor_in s k kinds values = worth (factor_at kinds values k) (sum_across kinds values (landings_in (word_in s) k))

unfoldable pub factor_of : List ℕ → ℕ → List ℕ → List Float → Answer Float
unfolding open_of tariff_fits has_factor factor_in
factor_of s k kinds values = after (factor_checks s k kinds values) (factor_in s k kinds values)
