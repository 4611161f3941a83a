-- The factor's checks in order: opening's, then 15, 18 and 19.
--
-- own_decided     == the checks after opening's
-- factor_order    == the factor of an area: refusals in order, or its factor
-- Assumes nothing.
use mathlib.Core.List.{List}
use Prim.Native.Nat.{ℕ}
use lib.Ieee.{Float}
use Rattle.answers.specs.Checks.{Check, InOrder, Decided}
use Rattle.answers.proofs.Order.{decided_append, in_order}
use Rattle.answers.specs.Answer.{Kind}
use Rattle.format.specs.Bytes.{size_in, word_in}
use Rattle.format.specs.Calls.{cells_in, cell_checks, landings_in}
use Rattle.format.proofs.Orders.{cell_decided}
use Rattle.tariff.specs.Tariff.{factor_at, sum_across, tariff_checks}
use Rattle.tariff.specs.Maps.{factor_of, factor_checks, factor_in}
use Rattle.tariff.proofs.Lists.{tariff_decides, factor_decides}

module _ (s : List ℕ) (k : ℕ) (kinds : List ℕ) (values : List Float) where
  abbrev own : List Check
  own = tariff_checks (cells_in (size_in s) Kind.area) kinds values k (landings_in (word_in s) k)

  own_decided : Decided own
  unfolding sum_across
  own_decided = (
    tariff_decides (cells_in (size_in s) Kind.area) kinds values,
    λ _. (factor_decides (factor_at kinds values) k (landings_in (word_in s) k), λ _. tt),
  )

  pub factor_order : InOrder (factor_checks s k kinds values) (factor_in s k kinds values) (factor_of s k kinds values)
  unfolding factor_of
  factor_order =
      in_order (factor_checks s k kinds values) (factor_in s k kinds values)
      (decided_append (cell_checks s Kind.area k) own (cell_decided s Kind.area k) (λ _. own_decided))
