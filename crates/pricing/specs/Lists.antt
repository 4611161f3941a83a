-- The two lists that a caller lends, an entry at a time.
--
-- InLists kinds values k == there is an entry for area k
-- entry_fits kinds values i == what the lists say of one area is allowed; areas count from 0 here
-- Assumes nothing.
use Rattle.std.specs.Prelude.{ℕ, suc, ◌*◌, ◌≤◌, Bool, ◌&&◌, List, length, nat_le, slice_index, Float}
use Rattle.tariff.specs.Tariff.{allowed, factor_at}

pub record InLists (kinds : List ℕ) (values : List Float) (k : ℕ) : Type 0 where
  pub least : 1 ≤ k
  pub kind : k ≤ length kinds
  pub numbers : 3 * k ≤ length values

unfoldable pub entry_fits : List ℕ → List Float → ℕ → Bool
unfolding allowed factor_at
entry_fits kinds values i = nat_le (slice_index kinds i) 2 && allowed (factor_at kinds values (suc i))
