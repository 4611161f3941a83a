-- Adding up the factors of the areas in a list, and what is answered from the sum.
--
-- priced f r == 19, or the factor that an area is given: its own, held, or the mean of the sum r across its sides
-- Summable l c kinds values == the first c entries of l are areas that the tariff's lists have
-- Assumes nothing.
use Rattle.std.specs.Prelude.{List, ℕ, ◌<◌, ◌≤◌, Float, length, get_or}
use Rattle.count.specs.Below.{pick}
use Rattle.answers.specs.Answer.{Answer, answer, refused}
use Rattle.tariff.specs.declared.factor.Factor.{Factor}
use Rattle.tariff.specs.declared.factor.Running.{Running}
use Rattle.tariff.specs.Tariff.{has_factor, worth}
use Rattle.pricing.specs.Lists.{InLists}

pub record Summable (l : List ℕ) (c : ℕ) (kinds : List ℕ) (values : List Float) : Type 0 where
  pub long : c ≤ length l
  pub few : c ≤ 4096
  pub each : (i : ℕ) → i < c → InLists kinds values (get_or l i 0)

unfoldable pub priced : Factor → Running → Answer Float
unfolding has_factor worth
priced f r = pick (has_factor f r) (answer (worth f r)) (refused 19)
