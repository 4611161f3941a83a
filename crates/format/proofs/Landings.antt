-- Where the crossings of an area's sides land, in walk order: what one pass over all places gathers from those of the area.
--
-- landings_table  == landings are a table over the steps of the walk
-- landings_gather == in a word: the numbers across the positions with number k, in rising order
-- Assumes nothing.
use mathlib.Core.Path.{◌≡◌, refl, ap, ◌∙◌}
use mathlib.Core.Bool.{Bool}
use mathlib.Core.List.{◌∷◌}
use Prim.Native.Nat.{ℕ, zero, suc}
use lib.Dec.{eqb}
use Rattle.count.specs.Below.{table, table_from, gather}
use Rattle.orbits.specs.Cycles.{iter}
use Rattle.words.specs.Brackets.{Balanced, number, step, first, size}
use Rattle.words.specs.declared.family.Family.TheVariants.{Square as square}
use Rattle.words.specs.Word.{Word, seen, mate_in}
use Rattle.words.proofs.Order.{about_cell}
use Rattle.drawing.specs.Neighbours.{landings}
use Rattle.format.specs.Calls.{places_in, landings_in}

module _ (area cross along : ℕ → ℕ) (p : ℕ) where
  from_step : (d a : ℕ) → landings area cross along d (iter along a p) ≡ table_from (λ i. area (cross (iter along i p))) a d
  unfolding landings table_from iter
  from_step zero a = refl
  from_step (suc d) a = ap (λ js. area (cross (iter along a p)) ∷ js) (from_step d (suc a))

  pub landings_table : (d : ℕ) → landings area cross along d p ≡ table (λ i. area (cross (iter along i p))) d
  unfolding table iter
  landings_table d = from_step d 0

module _ (w : Word) (k : ℕ) (bal : Balanced (seen square w) w.size) where
  abbrev on : ℕ → Bool
  on p = eqb (number (seen square w) p) k

  abbrev across : ℕ → ℕ
  across p = number (seen square w) (mate_in w p)

  pub landings_gather : landings_in w k ≡ gather on across w.size
  unfolding landings_in places_in
  landings_gather =
      let b = seen square w in
      let n : ℕ = w.size in
      landings_table (number b) (mate_in w) (step b n) (first b n k) (size b n k) ∙ about_cell b n bal k across
