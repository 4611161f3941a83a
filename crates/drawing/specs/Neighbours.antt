-- What lies across the sides of an area (document 02, 3/14 and 4/14), for any account of a map that has numbers of areas and
-- crossings: the book has its own, of ends, and so has the bracket word, of positions. In the field's words: adjacent faces, the
-- degree of a face in the dual graph without its loops and repeated edges, and the faces met along a face's boundary walk.
--
-- Here `area p` is the number of the area that the side p, one of n, is of, `cross p` is the side that crossing it leads to, and
-- `along p` the next side of the area's walk.
--
-- Across area cross n k j   == area j is across some side of area k; is_across is its test
-- neighbours area cross n v k == how many of the areas 1 to v other than k are
-- landings area cross along d p == the areas across d sides in walk order, from side p on
-- Assumes nothing.
use Rattle.std.specs.Prelude.{◌≡◌, Bool, not, ◌&&◌, List, [], ◌∷◌, ℕ, zero, suc, ◌<◌, eqb}
use Rattle.count.specs.Below.{count, any}

-- 02, 3/14: "The area across a side is the area of its crossing."
pub record Across (area cross : ℕ → ℕ) (n k j : ℕ) : Type 0 where
  pub side : ℕ
  pub below : side < n
  pub here : area side ≡ k
  pub there : area (cross side) ≡ j

unfoldable pub is_across : (ℕ → ℕ) → (ℕ → ℕ) → ℕ → ℕ → ℕ → Bool
unfolding any
is_across area cross n k j = any (λ p. eqb (area p) k && eqb (area (cross p)) j) n

-- 02, 3/14: "the number of other areas across at least one side"
unfoldable pub neighbours : (ℕ → ℕ) → (ℕ → ℕ) → ℕ → ℕ → ℕ → ℕ
unfolding count is_across
neighbours area cross n v k = count (λ i. not (eqb (suc i) k) && is_across area cross n k (suc i)) v

-- 02, 4/14: "one for each side, in walk order": where the crossings of d sides land
unfoldable pub landings : (ℕ → ℕ) → (ℕ → ℕ) → (ℕ → ℕ) → ℕ → ℕ → List ℕ
landings area cross along zero p = []
landings area cross along (suc d) p = area (cross p) ∷ landings area cross along d (along p)
