-- The working list: the tour in its first third, which places are second in the next, a stack in the last.
--
-- A third has as many entries as there are places, 2m, which are as many as the ends.
--
-- tour_in w p          == the end that stands at position p
-- border_in w p        == its border
-- met t p             == whether the border at position p of the tour t was met before
-- is_met t places e    == whether the tour t meets border e
-- Tours D w           == the tour of D stands in the first third
-- Ends places w       == the first third has ends only, and there is room for three
-- Clean places w      == the same, and the last third is 0
-- Noted places old new == new is old, with a 1 in the second third for each second place, in the last for each border met, else 0
-- Charted places w    == the tour that stands in w meets each end once, and the second third says which places are second
-- Assumes nothing.
use Rattle.std.specs.Prelude.{◌≡◌, Bool, List, ℕ, ◌+◌, ◌*◌, ◌<◌, ◌≤◌, eqb, length, get_or}
use Rattle.count.specs.Below.{any, pick}
use Rattle.orbits.specs.Cycles.{Permutes}
use Rattle.lending.specs.Lists.{Outside}
use Rattle.drawing.specs.Drawing.{most_ends, Drawing, ends, border, end_at}

abbrev pub tour_in : List ℕ → ℕ → ℕ
tour_in w p = get_or w p 0

abbrev pub border_in : List ℕ → ℕ → ℕ
border_in w p = border (get_or w p 0)

unfoldable pub met : (ℕ → ℕ) → ℕ → Bool
unfolding any border
met t p = any (λ q. eqb (border (t q)) (border (t p))) p

unfoldable pub is_met : (ℕ → ℕ) → ℕ → ℕ → Bool
unfolding any border
is_met t places e = any (λ p. eqb (border (t p)) e) places

pub record Tours (D : Drawing) (w : List ℕ) : Type 0 where
  pub at : (p : ℕ) → p < ends D → tour_in w p ≡ end_at D p

pub record Ends (places : ℕ) (w : List ℕ) : Type 0 where
  pub room : 3 * places ≤ length w
  pub small : places ≤ most_ends
  pub below : (p : ℕ) → p < places → tour_in w p < places

pub record Clean (places : ℕ) (w : List ℕ) : Type 0 where
  pub ends : Ends places w
  pub zero : (e : ℕ) → e < places → get_or w (2 * places + e) 0 ≡ 0

pub record Noted (places : ℕ) (old new : List ℕ) : Type 0 where
  pub second : (p : ℕ) → p < places → get_or new (places + p) 0 ≡ pick (met (tour_in old) p) 1 0
  pub flags : (e : ℕ) → e < places → get_or new (2 * places + e) 0 ≡ pick (is_met (tour_in old) places e) 1 0
  pub outside : Outside places (3 * places) old new

pub record Charted (places : ℕ) (w : List ℕ) : Type 0 where
  pub room : 3 * places ≤ length w
  pub small : places ≤ most_ends
  pub once : Permutes places (tour_in w)
  pub second : (p : ℕ) → p < places → get_or w (places + p) 0 ≡ pick (met (tour_in w) p) 1 0
