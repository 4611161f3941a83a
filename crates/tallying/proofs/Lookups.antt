-- The entries of a tally's lists, looked up and stored by the number of an area.
--
-- entry_found == what stands at an area's index is its entry
-- sides_told, first_told == by a tally, the entries of an area of the map are its sides and its first place
-- side_fits, side_counted, first_noted == one side more fits, and what storing at an area's index makes of the lists
-- Assumes nothing.
use mathlib.Core.Path.{◌≡◌, ap, ◌∙◌}
use mathlib.Core.List.{List}
use Prim.Native.Nat.{ℕ, suc, ◌+◌, ◌-◌, ◌≤◌, ◌<◌}
use native.Mathlib.Omega.{arith}
use lib.ListN.{get_or, set}
use Rattle.answers.specs.Answer.{Kind}
use Rattle.format.specs.Bytes.{size_in, word_in}
use Rattle.format.specs.Calls.{cells_in, first_in, places_in}
use Rattle.tallying.specs.Tallied.{Tallied, entry_at}

pub entry_found : (l : List ℕ) (a i r : ℕ) → i ≡ a - 1 → r ≡ get_or l i 0 → r ≡ entry_at l a
entry_found l a i r e w = w ∙ ap (λ j. get_or l j 0) e

-- ---- by a tally
module _ (s sides firsts : List ℕ) (T : Tallied s sides firsts) (k : ℕ) (l : 1 ≤ k) (h : k ≤ cells_in (size_in s) Kind.area) where
  number : suc (k - 1) ≡ k
  number = omega arith

  pub sides_told : entry_at sides k ≡ places_in (word_in s) Kind.area k
  sides_told = T.sides_at (k - 1) (omega arith) ∙ ap (places_in (word_in s) Kind.area) number

  pub first_told : entry_at firsts k ≡ first_in (word_in s) Kind.area k
  first_told = T.first_at (k - 1) (omega arith) ∙ ap (first_in (word_in s) Kind.area) number

-- ---- a side noted
module _ (a i : ℕ) (h : i ≡ a - 1) where
  pub side_fits : (ss : List ℕ) → entry_at ss a < 65535 → get_or ss i 0 + 1 < 65536
  side_fits ss l = omega (arith, ap (λ j. get_or ss j 0) h)

  pub side_counted : (ss : List ℕ) → set ss i (get_or ss i 0 + 1) ≡ set ss (a - 1) (entry_at ss a + 1)
  side_counted ss = rw h

  pub first_noted : (fs : List ℕ) (place : ℕ) → set fs i place ≡ set fs (a - 1) place
  first_noted fs place = rw h
