-- What is read from the stack: a border on it, and the one above.
--
-- opened_is             == a border that stands on the stack
-- Climbing places k e w i    == border e stands on the stack of k, no lower than place i
-- above_..              == the way up to a border on the stack
-- Assumes nothing.
use mathlib.Core.Path.{◌≡◌, sym, ap, ◌∙◌}
use mathlib.Core.Logic.{inl, inr}
use mathlib.Core.List.{List}
use Prim.Native.Nat.{ℕ, ◌+◌, ◌-◌, ◌*◌, ◌<◌, ◌≤◌}
use native.Mathlib.Omega.{arith}
use borrow.Author.Rules.{rules}
use lib.ListN.{length, get_or}
use mir.Syntax.{w64}
use mir.Val.{Fits}
use Rattle.count.proofs.Logic.{same_or_not}
use Rattle.touring.specs.Working.{border_in}
use Rattle.crossing.specs.Finding.{Stands, Above, place_in}

-- ---- opened
pub opened_is : (w : List ℕ) (i x r : ℕ) → x ≡ get_or w i 0 → r ≡ border_in w x → r ≡ border_in w (get_or w i 0)
opened_is w i x r e h = h ∙ ap (border_in w) e

pub opened_place : (w : List ℕ) (i x : ℕ) → x ≡ get_or w i 0 → get_or w i 0 < length w → x < length w
opened_place w i x e l = omega arith

pub ruleset opened_all = (opened_is, opened_place, rules)

-- ---- above
pub record Climbing (places k e : ℕ) (w : List ℕ) (i : ℕ) : Type 0 where
  pub stands : Stands places k e w
  pub up_to : i ≤ stands.j

pub above_start : (places k e : ℕ) (w : List ℕ) → Stands places k e w → Climbing places k e w 0
above_start places k e w S = record { stands = S; up_to = omega arith }

module _ (places k e : ℕ) (w : List ℕ) (i : ℕ) (L : Climbing places k e w i) where
  pub above_below : i + 1 < k
  above_below = omega (arith, L.up_to, L.stands.not_top)

  pub above_room : 2 * places + i < length w
  above_room = omega (arith, above_below, L.stands.room)

  pub above_place : get_or w (2 * places + i) 0 < length w
  above_place = L.stands.inside i (omega (arith, above_below))

  pub above_room_next : 2 * places + (i + 1) < length w
  above_room_next = omega (arith, above_below, L.stands.room)

  pub above_place_next : get_or w (2 * places + (i + 1)) 0 < length w
  above_place_next = L.stands.inside (i + 1) above_below

  pub above_fits : Fits w64 k → Fits w64 (i + 1)
  above_fits F = record { fits = omega (arith, above_below, F.fits) }

  pub above_less : k - (i + 1) < k - i
  above_less = omega (arith, above_below)

  module _ (r : ℕ) (q : r ≡ border_in w (get_or w (2 * places + i) 0)) where
    pub above_more : (r ≡ e → ⊥) → Climbing places k e w (i + 1)
    above_more d =
        record {
          stands = L.stands;
          up_to =
              elim (same_or_not i L.stands.j) [
                | inl s ↦ absurd (d (q ∙ ap (λ x. border_in w (place_in places w x)) s ∙ L.stands.is_there))
                | inr f ↦ omega (arith, L.up_to)
              ];
        }

    pub above_there : r ≡ e → (x : ℕ) → x ≡ border_in w (get_or w (2 * places + (i + 1)) 0) → Above places k e w x
    above_there h x p = record { j = i; not_top = above_below; is_there = sym q ∙ h; next = p }

pub ruleset above_all = (
  above_start,
  above_room,
  above_place,
  above_room_next,
  above_place_next,
  above_fits,
  above_less,
  above_more,
  above_there,
  rules,
)
