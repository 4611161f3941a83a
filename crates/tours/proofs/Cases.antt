-- What is shown of a tour, of two small drawings by computation: one marked border, and two unmarked loops that interlace on one
-- point. Assumes nothing.
use mathlib.Core.Path.{◌≡◌, refl, sym, ◌∙◌}
use mathlib.Core.Bool.{false, true≢false}
use mathlib.Core.List.{[], ◌∷◌}
use Prim.Native.Nat.{ℕ, zero, suc, ◌<◌}
use native.Mathlib.Omega.{arith}
use Rattle.drawing.specs.Drawing.{Drawing, lent, borders, ends, is_marked, cells, end_at, position_of}
use Rattle.tours.specs.Tour.{MeetsAll, Nests, NotFlat}

abbrev one : Drawing
one = lent (0 ∷ 1 ∷ []) (1 ∷ []) 0

abbrev interlaced : Drawing
interlaced = lent (2 ∷ 3 ∷ 1 ∷ 0 ∷ []) (0 ∷ 0 ∷ []) 0

end_below : (p : ℕ) → p < 2 → end_at one p < 2
unfolding end_at
end_below zero l = omega arith
end_below (suc zero) l = omega arith
end_below (suc (suc p)) l = absurd (omega arith)

position_below : (h : ℕ) → h < 2 → position_of one h < 2
unfolding position_of
position_below zero l = omega arith
position_below (suc zero) l = omega arith
position_below (suc (suc h)) l = absurd (omega arith)

end_position : (h : ℕ) → h < 2 → end_at one (position_of one h) ≡ h
unfolding end_at position_of
end_position zero l = refl
end_position (suc zero) l = refl
end_position (suc (suc h)) l = absurd (omega arith)

position_end : (p : ℕ) → p < 2 → position_of one (end_at one p) ≡ p
unfolding end_at position_of
position_end zero l = refl
position_end (suc zero) l = refl
position_end (suc (suc p)) l = absurd (omega arith)

unmarked : (e : ℕ) → is_marked interlaced e ≡ false
unfolding is_marked
unmarked zero = refl
unmarked (suc zero) = refl
unmarked (suc (suc e)) = refl

pub record Cases : Type 0 where
  -- there and back: 0, 1, and 0 again
  pub meets : MeetsAll one
  -- the two loops alternate, and neither is marked
  pub nests : Nests interlaced
  -- one area, one point, two borders
  pub not_flat : NotFlat interlaced

pub cases : Cases
unfolding borders ends cells end_at
cases =
    record {
      meets =
          record {
            end_below = end_below;
            position_below = position_below;
            end_position = end_position;
            position_end = position_end;
            comes_back = refl;
          };
      nests = record { never = λ a b ma mb A. true≢false (sym ma ∙ unmarked a) };
      not_flat = record { few = λ a b C. omega arith };
    }
