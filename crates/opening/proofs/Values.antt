-- The number in an answer of a call, where the answer fits 16 bits.
--
-- value_fits == it is below 65,536
-- place_value, point_value, area_value, count_value == of a place, a point, an area, a count
-- Assumes nothing.
use mathlib.Core.Path.{◌≡◌}
use Prim.Native.Nat.{ℕ, ◌<◌}
use Rattle.std.specs.Prelude.{Result, Ok}
use Rattle.answers.specs.Answer.{value_of}
use Rattle.answers.specs.Means.{means, place_means, point_means, area_means, count_means}
use Rattle.answers.specs.declared.numbers.Place.{Place}
use Rattle.answers.specs.declared.numbers.Point.{Point}
use Rattle.answers.specs.declared.numbers.Area.{Area}
use Rattle.answers.specs.declared.refusal.Refusal.{Refusal}

value_fits : {T : Type 0} (f : T → ℕ) (r : Result T Refusal) (x : T) → r ≡ Ok x → value_of (means f r) < 65536 → f x < 65536
unfolding value_of
value_fits f r x e h = rw e at h

pub place_value : (r : Result Place Refusal) (p : Place) → r ≡ Ok p → value_of (place_means r) < 65536 → p.0 < 65536
place_value = value_fits (λ (p : Place). p.0)

pub point_value : (r : Result Point Refusal) (p : Point) → r ≡ Ok p → value_of (point_means r) < 65536 → p.0 < 65536
point_value = value_fits (λ (p : Point). p.0)

pub area_value : (r : Result Area Refusal) (a : Area) → r ≡ Ok a → value_of (area_means r) < 65536 → a.0 < 65536
area_value = value_fits (λ (a : Area). a.0)

pub count_value : (r : Result ℕ Refusal) (x : ℕ) → r ≡ Ok x → value_of (count_means r) < 65536 → x < 65536
count_value = value_fits (λ (x : ℕ). x)
