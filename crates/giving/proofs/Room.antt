-- What is given fits its slot, where its number does.
--
-- place_slot, point_slot, area_slot, number_slot == of a place, a point, an area, a number
-- whole_slot      == a slot of the number's own type has room for it
-- Assumes nothing.
use Prim.Native.Nat.{ℕ, ◌<◌}
use Rattle.std.specs.Prelude.{Result, Ok, Err, IfOk}
use Rattle.answers.specs.Answer.{value_of}
use Rattle.answers.specs.Means.{means, place_means, point_means, area_means, count_means}
use Rattle.answers.specs.declared.numbers.Place.{Place}
use Rattle.answers.specs.declared.numbers.Point.{Point}
use Rattle.answers.specs.declared.numbers.Area.{Area}
use Rattle.answers.specs.declared.refusal.Refusal.{Refusal}

fits : {T : Type 0} (f : T → ℕ) (r : Result T Refusal) → value_of (means f r) < 65536 → IfOk r (λ x. f x < 65536)
unfolding value_of
fits f (Ok x) h = h
fits f (Err e) h = tt

pub place_slot : (r : Result Place Refusal) → value_of (place_means r) < 65536 → IfOk r (λ (p : Place). p.0 < 65536)
place_slot r h = fits (λ (p : Place). p.0) r h

pub point_slot : (r : Result Point Refusal) → value_of (point_means r) < 65536 → IfOk r (λ (p : Point). p.0 < 65536)
point_slot r h = fits (λ (p : Point). p.0) r h

pub area_slot : (r : Result Area Refusal) → value_of (area_means r) < 65536 → IfOk r (λ (a : Area). a.0 < 65536)
area_slot r h = fits (λ (a : Area). a.0) r h

pub number_slot : (r : Result ℕ Refusal) → value_of (count_means r) < 65536 → IfOk r (λ (x : ℕ). x < 65536)
number_slot r h = fits (λ (x : ℕ). x) r h

pub whole_slot : {T : Type 0} (r : Result T Refusal) → IfOk r (λ (x : T). Unit {0})
whole_slot (Ok x) = tt
whole_slot (Err e) = tt
