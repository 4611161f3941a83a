-- Small lists of checks and small pieces of memory, by computation.
-- Assumes nothing.
use mathlib.Core.Path.{◌≡◌, refl}
use mathlib.Core.Bool.{Bool, true, false}
use mathlib.Core.List.{[], ◌∷◌}
use Prim.Native.Nat.{ℕ}
use Rattle.answers.specs.Answer.{answer, refused_with, refused, number_of, told, Kind, no_such}
use Rattle.answers.specs.Checks.{Check, check, refusal_in, after}
use Rattle.answers.specs.Lent.{laid, leaves, itself, cleared}
use Rattle.answers.specs.Means.{packing_said}
use Rattle.answers.specs.declared.refusal.Refusal.{Refusal}
use Rattle.std.specs.Prelude.{Err}

abbrev tested : ℕ → Bool → Check
tested k t = check k t Unit

pub record Cases : Type 0 where
  -- the first that fails, whatever its number
  pub first : refusal_in (tested 8 true ∷ tested 20 false ∷ tested 9 false ∷ []) ≡ 20
  pub none : refusal_in (tested 8 true ∷ tested 20 true ∷ []) ≡ 0
  -- a number that stands twice
  pub twice : after {A = ℕ} (tested 8 true ∷ tested 9 true ∷ tested 8 false ∷ []) 5 ≡ refused 8
  pub answers : after {A = ℕ} (tested 8 true ∷ tested 9 true ∷ []) 5 ≡ answer 5
  pub carries : after {A = ℕ} (tested 6 true ∷ record { number = 7; carries = 1 ∷ 4 ∷ []; test = false; holds = Unit } ∷ []) 5 ≡ refused_with 7 (1 ∷ 4 ∷ [])
  pub tells : told (λ (x : ℕ). x ∷ []) (answer 5) ≡ answer (5 ∷ [])
  -- an answer stands at the front, and nothing beyond it changes; a refusal changes nothing
  pub put : leaves laid (answer (1 ∷ [])) (7 ∷ 8 ∷ []) ≡ 1 ∷ 8 ∷ []
  pub unchanged : leaves laid (refused 2) (7 ∷ 8 ∷ []) ≡ 7 ∷ 8 ∷ []
  pub itself_put : leaves {A = ℕ} {B = ℕ} itself (answer 5) 7 ≡ 5
  pub two_cleared : cleared 2 (7 ∷ 8 ∷ 9 ∷ []) ≡ 0 ∷ 0 ∷ 9 ∷ []
  pub no_point : no_such Kind.point ≡ 14
  pub no_area : no_such Kind.area ≡ 15
  -- where there is no map, a rehearsal says packing's refusal
  pub no_map : packing_said (Err Refusal.Room) ≡ refused 2
  pub no_map_crossing : packing_said (Err (Refusal.Crossing 1 4)) ≡ refused_with 7 (1 ∷ 4 ∷ [])

pub cases : Cases
unfolding number_of leaves cleared
cases =
    record {
      first = refl;
      none = refl;
      twice = refl;
      answers = refl;
      carries = refl;
      tells = refl;
      put = refl;
      unchanged = refl;
      itself_put = refl;
      two_cleared = refl;
      no_point = refl;
      no_area = refl;
      no_map = refl;
      no_map_crossing = refl;
    }
