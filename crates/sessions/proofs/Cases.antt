-- Sessions on document 01's triangle by computation: what is answered, what the lists hold after it, and the order of the checks.
-- Assumes nothing.
use mathlib.Core.Path.{◌≡◌, refl}
use mathlib.Core.Bool.{true}
use mathlib.Core.List.{List, [], ◌∷◌}
use Prim.Native.Nat.{ℕ}
use Rattle.answers.specs.Answer.{answer, refused, unsigned, number_of, value_of}
use Rattle.answers.specs.Lent.{laid, leaves}
use Rattle.drawing.specs.Session.{Call, Outcome}
use Rattle.format.specs.Sessions.{call_of, calls_of, ran_of, statuses_of, values_of}

abbrev triangle_map : List ℕ
triangle_map = 0x03 ∷ 0x00 ∷ 0x03 ∷ 0x00 ∷ 0x02 ∷ 0x00 ∷ 0x1B ∷ 0x0C ∷ 0x02 ∷ []

-- cross, point, along, turn, cross: the turn goes round
abbrev codes : List ℕ
codes = 0 ∷ 4 ∷ 3 ∷ 1 ∷ 0 ∷ []

pub record Cases : Type 0 where
  pub six : calls_of (0 ∷ 1 ∷ 2 ∷ 3 ∷ 4 ∷ 5 ∷ []) ≡ Call.cross ∷ Call.turn ∷ Call.turn_back ∷ Call.along ∷ Call.point ∷ Call.area ∷ []
  pub round : ran_of triangle_map 1 codes 6 5 ≡ answer (record { answers = answer (unsigned 5) ∷ answer (unsigned 2) ∷ answer (unsigned 6) ∷ answer (record { value = 1; sign = true }) ∷ answer (unsigned 5) ∷ []; place = 5 })
  -- one entry more than there are calls stays
  pub round_statuses : leaves (λ (o : Outcome). laid (statuses_of o)) (ran_of triangle_map 1 codes 6 5) (9 ∷ 9 ∷ 9 ∷ 9 ∷ 9 ∷ 9 ∷ []) ≡ 0 ∷ 0 ∷ 0 ∷ 0 ∷ 0 ∷ 9 ∷ []
  pub round_answers : leaves (λ (o : Outcome). laid (values_of o)) (ran_of triangle_map 1 codes 6 5) (9 ∷ 9 ∷ 9 ∷ 9 ∷ 9 ∷ []) ≡ 5 ∷ 2 ∷ 6 ∷ 0x8001 ∷ 5 ∷ []
  -- a first number that is no place is kept
  pub outside : ran_of triangle_map 70000 (0 ∷ []) 1 1 ≡ answer (record { answers = refused 13 ∷ []; place = 70000 })
  pub closed : ran_of (0 ∷ 0 ∷ 0 ∷ 0 ∷ []) 1 (6 ∷ []) 0 0 ≡ refused 8
  pub short : ran_of triangle_map 1 (6 ∷ []) 1 0 ≡ refused 2
  pub no_call : ran_of triangle_map 1 (0 ∷ 6 ∷ []) 2 2 ≡ refused 255

pub cases : Cases
unfolding ran_of call_of number_of value_of leaves
cases =
    record { six = refl; round = refl; round_statuses = refl; round_answers = refl; outside = refl; closed = refl; short = refl; no_call = refl }
