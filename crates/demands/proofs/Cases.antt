-- The definitions of the statements on document 01's triangle and its case (b), by computation. Assumes nothing.
use mathlib.Core.Path.{◌≡◌, refl, ap}
use mathlib.Core.Logic.{inr}
use mathlib.Core.Bool.{true}
use mathlib.Core.List.{List, [], ◌∷◌}
use Prim.Native.Nat.{ℕ}
use native.Mathlib.Omega.{arith}
use Rattle.answers.specs.Answer.{Answer, answer, number_of, Reply}
use Rattle.answers.specs.Lent.{leaves}
use Rattle.words.specs.Word.{seen, mate_in}
use Rattle.drawing.specs.Drawing.{Drawing, lent}
use Rattle.drawing.specs.Session.{Call, Outcome}
use Rattle.drawing.specs.Book.{book_session}
use Rattle.format.specs.Bytes.{word_in, size_in}
use Rattle.format.specs.Calls.{map_session, turn_of, turn_back_of}
use Rattle.format.specs.Pack.{unpack_of}
use Rattle.demands.specs.Statements.{turan_bytes, left_in, Sessions, LastPlace}
use Rattle.demands.specs.Round.{TurnUndone}

abbrev triangle : Drawing
triangle = lent (5 ∷ 2 ∷ 1 ∷ 4 ∷ 3 ∷ 0 ∷ []) (1 ∷ 1 ∷ 0 ∷ []) 0

abbrev stub_map : List ℕ
stub_map = 0x01 ∷ 0x00 ∷ 0x02 ∷ 0x00 ∷ 0x01 ∷ 0x00 ∷ 0x03 ∷ 0x02 ∷ []

-- the status of the first call
abbrev first_status : List (Answer Reply) → ℕ
first_status [] = 0
first_status (a ∷ rest) = number_of a

-- place 3 is none of the stub's two
third_declined : Sessions triangle stub_map → ⊥
unfolding map_session book_session number_of
third_declined S =
    let e : ◌≡◌ {A = ℕ} 13 0 = ap (λ (o : Outcome). first_status o.answers) (S.same 3 (Call.cross ∷ [])) in
    omega arith

-- turning back from the stub's place 1 is what undoes the turn that goes round there
undone_round : TurnUndone stub_map → turn_back_of stub_map 1 ≡ answer (record { value = 1; sign = true })
unfolding turn_of
undone_round U = U.turn 1 1 true refl

pub record Cases : Type 0 where
  pub triangle_bytes : turan_bytes triangle ≡ 0x03 ∷ 0x00 ∷ 0x03 ∷ 0x00 ∷ 0x02 ∷ 0x00 ∷ 0x1B ∷ 0x0C ∷ 0x02 ∷ []
  -- lists that are longer than they need be
  pub stub_left : left_in stub_map (7 ∷ 7 ∷ 7 ∷ []) (7 ∷ 7 ∷ []) ≡ lent (0 ∷ 1 ∷ []) (1 ∷ []) 0
  -- a session tells the stub's map from the triangle's
  pub not_its_map : Sessions triangle stub_map → ⊥
  -- 02, 8/14, of (b): the turn of 1 has the sign
  pub stub_last : LastPlace (word_in stub_map) 0
  -- and the turn back that undoes it has it too
  pub stub_undone : TurnUndone stub_map → turn_back_of stub_map 1 ≡ answer (record { value = 1; sign = true })

pub cases : Cases
unfolding turan_bytes unpack_of leaves size_in word_in seen mate_in
cases =
    record {
      triangle_bytes = refl;
      stub_left = refl;
      not_its_map = third_declined;
      stub_last = inr (inr (refl, refl));
      stub_undone = undone_round;
    }
