-- Calls and sessions: the same for the book and for the packed map (document 01, "The drawing's book").
--
-- Call             == the six calls of a session
-- is_move c         == whether the answer of c is the new place: cross, turn, turn back and along
-- place_after c a p == the place after the call c was answered by a at place p
-- Outcome          == all answers in order, and the place left at the end
-- session ask p cs == the calls cs in order, from the first number p, each answered by `ask`
-- Assumes nothing.
use Rattle.std.specs.Prelude.{Bool, true, false, List, [], ◌∷◌, ℕ}
use Rattle.count.specs.Below.{pick}
use Rattle.answers.specs.Answer.{Answer, answer, refused_with, Reply}

pub data Call : Type 0 where
  cross turn turn_back along point area : Call

abbrev pub is_move : Call → Bool
is_move cross = true
is_move turn = true
is_move turn_back = true
is_move along = true
is_move point = false
is_move area = false

-- 01: of a move "the answer is the new place"; of point and area "the place stays"; refused, "the place stays"
abbrev pub place_after : Call → Answer Reply → ℕ → ℕ
place_after c (answer r) p = pick (is_move c) r.value p
place_after c (refused_with k xs) p = p

pub record Outcome : Type 0 where
  pub answers : List (Answer Reply)
  pub place : ℕ

-- 01: "It is fed a first number, whatever it is, and the names of the calls in order. It holds one number, the place."
unfoldable pub session : (Call → ℕ → Answer Reply) → ℕ → List Call → Outcome
session ask p [] = record { answers = []; place = p }
session ask p (c ∷ cs) =
    let rest : Outcome = session ask (place_after c (ask c p) p) cs in
    record { answers = ask c p ∷ rest.answers; place = rest.place }
