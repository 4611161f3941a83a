-- The calls and their codes.
--
-- meant c   == the call of the book that c is
-- Reads k r == r is the call with the code k, or `NoCall` where k is the code of none
-- Assumes nothing.
use Rattle.std.specs.Prelude.{◌≡◌, true, false, ℕ, Result, Ok, Err}
use Rattle.answers.specs.declared.refusal.Refusal.{Refusal}
use Rattle.drawing.specs.Session.{Call}
use Rattle.format.specs.Sessions.{call_of, is_call}
use Rattle.calling.specs.declared.codes.Call as code

abbrev pub meant : code.Call → Call
meant code.Call.Cross = Call.cross
meant code.Call.Turn = Call.turn
meant code.Call.TurnBack = Call.turn_back
meant code.Call.Along = Call.along
meant code.Call.Point = Call.point
meant code.Call.Area = Call.area

abbrev pub Reads : ℕ → Result code.Call Refusal → Type 0
Reads k (Ok c) = (is_call k ≡ true) × (meant c ≡ call_of k)
Reads k (Err e) = (is_call k ≡ false) × (e ≡ Refusal.NoCall)
