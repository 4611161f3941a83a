-- What one call of a session finds and gives.
--
-- found_reply f  == the place, the point or the area that was found, as a number, and the sign of a turn
-- place_from f p == the place after f was found at p: the place that was found, or p
-- Fits f         == bit 15 of the number that was found is free for the sign
-- Sorted c f    == f is of the sort that c asks for: a place, a turn, a point or an area
-- Finds w c p f == f is what the call c answers at position p of the word w: the new place where c is a move; of its sort, and it fits
-- place_left r p == the place after a call that was told r at p: "refused, the place stays"
-- Gives c a p r == r stands for a, of the sort of c and with an entry that fits, and the place after it is that after the call c was
--                   answered by a at place p
-- Assumes nothing.
use Rattle.std.specs.Prelude.{◌≡◌, ℕ, ◌<◌, Result, Ok, Err, IfOk}
use Rattle.answers.specs.Answer.{Answer, answer, Reply, unsigned}
use Rattle.answers.specs.Means.{means, turn_reply}
use Rattle.answers.specs.declared.refusal.Refusal.{Refusal}
use Rattle.words.specs.Word.{Word}
use Rattle.drawing.specs.Session.{Call, place_after}
use Rattle.format.specs.Calls.{reply_in}
use Rattle.format.specs.Sessions.{gone_round_bit}
use Rattle.calling.specs.declared.calls.Found.{Found}

abbrev pub found_reply : Found → Reply
found_reply (Found.To p) = unsigned p.0
found_reply (Found.Turned t) = turn_reply t
found_reply (Found.About p) = unsigned p.0
found_reply (Found.On a) = unsigned a.0

abbrev pub place_from : Found → ℕ → ℕ
place_from (Found.To q) p = q.0
place_from (Found.Turned t) p = t.place.0
place_from (Found.About q) p = p
place_from (Found.On q) p = p

abbrev pub Fits : Found → Type 0
Fits f = (found_reply f).value < gone_round_bit

-- "A place never serves as a point or an area number."
abbrev pub Sorted : Call → Found → Type 0
Sorted Call.cross (Found.To q) = Unit {0}
Sorted Call.along (Found.To q) = Unit {0}
Sorted Call.turn (Found.Turned t) = Unit {0}
Sorted Call.turn_back (Found.Turned t) = Unit {0}
Sorted Call.point (Found.About q) = Unit {0}
Sorted Call.area (Found.On q) = Unit {0}
Sorted c f = ⊥

pub record Finds (w : Word) (c : Call) (p : ℕ) (f : Found) : Type 0 where
  pub is : found_reply f ≡ reply_in w c p
  pub leads : (q : ℕ) → place_from f q ≡ place_after c (answer (found_reply f)) q
  pub sort : Sorted c f
  pub fits : Fits f

abbrev pub place_left : Result Found Refusal → ℕ → ℕ
place_left (Ok f) p = place_from f p
place_left (Err e) p = p

pub record Gives (c : Call) (a : Answer Reply) (p : ℕ) (r : Result Found Refusal) : Type 0 where
  pub means : means found_reply r ≡ a
  pub place : place_left r p ≡ place_after c a p
  pub sort : IfOk r (Sorted c)
  pub fits : IfOk r Fits
