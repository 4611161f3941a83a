-- What demand 3 says of a single call: it is the session of one call.
--
-- one_call == each call at each number answers what the book answers
-- Assumes nothing.
use mathlib.Core.Path.{◌≡◌, ap}
use mathlib.Core.List.{List, [], ◌∷◌, head-eq_of_cons-eq}
use Prim.Native.Nat.{ℕ}
use Rattle.drawing.specs.Drawing.{Drawing}
use Rattle.drawing.specs.Session.{Call, Outcome, session}
use Rattle.drawing.specs.Book.{book_answer, book_session}
use Rattle.format.specs.Calls.{map_answer, map_session}
use Rattle.demands.specs.Statements.{Sessions}

pub one_call : (D : Drawing) (s : List ℕ) → Sessions D s → (c : Call) (i : ℕ) → map_answer s c i ≡ book_answer D c i
unfolding map_session book_session session
one_call D s same c i = head-eq_of_cons-eq (ap (λ (o : Outcome). o.answers) (same.same i (c ∷ [])))
