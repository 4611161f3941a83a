-- A rehearsal packs a drawing and runs a session on the bytes just written: what it answers, in terms of the drawing and its book,
-- and what the memory lent to it holds at the end. It is demand 3 of the code itself.
--
-- book_ran_of D i ks k l == a session on the book of D from the first number i, with the codes ks: the checks 2 and `no_call`, and the outcome
-- rehearsal_of D w o i ks k l == packing's refusal, or the book's session
-- Lists                == the four lists that are lent to be written
-- rehearsed D i ks old == the answer of a rehearsal of D with these lists
-- Rehearses D i ks r old new == r is what a rehearsal of D answers, and the lists old hold new after it
-- Assumes nothing.
use Rattle.std.specs.Prelude.{◌≡◌, List, ℕ, length, Result}
use Rattle.answers.specs.Answer.{Answer, told}
use Rattle.answers.specs.Checks.{after, checked}
use Rattle.answers.specs.Lent.{laid, leaves}
use Rattle.answers.specs.Means.{packing_said, rehearsed_means}
use Rattle.answers.specs.declared.given.Rehearsal.{Rehearsal}
use Rattle.answers.specs.declared.refusal.Refusal.{Refusal}
use Rattle.drawing.specs.Drawing.{Drawing}
use Rattle.drawing.specs.Session.{Outcome}
use Rattle.drawing.specs.Book.{book_session}
use Rattle.format.specs.Pack.{pack_checks, pack_of}
use Rattle.format.specs.Packs.{Packs}
use Rattle.format.specs.Sessions.{call_of, calls_of, are_calls, statuses_of, values_of, run_checks}

-- 01, "The drawing's book": "It is fed a first number, whatever it is, and the names of the calls in order."
unfoldable pub book_ran_of : Drawing → ℕ → List ℕ → ℕ → ℕ → Answer Outcome
unfolding are_calls book_session call_of
book_ran_of D i ks k l = after (run_checks ks k l) (book_session D i (calls_of ks))

-- 01: "Its map is the bytes that packing wrote, no more and no fewer."
unfoldable pub rehearsal_of : Drawing → ℕ → ℕ → ℕ → List ℕ → ℕ → ℕ → Answer Outcome
unfolding pack_of book_ran_of
rehearsal_of D w o i ks k l = checked (pack_checks D w o) (book_ran_of D i ks k l)

pub record Lists : Type 0 where
  pub work : List ℕ
  pub out : List ℕ
  pub statuses : List ℕ
  pub answers : List ℕ

abbrev pub rehearsed : Drawing → ℕ → List ℕ → Lists → Answer Outcome
rehearsed D i ks old = rehearsal_of D (length old.work) (length old.out) i ks (length old.statuses) (length old.answers)

pub record Rehearses (D : Drawing) (i : ℕ) (ks : List ℕ) (r : Result Rehearsal Refusal) (old new : Lists) : Type 0 where
  pub packs : Packs D old.work new.work old.out new.out (packing_said r)
  pub means : rehearsed_means r ≡ told (λ (o : Outcome). o.place) (rehearsed D i ks old)
  pub statuses : new.statuses ≡ leaves (λ (o : Outcome). laid (statuses_of o)) (rehearsed D i ks old) old.statuses
  pub answers : new.answers ≡ leaves (λ (o : Outcome). laid (values_of o)) (rehearsed D i ks old) old.answers
