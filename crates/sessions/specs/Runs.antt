-- The lists that are lent to a session: their room, and what they hold after it.
--
-- Room ks st an        == both lists have an entry for each call
-- Leaves o p st an st' an' == p is the place that the outcome o leaves, and st' and an' are the lists st and an with its statuses and answers
-- Assumes nothing.
use Rattle.std.specs.Prelude.{◌≡◌, List, ℕ, ◌≤◌, length}
use Rattle.answers.specs.Lent.{laid}
use Rattle.drawing.specs.Session.{Outcome}
use Rattle.format.specs.Sessions.{statuses_of, values_of}

pub record Room (ks st an : List ℕ) : Type 0 where
  pub statuses : length ks ≤ length st
  pub answers : length ks ≤ length an

pub record Leaves (o : Outcome) (p : ℕ) (st an st' an' : List ℕ) : Type 0 where
  pub place : p ≡ o.place
  pub statuses : st' ≡ laid (statuses_of o) st
  pub answers : an' ≡ laid (values_of o) an
