-- What lent bytes hold after a text was put into them.
--
-- Wrote old at t r new == new is old with the text t in place of its bytes from `at` on, and r is the place after t
-- Puts p t q           == the page q is p with the text t put at its place: the same memory, as long as before
-- Assumes nothing.
use Rattle.std.specs.Prelude.{◌≡◌, List, ◌++◌, ℕ, ◌+◌, length, take, drop}
use Rattle.printing.specs.declared.page.Page.{Page}

pub record Wrote (old : List ℕ) (at : ℕ) (t : List ℕ) (r : ℕ) (new : List ℕ) : Type 0 where
  pub next : r ≡ at + length t
  pub text : new ≡ take at old ++ (t ++ drop (at + length t) old)

pub record Puts (p : Page) (t : List ℕ) (q : Page) : Type 0 where
  pub same_memory : q.out.ghost_name ≡ p.out.ghost_name
  pub same_length : length q.out.now ≡ length p.out.now
  pub wrote : Wrote p.out.now p.at t q.at q.out.now
