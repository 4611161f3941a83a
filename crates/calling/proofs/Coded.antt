-- The call that a code asks for.
--
-- call_read == that which is read from it; where none is, the area
-- Assumes nothing.
use mathlib.Core.Path.{◌≡◌, sym}
use mathlib.Core.Logic.{inl, inr}
use mathlib.Core.Bool.{true, false}
use Prim.Native.Nat.{ℕ, ◌≤◌, ◌<◌}
use native.Mathlib.Omega.{arith}
use lib.Dec.{leb}
use borrow.Author.Tests.{ne_eqb, le-leb}
use Rattle.std.specs.Prelude.{Result, Ok, Err}
use Rattle.std.specs.Result.{result_unwrap_or}
use Rattle.count.proofs.Logic.{lt_or_ge, true_not_false}
use Rattle.answers.specs.declared.refusal.Refusal.{Refusal}
use Rattle.drawing.specs.Session.{Call}
use Rattle.format.specs.Sessions.{call_of, is_call}
use Rattle.calling.specs.Codes.{meant, Reads}
use Rattle.calling.specs.declared.codes.Call as code

beyond : (k : ℕ) → 5 < k → call_of k ≡ Call.area
unfolding call_of
beyond k l =
    rw (ne_eqb k 0 (λ e. omega arith), ne_eqb k 1 (λ e. omega arith), ne_eqb k 2 (λ e. omega arith), ne_eqb k 3 (λ e. omega arith), ne_eqb k 4 (λ e. omega arith))

pub call_read : (k : ℕ) (r : Result code.Call Refusal) → Reads k r → meant (result_unwrap_or r code.Call.Area) ≡ call_of k
call_read k (Ok c) R = R.1
call_read k (Err e) R =
    elim (lt_or_ge 5 k) [
      | inl l ↦ sym (beyond k l)
      | inr h ↦ absurd (true_not_false (is_call k) (le-leb k 5 h) R.0)
    ]
