-- What a call may conclude from a function that runs its first checks: it declines with the same refusal, or goes on.
--
-- passed_up        == a refusal passed up by `?` means what it meant
-- declines         == the refusal is that of the call
-- declines_first   == and it is that of a call with more checks
-- goes_on          == the call's own answer stands
-- all_passed, none_refused == the tests hold, and none refuses
-- refuses, passes  == a function's own returns, after those first checks
-- Assumes nothing.
use mathlib.Core.Path.{◌≡◌, sym, ◌∙◌}
use mathlib.Core.Bool.{false}
use mathlib.Core.List.{List, ◌++◌}
use Prim.Native.Nat.{ℕ}
use lib.ListN.{length}
use Rattle.std.specs.Prelude.{Result, IsErrAnd}
use Rattle.std.proofs.lemmas.Result.{err_from_is_err_and}
use Rattle.answers.specs.Answer.{Answer, answer, refused_with}
use Rattle.answers.specs.Checks.{Check, refusal_in, checked, alone, check_at}
use Rattle.answers.specs.Means.{number, carried, means}
use Rattle.answers.specs.declared.refusal.Refusal.{Refusal}
use Rattle.answers.proofs.Order.{checked_append}
use Rattle.answers.proofs.Steps.{Passed, passes_all, refuses_at, answers_all, goes_on_with, answered_all, checked_refused}

pub passed_up : {T A : Type 0} (f : T → A) (r : Result T Refusal) (e : Refusal) (a : Answer A) → IsErrAnd r (λ x. x ≡ e)
    → refused_with (number e) (carried e) ≡ a → means f r ≡ a
passed_up f r e a h g = let p = err_from_is_err_and r h in rw (p.1, p.2) g

module _ (cs : List Check) where
  pub declines : {A : Type 0} (a : Answer A) (k : ℕ) (xs : List ℕ) → refused_with k xs ≡ alone cs → refused_with k xs ≡ checked cs a
  declines a k xs e = sym (checked_refused cs a (tt {0}) k xs (sym e))

  pub declines_first : {A : Type 0} (ds : List Check) (a : Answer A) (k : ℕ) (xs : List ℕ) → refused_with k xs ≡ alone cs
      → refused_with k xs ≡ checked (cs ++ ds) a
  declines_first ds a k xs e = declines (checked ds a) k xs e ∙ sym (checked_append cs ds a)

  pub all_passed : answer tt ≡ alone cs → Passed cs (length cs)
  all_passed e = (answered_all cs (tt {0}) (tt {0}) (sym e)).0

  pub none_refused : answer tt ≡ alone cs → refusal_in cs ≡ 0
  none_refused e = sym (passes_all cs (all_passed e))

  pub goes_on : {A : Type 0} (a : Answer A) → answer tt ≡ alone cs → a ≡ checked cs a
  goes_on a e = answers_all cs a (all_passed e)

  module _ (ds : List Check) (e : answer tt ≡ alone cs) where
    pub refuses : {A : Type 0} (a : Answer A) (i : ℕ) → Passed ds i → (check_at ds i).test ≡ false
        → refused_with (check_at ds i).number (check_at ds i).carries ≡ checked (cs ++ ds) a
    refuses a i p f = refuses_at ds a i p f ∙ sym (goes_on_with cs ds a (all_passed e))

    pub passes : {A : Type 0} (a : Answer A) → Passed ds (length ds) → a ≡ checked (cs ++ ds) a
    passes a p = answers_all ds a p ∙ sym (goes_on_with cs ds a (all_passed e))
