-- Whether each byte of a list is the code of a call.
--
-- read_is      == a byte is the code of a call exactly if one is read from it
-- Coded ks     == each is
-- codes_same   == what decides that is `are_calls`
-- Assumes nothing.
use mathlib.Core.Path.{◌≡◌, refl, sym, ◌∙◌}
use mathlib.Core.Bool.{Bool, true}
use mathlib.Core.List.{List, [], ◌∷◌}
use Prim.Native.Nat.{ℕ, zero, suc, ◌<◌}
use native.Mathlib.Omega.{arith}
use lib.ListN.{length, get_or}
use Rattle.std.specs.Prelude.{Result, Ok, Err, is_ok}
use Rattle.count.specs.Below.{Decides}
use Rattle.count.proofs.Logic.{both, both_left, both_right, bool_same}
use Rattle.answers.specs.declared.refusal.Refusal.{Refusal}
use Rattle.format.specs.Sessions.{is_call, are_calls}
use Rattle.calling.specs.Codes.{Reads}
use Rattle.calling.specs.declared.codes.Call as code

pub record Coded (ks : List ℕ) : Type 0 where
  pub each : (i : ℕ) → i < length ks → is_call (get_or ks i 0) ≡ true

pub read_is : (k : ℕ) (r : Result code.Call Refusal) → Reads k r → is_ok r ≡ is_call k
read_is k (Ok c) R = sym R.0
read_is k (Err e) R = sym R.0

coded_from : (ks : List ℕ) → are_calls ks ≡ true → (i : ℕ) → i < length ks → is_call (get_or ks i 0) ≡ true
unfolding are_calls
coded_from [] e i l = absurd (omega (arith, l))
coded_from (k ∷ ks) e zero l = both_left (is_call k) (are_calls ks) e
coded_from (k ∷ ks) e (suc i) l = coded_from ks (both_right (is_call k) (are_calls ks) e) i (omega (arith, l))

coded_all : (ks : List ℕ) → ((i : ℕ) → i < length ks → is_call (get_or ks i 0) ≡ true) → are_calls ks ≡ true
unfolding are_calls
coded_all [] C = refl
coded_all (k ∷ ks) C = both (is_call k) (are_calls ks) (C 0 (omega arith)) (coded_all ks (λ i l. C (suc i) (omega (arith, l))))

module _ (ks : List ℕ) where
  pub codes_same : (t : Bool) → Decides t (Coded ks) → t ≡ are_calls ks
  codes_same t d = bool_same t (are_calls ks) (λ h. coded_all ks (d.sound h).each) (λ h. d.complete (record { each = coded_from ks h }))
