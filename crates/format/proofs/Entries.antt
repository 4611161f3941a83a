-- The two lists that a session leaves tell all its answers, signs included.
--
-- entry_reads   == a reply is read back from its entry
-- answer_reads  == so is every answer of a call, from its status and its entry
-- session_reads == and all answers of a session
-- Assumes nothing.
use mathlib.Core.Path.{◌≡◌, refl, sym, ap, ap₂, subst}
use mathlib.Core.Logic.{inl, inr}
use mathlib.Core.Bool.{Bool, true, false}
use mathlib.Core.List.{List, [], ◌∷◌}
use Prim.Native.Nat.{ℕ, zero, suc, pred, ◌+◌, ◌<◌}
use native.Mathlib.Omega.{arith}
use lib.Dec.{leb}
use borrow.Author.Tests.{le-leb, lt-leb}
use Rattle.count.specs.Below.{pick}
use Rattle.count.proofs.Logic.{same_or_not}
use Rattle.answers.specs.Answer.{Answer, answer, refused, number_of, value_of, told, Reply, plain}
use Rattle.answers.specs.Checks.{refusal_in}
use Rattle.answers.proofs.Steps.{checked_none, checked_some}
use Rattle.drawing.specs.Session.{Call, place_after, session}
use Rattle.format.specs.Bytes.{word_in}
use Rattle.format.specs.Calls.{reply_in, place_checks, map_answer, map_session}
use Rattle.format.specs.Sessions.{gone_round_bit, entry_of, reply_from, answer_from, answers_from, statuses_of, values_of}
use Rattle.format.proofs.Small.{move_small}

-- ---- one entry
read : (x : ℕ) (t : Bool) → x < gone_round_bit → reply_from (pick t (x + gone_round_bit) x) ≡ record { value = x; sign = t }
read x true l =
    let e : leb gone_round_bit (x + gone_round_bit) ≡ true = le-leb gone_round_bit (x + gone_round_bit) (omega arith) in
    rw e (ap (λ (y : ℕ). record { value = y; sign = true }) (omega arith))
read x false l =
    let e : leb gone_round_bit x ≡ false = lt-leb gone_round_bit x l in
    rw e refl

pub entry_reads : (r : Reply) → r.value < gone_round_bit → reply_from (entry_of r) ≡ r
entry_reads r l = read r.value r.sign l

-- ---- one call
module _ (s : List ℕ) (c : Call) (i : ℕ) where
  abbrev Reads : Answer Reply → Type 0
  Reads a = answer_from (number_of a) (value_of (told entry_of a)) ≡ a

  refused_reads : (k : ℕ) → (k ≡ 0 → ⊥) → Reads (refused k)
  unfolding number_of value_of
  refused_reads zero n = absurd (n refl)
  refused_reads (suc k) n = refl

  answered_reads : (r : Reply) → value_of (plain (answer r)) < gone_round_bit → Reads (answer r)
  unfolding number_of value_of
  answered_reads r l = ap answer (entry_reads r l)

  pub answer_reads : Reads (map_answer s c i)
  unfolding map_answer
  answer_reads =
      let r : Reply = reply_in (word_in s) c (pred i) in
      elim (same_or_not (refusal_in (place_checks s i)) 0) [
        | inl z ↦
            let e : map_answer s c i ≡ answer r = checked_none (place_checks s i) (answer r) refl z in
            subst Reads (sym e) (answered_reads r (subst (λ a. value_of (plain a) < gone_round_bit) e (move_small s c i)))
        | inr n ↦
            let k : ℕ = refusal_in (place_checks s i) in
            let e : map_answer s c i ≡ refused k = checked_some (place_checks s i) (answer r) refl n in
            subst Reads (sym e) (refused_reads k n)
      ]

-- ---- all calls
pub session_reads : (s : List ℕ) (i : ℕ) (cs : List Call)
    → answers_from (statuses_of (map_session s i cs)) (values_of (map_session s i cs)) ≡ (map_session s i cs).answers
unfolding map_session session answers_from
session_reads s i [] = refl
session_reads s i (c ∷ cs) = ap₂ (λ x xs. x ∷ xs) (answer_reads s c i) (session_reads s (place_after c (map_answer s c i) i) cs)
