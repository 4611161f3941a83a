-- From packing's contract and that of a session to that of a rehearsal. The session on the map is the book's.
--
-- packed_session   == a session on the bytes that packing gives is the session on the drawing's book: demand 3, with the checks of a session
-- Packing          == what packing ensures
-- map_within       == the map stands within the output
-- session_rehearsed, declined_rehearsed == what `rehearse` returns
-- rehearsal_fixed  == no two answers meet the contract of a rehearsal
-- Assumes nothing.
use mathlib.Core.Path.{◌≡◌, refl, sym, ap, ◌∙◌}
use mathlib.Core.List.{List, [], ◌∷◌}
use Prim.Native.Nat.{ℕ, ◌≤◌}
use lib.ListN.{length, take}
use Rattle.answers.specs.Answer.{Answer, answer, refused_with, told}
use Rattle.answers.specs.Means.{number, carried, packed_means, place_means, packing_said, rehearsed_means}
use Rattle.std.specs.Prelude.{Result, Ok, Err}
use Rattle.answers.specs.declared.numbers.Place.{Place}
use Rattle.answers.specs.declared.given.Rehearsal.{Rehearsal}
use Rattle.answers.specs.declared.refusal.Refusal.{Refusal}
use Rattle.answers.specs.Checks.{Check, after}
use Rattle.answers.proofs.Fixed.{rehearsed_fixed}
use Rattle.answers.proofs.Steps.{checked_answered, checked_refused}
use Rattle.answers.specs.Lent.{laid, leaves}
use Rattle.drawing.specs.Drawing.{Drawing}
use Rattle.drawing.specs.Session.{Outcome}
use Rattle.format.specs.Pack.{packed_bytes, pack_checks, pack_of}
use Rattle.format.specs.Packs.{Packs}
use Rattle.format.specs.Sessions.{calls_of, run_checks, ran_of, statuses_of, values_of}
use Rattle.demands.specs.Rehearsal.{book_ran_of, rehearsal_of, Lists, rehearsed, Rehearses}
use Rattle.packing.proofs.Outcomes.{Accepted, accepted, declined}
use Rattle.sessions.proofs.Checked.{ran_opens}
use Rattle.demands.specs.Statements.{Agrees}
use Rattle.demands.proofs.Demands.{demand_3}

pub packed_session : (D : Drawing) (w o : ℕ) (s : List ℕ) → pack_of D w o ≡ answer s
    → (i : ℕ) (ks : List ℕ) (k l : ℕ) → ran_of s i ks k l ≡ book_ran_of D i ks k l
unfolding book_ran_of
packed_session D w o s e i ks k l =
    let A : Agrees D s = demand_3 D w o s e in
    ran_opens s i ks k l A.opens.passes ∙ ap (after (run_checks ks k l)) (A.sessions.same i (calls_of ks))

-- ---- what `rehearse` returns
-- what packing ensures, of the lists of a rehearsal
pub record Packing (D : Drawing) (old : Lists) (work out : List ℕ) (r : Result ℕ Refusal) : Type 0 where
  pub packs : Packs D old.work work old.out out (packed_means r)

module _ {D : Drawing} {old : Lists} {work out : List ℕ} {r : Result ℕ Refusal} (P : Packing D old work out r) where
  abbrev packing : Answer (List ℕ)
  packing = pack_of D (length old.work) (length old.out)

  abbrev checks : List Check
  checks = pack_checks D (length old.work) (length old.out)

  accepted_here : (n : ℕ) → r ≡ Ok n → Accepted packing n out
  accepted_here n e = accepted n old.out out packing (sym (ap packed_means e) ∙ P.packs.answers) P.packs.leaves.output

  pub map_within : (n : ℕ) → r ≡ Ok n → n ≤ length out
  map_within n e = (accepted_here n e).within

  module _ (first : ℕ) (ks : List ℕ) where
    abbrev book : Answer Outcome
    book = book_ran_of D first ks (length old.statuses) (length old.answers)

    -- the session on the first n bytes of the output
    abbrev pub ran : ℕ → Answer Outcome
    ran n = ran_of (take n out) first ks (length old.statuses) (length old.answers)

    pub session_rehearsed : (n : ℕ) → r ≡ Ok n → (x : Result Place Refusal) (st an : List ℕ)
        → place_means x ≡ told (λ (o : Outcome). o.place) (ran n) → st ≡ leaves (λ (o : Outcome). laid (statuses_of o)) (ran n) old.statuses → an ≡ leaves (λ (o : Outcome). laid (values_of o)) (ran n) old.answers
        → Rehearses D first ks (Ok (record { length = n; left = x })) old (record { work = work; out = out; statuses = st; answers = an })
    unfolding rehearsal_of pack_of leaves
    session_rehearsed n e x st an hx hs ha =
        let A = accepted_here n e in
        let runs : ran n ≡ book
        = ap (λ s. ran_of s first ks (length old.statuses) (length old.answers)) A.bytes
        ∙ packed_session D (length old.work) (length old.out) A.map A.is first ks (length old.statuses) (length old.answers) in
        let is : ran n ≡ rehearsed D first ks old = runs ∙ sym (checked_answered checks book (packed_bytes D) A.map A.is) in
        record {
          packs = rw (ap packed_means e) at P.packs;
          means = hx ∙ ap (told (λ (o : Outcome). o.place)) is;
          statuses = hs ∙ ap (λ a. leaves (λ (o : Outcome). laid (statuses_of o)) a old.statuses) is;
          answers = ha ∙ ap (λ a. leaves (λ (o : Outcome). laid (values_of o)) a old.answers) is;
        }

    refused_rehearsed : (j : ℕ) (xs : List ℕ) → packed_means r ≡ refused_with j xs → (q : Result Rehearsal Refusal) → packing_said q ≡ refused_with j xs
        → rehearsed_means q ≡ refused_with j xs → Rehearses D first ks q old (record { work = work; out = out; statuses = old.statuses; answers = old.answers })
    unfolding rehearsal_of pack_of leaves
    refused_rehearsed j xs e q hp hm =
        let is : refused_with j xs ≡ rehearsed D first ks old
        = sym (checked_refused checks book (packed_bytes D) j xs (declined j xs packing (sym e ∙ P.packs.answers))) in
        record {
          packs = rw (e ∙ sym hp) at P.packs;
          means = hm ∙ ap (told (λ (o : Outcome). o.place)) is;
          statuses = ap (λ a. leaves (λ (o : Outcome). laid (statuses_of o)) a old.statuses) is;
          answers = ap (λ a. leaves (λ (o : Outcome). laid (values_of o)) a old.answers) is;
        }

    pub declined_rehearsed : (e : Refusal) → r ≡ Err e
        → Rehearses D first ks (Err e) old (record { work = work; out = out; statuses = old.statuses; answers = old.answers })
    declined_rehearsed e h = refused_rehearsed (number e) (carried e) (ap packed_means h) (Err e) refl refl

-- ---- the contract fixes the answer
pub rehearsal_fixed : (D : Drawing) (first : ℕ) (ks : List ℕ) (r q : Result Rehearsal Refusal) (old new new' : Lists)
    → Rehearses D first ks r old new → Rehearses D first ks q old new' → r ≡ q
rehearsal_fixed D first ks r q old new new' R Q =
    rehearsed_fixed r q (R.packs.answers ∙ sym Q.packs.answers) (R.means ∙ sym Q.means)
