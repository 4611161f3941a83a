-- The checks of a session, in order: opening's, the room of the lists, the codes.
--
-- run_short, run_no_call, run_answers == the checks 2 and `no_call`
-- ran_opens, ran_declines   == opening's checks before them
-- ran_short_statuses, ran_short_answers, ran_no_call, ran_answers == its own checks after them
-- Assumes nothing.
use mathlib.Core.Path.{◌≡◌, sym, ◌∙◌}
use mathlib.Core.Bool.{true, false, ◌&&◌}
use mathlib.Core.List.{List}
use Prim.Native.Nat.{ℕ, ◌<◌, ◌≤◌}
use native.Mathlib.Omega.{arith}
use borrow.Author.Tests.{le-leb, leb-true}
use lib.Dec.{leb}
use lib.ListN.{length}
use Rattle.count.proofs.Logic.{both, not_both}
use Rattle.answers.proofs.Passing.{declines}
use Rattle.answers.proofs.Steps.{refuses_at, answers_all}
use Rattle.answers.specs.Answer.{Answer, answer, refused_with, refused}
use Rattle.answers.specs.Checks.{after}
use Rattle.drawing.specs.Session.{Outcome}
use Rattle.format.specs.Open.{open_checks, open_refusal}
use Rattle.format.proofs.Passes.{opened_opens, opened}
use Rattle.opening.specs.Checks.{open_check}
use Rattle.opening.proofs.Passed.{open_passes}
use Rattle.format.specs.Calls.{map_session}
use Rattle.format.specs.Sessions.{calls_of, are_calls, no_call, run_checks, ran_of}

-- ---- the checks 2 and `no_call`
module _ (ks : List ℕ) (k l : ℕ) (o : Outcome) where
  pub run_short : (length ks ≤ k → length ks ≤ l → ⊥) → after (run_checks ks k l) o ≡ refused 2
  run_short n =
      sym (refuses_at (run_checks ks k l) (answer o) 0 tt
      (not_both (leb (length ks) k) (leb (length ks) l) (λ g h. n (leb-true (length ks) k g) (leb-true (length ks) l h))))

  module _ (g : length ks ≤ k) (h : length ks ≤ l) where
    room : leb (length ks) k && leb (length ks) l ≡ true
    room = both (leb (length ks) k) (leb (length ks) l) (le-leb (length ks) k g) (le-leb (length ks) l h)

    pub run_no_call : are_calls ks ≡ false → after (run_checks ks k l) o ≡ refused no_call
    run_no_call e = sym (refuses_at (run_checks ks k l) (answer o) 1 (room, tt) e)

    pub run_answers : are_calls ks ≡ true → after (run_checks ks k l) o ≡ answer o
    run_answers e = sym (answers_all (run_checks ks k l) (answer o) (room, (e, tt)))

-- ---- after opening's
module _ (s : List ℕ) (first : ℕ) (ks : List ℕ) (k l : ℕ) where
  pub ran_opens : open_refusal s ≡ 0 → ran_of s first ks k l ≡ after (run_checks ks k l) (map_session s first (calls_of ks))
  unfolding ran_of opened
  ran_opens e = opened_opens s (after (run_checks ks k l) (map_session s first (calls_of ks))) e

  pub ran_declines : (j : ℕ) (xs : List ℕ) → refused_with j xs ≡ open_check s → ran_of s first ks k l ≡ refused_with j xs
  unfolding ran_of open_check
  ran_declines j xs e = sym (declines (open_checks s) (after (run_checks ks k l) (map_session s first (calls_of ks))) j xs e)

-- ---- its own checks, where opening's pass
module _ (s : List ℕ) (first : ℕ) (ks : List ℕ) (k l : ℕ) (e : answer (tt {0}) ≡ open_check s) where
  abbrev ran : Answer Outcome
  ran = ran_of s first ks k l

  opens : ran ≡ after (run_checks ks k l) (map_session s first (calls_of ks))
  opens = ran_opens s first ks k l (open_passes s e)

  pub ran_short_statuses : k < length ks → ran ≡ refused 2
  ran_short_statuses h = opens ∙ run_short ks k l (map_session s first (calls_of ks)) (λ g m. omega arith)

  pub ran_short_answers : l < length ks → ran ≡ refused 2
  ran_short_answers h = opens ∙ run_short ks k l (map_session s first (calls_of ks)) (λ g m. omega arith)

  module _ (g : length ks ≤ k) (h : length ks ≤ l) where
    pub ran_no_call : are_calls ks ≡ false → ran ≡ refused 255
    ran_no_call f = opens ∙ run_no_call ks k l (map_session s first (calls_of ks)) g h f

    pub ran_answers : are_calls ks ≡ true → ran ≡ answer (map_session s first (calls_of ks))
    ran_answers f = opens ∙ run_answers ks k l (map_session s first (calls_of ks)) g h f
