-- The joining border: what is answered, by the checks of both points.
--
-- join_declines, join_no_such == opening's refusal and 14 for u; 14 for v
-- join_answers    == the place that the search finds
-- Assumes nothing.
use mathlib.Core.Path.{◌≡◌, refl, sym, ap, ◌∙◌}
use mathlib.Core.Bool.{Bool, true, false, not}
use mathlib.Core.List.{List}
use Prim.Native.Nat.{ℕ}
use borrow.Author.Tests.{not-true, not-false}
use Rattle.count.specs.Below.{pick}
use Rattle.answers.specs.Answer.{Answer, answer, refused_with, refused, Kind}
use Rattle.answers.specs.Checks.{checked}
use Rattle.format.specs.Bytes.{size_in, word_in}
use Rattle.format.specs.Calls.{is_number, cell_checks, joining_of}
use Rattle.opening.specs.Checks.{cell_check}
use Rattle.opening.proofs.Passed.{cell_declines, cell_answers}
use Rattle.searching.specs.Joined.{joined_in}

-- ---- what is answered: two tests, one number
module _ (s : List ℕ) (u v : ℕ) where
  -- the answer once u is known to be a point, by the test of v
  own : Bool → Answer ℕ
  own t = pick t (answer (joined_in s u v)) (refused 14)

  join_as : checked (cell_checks s Kind.point u) (own (is_number (size_in s) Kind.point v)) ≡ joining_of s u v
  unfolding joining_of word_in own
  join_as = refl

  pub join_declines : (k : ℕ) (xs : List ℕ) → refused_with k xs ≡ cell_check s Kind.point u → refused_with k xs ≡ joining_of s u v
  join_declines k xs e = cell_declines s Kind.point u (own (is_number (size_in s) Kind.point v)) k xs e ∙ join_as

  module _ (e : answer (tt {0}) ≡ cell_check s Kind.point u) (t : Bool) (h : t ≡ is_number (size_in s) Kind.point v) where
    join_own : own t ≡ joining_of s u v
    join_own = ap own h ∙ cell_answers s Kind.point u e (own (is_number (size_in s) Kind.point v)) ∙ join_as

    pub join_no_such : not t ≡ true → refused 14 ≡ joining_of s u v
    unfolding own
    join_no_such y = ap own (sym (not-true t y)) ∙ join_own

    pub join_answers : (r : ℕ) → not t ≡ false → r ≡ joined_in s u v → answer r ≡ joining_of s u v
    unfolding own
    join_answers r y g = ap answer g ∙ ap own (sym (not-false t y)) ∙ join_own
