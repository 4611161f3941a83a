-- What a call may conclude from its check: it declines with the refusal, or its own answer stands.
--
-- open_passes   == where opening's checks pass, the bytes open
-- place_passes, place_least == where no check applies the bytes open, and there is such a place
-- place_declines, place_answers == a call about a place: its refusal, or its answer
-- cell_passes   == where no check applies the bytes open, and there is such a point (area)
-- cell_declines, cell_answers == a call about a point (area): its refusal, or its answer
-- Assumes nothing.
use mathlib.Core.Path.{◌≡◌, refl}
use mathlib.Core.Bool.{true}
use mathlib.Core.List.{List}
use Prim.Native.Nat.{ℕ, ◌≤◌}
use lib.ListN.{drop}
use Rattle.answers.specs.Checks.{Check, checked, numbered}
use Rattle.answers.proofs.Steps.{none_append, tests_passed}
use Rattle.answers.proofs.Passing.{declines, goes_on, none_refused}
use Rattle.answers.specs.Answer.{Answer, answer, refused_with, Kind}
use Rattle.format.specs.Bytes.{size_in, bits_a}
use Rattle.format.specs.Open.{open_checks, open_refusal}
use Rattle.format.specs.Calls.{place_checks, cells_in, cell_checks}
use Rattle.opening.specs.Checks.{open_check, place_check, cell_check}
use Rattle.opening.proofs.Refused.{in_range, range_has}

pub open_passes : (s : List ℕ) → answer (tt {0}) ≡ open_check s → open_refusal s ≡ 0
unfolding open_check open_refusal
open_passes s e = none_refused (open_checks s) e

-- ---- places
module _ (s : List ℕ) (i : ℕ) where
  module _ (e : answer (tt {0}) ≡ place_check s i) where
    passed_place : (open_refusal s ≡ 0) × (in_range i (bits_a (size_in s)) ≡ true)
    unfolding place_check open_refusal in_range
    passed_place =
        let own : List Check = drop 6 (place_checks s i) in
        let h = none_append (open_checks s) own refl (none_refused (place_checks s i) e) in
        (h.0, (tests_passed own refl h.1).0)

    pub place_passes : (open_refusal s ≡ 0) × (1 ≤ i) × (i ≤ bits_a (size_in s))
    place_passes =
        let r = range_has i (bits_a (size_in s)) passed_place.1 in
        (passed_place.0, r.0, r.1)

    pub place_least : 1 ≤ i
    place_least = place_passes.1

    pub place_answers : {A : Type 0} (a : Answer A) → a ≡ checked (place_checks s i) a
    unfolding place_check
    place_answers a = goes_on (place_checks s i) a e

  pub place_declines : {A : Type 0} (a : Answer A) (k : ℕ) (xs : List ℕ) → refused_with k xs ≡ place_check s i → refused_with k xs ≡ checked (place_checks s i) a
  unfolding place_check
  place_declines a k xs e = declines (place_checks s i) a k xs e

-- ---- points and areas
numbered_own : (s : List ℕ) (c : Kind) (k : ℕ) → numbered (drop 6 (cell_checks s c k)) ≡ true
numbered_own s Kind.point k = refl
numbered_own s Kind.area k = refl

module _ (s : List ℕ) (c : Kind) (k : ℕ) where
  module _ (e : answer (tt {0}) ≡ cell_check s c k) where
    pub cell_passes : (open_refusal s ≡ 0) × (1 ≤ k) × (k ≤ cells_in (size_in s) c)
    unfolding cell_check open_refusal in_range
    cell_passes =
        let own : List Check = drop 6 (cell_checks s c k) in
        let h = none_append (open_checks s) own refl (none_refused (cell_checks s c k) e) in
        let r = range_has k (cells_in (size_in s) c) (tests_passed own (numbered_own s c k) h.1).0 in
        (h.0, r.0, r.1)

    pub cell_answers : {A : Type 0} (a : Answer A) → a ≡ checked (cell_checks s c k) a
    unfolding cell_check
    cell_answers a = goes_on (cell_checks s c k) a e

  pub cell_declines : {A : Type 0} (a : Answer A) (o : ℕ) (xs : List ℕ) → refused_with o xs ≡ cell_check s c k → refused_with o xs ≡ checked (cell_checks s c k) a
  unfolding cell_check
  cell_declines a o xs e = declines (cell_checks s c k) a o xs e
