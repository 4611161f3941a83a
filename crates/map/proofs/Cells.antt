-- First places, sizes and neighbours: the refusal of the check that declines, or what the word gives.
--
-- first_declines, size_declines, neighbours_decline == the refusal of the check
-- first_none, first_some        == the first place of a point (area): 0 on an empty map, else that of its first position
-- size_answers                  == how many places it has
-- neighbours_answer             == how many other areas lie across an area's sides
-- Assumes nothing.
use mathlib.Core.Path.{◌≡◌, sym, ap, ◌∙◌}
use mathlib.Core.List.{List}
use Prim.Native.Nat.{ℕ, suc, ◌+◌}
use native.Mathlib.Omega.{arith}
use borrow.Author.Tests.{eq-eqb, ne_eqb}
use lib.Dec.{eqb}
use Rattle.count.proofs.Logic.{pick_yes, pick_no}
use Rattle.answers.specs.Answer.{answer, refused_with, Kind}
use Rattle.words.specs.Brackets.{first}
use Rattle.words.specs.Word.{seen}
use Rattle.format.specs.Bytes.{size_in, bits_a, word_in}
use Rattle.format.specs.Calls.{family_of_kind, first_in, first_of, places_in, size_of, neighbours_of}
use Rattle.neighbouring.specs.Counted.{neighbours_at}
use Rattle.opening.specs.Checks.{cell_check}
use Rattle.opening.proofs.Passed.{cell_declines, cell_answers}

module _ (s : List ℕ) (c : Kind) (k : ℕ) where
  pub first_declines : (o : ℕ) (xs : List ℕ) → refused_with o xs ≡ cell_check s c k → refused_with o xs ≡ first_of s c k
  unfolding first_of
  first_declines o xs e = cell_declines s c k (answer (first_in (word_in s) c k)) o xs e

  pub size_declines : (o : ℕ) (xs : List ℕ) → refused_with o xs ≡ cell_check s c k → refused_with o xs ≡ size_of s c k
  unfolding size_of
  size_declines o xs e = cell_declines s c k (answer (places_in (word_in s) c k)) o xs e

  module _ (e : answer (tt {0}) ≡ cell_check s c k) where
    first_answers : (r : ℕ) → r ≡ first_in (word_in s) c k → answer r ≡ first_of s c k
    unfolding first_of
    first_answers r h = ap answer h ∙ cell_answers s c k e (answer (first_in (word_in s) c k))

    module _ (n : ℕ) (hn : n ≡ bits_a (size_in s)) where
      pub first_none : n ≡ 0 → answer 0 ≡ first_of s c k
      unfolding first_in word_in
      first_none h =
          let b = seen (family_of_kind c) (word_in s) in
          let x = bits_a (size_in s) in
          first_answers 0 (sym (pick_yes (eqb x 0) 0 (suc (first b x k)) (eq-eqb x 0 (sym hn ∙ h))))

      pub first_some : (r : ℕ) → (n ≡ 0 → ⊥) → r ≡ first (seen (family_of_kind c) (word_in s)) (bits_a (size_in s)) k → answer (r + 1) ≡ first_of s c k
      unfolding first_in word_in
      first_some r m h =
          let b = seen (family_of_kind c) (word_in s) in
          let x = bits_a (size_in s) in
          first_answers (r + 1) (sym (pick_no (eqb x 0) 0 (suc (first b x k)) (ne_eqb x 0 (λ y. m (hn ∙ y))) ∙ omega arith))

    pub size_answers : (r : ℕ) → r ≡ places_in (word_in s) c k → answer r ≡ size_of s c k
    unfolding size_of
    size_answers r h = ap answer h ∙ cell_answers s c k e (answer (places_in (word_in s) c k))

module _ (s : List ℕ) (k : ℕ) where
  pub neighbours_decline : (o : ℕ) (xs : List ℕ) → refused_with o xs ≡ cell_check s Kind.area k → refused_with o xs ≡ neighbours_of s k
  unfolding neighbours_of
  neighbours_decline o xs e = cell_declines s Kind.area k (answer (neighbours_at s k)) o xs e

  pub neighbours_answer : answer (tt {0}) ≡ cell_check s Kind.area k → (r : ℕ) → r ≡ neighbours_at s k → answer r ≡ neighbours_of s k
  unfolding neighbours_of
  neighbours_answer e r h = ap answer h ∙ cell_answers s Kind.area k e (answer (neighbours_at s k))
