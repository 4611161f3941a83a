-- Rows 13 to 15 of the table: opening's refusal, then that of the call's own number.
--
-- in_range i n     == i is one of 1 to n
-- in_range_lem, out_of_range, range_has == the test and what it tests
-- place_refused, place_zero, place_far, place_in == what `check_place` answers
-- cells_points, cells_areas == how many points and areas there are
-- number_zero_not, number_tests == whether there is a point (area) k
-- cell_refused, cell_in, cell_out == what `check_cell` answers
-- Assumes nothing.
use mathlib.Core.Path.{◌≡◌, sym, ap, ap₂, ◌∙◌}
use mathlib.Core.Bool.{Bool, true, false, not, ◌&&◌}
use mathlib.Core.List.{List, []}
use Prim.Native.Nat.{ℕ, ◌+◌, ◌-◌, ◌<◌, ◌≤◌}
use native.Mathlib.Omega.{arith}
use borrow.Author.Tests.{ltb-true, leb-true, lt-ltb, le-leb, not-true, not-false}
use lib.Dec.{ltb, leb}
use lib.ListN.{drop}
use Rattle.count.proofs.Logic.{both, both_left, both_right, not_both}
use Rattle.answers.proofs.Passing.{declines_first, refuses, passes}
use Rattle.answers.specs.declared.numbers.Point.{Point}
use Rattle.answers.specs.declared.numbers.Area.{Area}
use Rattle.answers.specs.Answer.{answer, refused_with, refused, Kind, no_such}
use Rattle.format.specs.Bytes.{size_in, bits_a}
use Rattle.format.specs.Open.{open_checks}
use Rattle.format.specs.Calls.{place_checks, cells_in, is_number, cell_checks}
use Rattle.opening.specs.Cells.{kind_of, number_of_cell}
use Rattle.opening.specs.Checks.{open_check, place_check, cell_check}
use Rattle.opening.specs.declared.cells.Cell.{Cell}

unfoldable pub in_range : ℕ → ℕ → Bool
in_range i n = ltb 0 i && leb i n

in_range_lem : (i n : ℕ) → (i ≡ 0 → ⊥) → i ≤ n → in_range i n ≡ true
unfolding in_range
in_range_lem i n m l = both (ltb 0 i) (leb i n) (lt-ltb 0 i (omega arith)) (le-leb i n l)

out_of_range : (i n : ℕ) → (1 ≤ i → i ≤ n → ⊥) → in_range i n ≡ false
unfolding in_range
out_of_range i n f = not_both (ltb 0 i) (leb i n) (λ h k. f (ltb-true 0 i h) (leb-true i n k))

pub range_has : (i n : ℕ) → in_range i n ≡ true → (1 ≤ i) × (i ≤ n)
unfolding in_range
range_has i n h = (ltb-true 0 i (both_left (ltb 0 i) (leb i n) h), leb-true i n (both_right (ltb 0 i) (leb i n) h))

module _ (s : List ℕ) where
  -- ---- places
  module _ (i : ℕ) where
    pub place_refused : (k : ℕ) (xs : List ℕ) → refused_with k xs ≡ open_check s → refused_with k xs ≡ place_check s i
    unfolding place_check open_check
    place_refused k xs e = declines_first (open_checks s) (drop 6 (place_checks s i)) (answer (tt {0})) k xs e

    module _ (e : answer (tt {0}) ≡ open_check s) where
      place_not : (1 ≤ i → i ≤ bits_a (size_in s) → ⊥) → refused 13 ≡ place_check s i
      unfolding place_check open_check in_range
      place_not f = refuses (open_checks s) (drop 6 (place_checks s i)) e (answer (tt {0})) 0 tt (out_of_range i (bits_a (size_in s)) f)

      pub place_zero : i ≡ 0 → refused 13 ≡ place_check s i
      place_zero h = place_not (λ l g. omega arith)

      pub place_far : (n : ℕ) → n ≡ bits_a (size_in s) → n < i → refused 13 ≡ place_check s i
      place_far n hn h = place_not (λ l g. omega arith)

      pub place_in : (n : ℕ) → (i ≡ 0 → ⊥) → n ≡ bits_a (size_in s) → i ≤ n → answer (tt {0}) ≡ place_check s i
      unfolding place_check open_check in_range
      place_in n m hn h = passes (open_checks s) (drop 6 (place_checks s i)) e (answer (tt {0})) (in_range_lem i (bits_a (size_in s)) m (omega arith), tt)

  -- ---- points and areas
  pub cells_points : (c : Cell) (p : Point) (n : ℕ) → c ≡ Cell.Point p → n ≡ (size_in s).n → n ≡ cells_in (size_in s) (kind_of c)
  cells_points c p n e h = rw e h

  pub cells_areas : (c : Cell) (a : Area) (k : ℕ) → c ≡ Cell.Area a → k ≡ (size_in s).m + 2 - (size_in s).n → k ≡ cells_in (size_in s) (kind_of c)
  cells_areas c a k e h = rw e h

  -- k is the number of the cell c
  module _ (c : Cell) (k : ℕ) (is : k ≡ number_of_cell c) where
    pub number_zero_not : k ≡ 0 → false ≡ is_number (size_in s) (kind_of c) (number_of_cell c)
    unfolding in_range
    number_zero_not e = sym (out_of_range (number_of_cell c) (cells_in (size_in s) (kind_of c)) (λ l h. omega arith))

    pub number_tests : (n : ℕ) → (k ≡ 0 → ⊥) → n ≡ cells_in (size_in s) (kind_of c) → leb k n ≡ is_number (size_in s) (kind_of c) (number_of_cell c)
    number_tests n m e =
        ap₂ leb is e ∙ ap (λ t. t && leb (number_of_cell c) (cells_in (size_in s) (kind_of c))) (sym (lt-ltb 0 (number_of_cell c) (omega arith)))

  module _ (c : Kind) (k : ℕ) where
    pub cell_refused : (o : ℕ) (xs : List ℕ) → refused_with o xs ≡ open_check s → refused_with o xs ≡ cell_check s c k
    unfolding cell_check open_check
    cell_refused o xs e = declines_first (open_checks s) (drop 6 (cell_checks s c k)) (answer (tt {0})) o xs e

    module _ (e : answer (tt {0}) ≡ open_check s) (t : Bool) (h : t ≡ is_number (size_in s) c k) where
      pub cell_in : not t ≡ false → answer (tt {0}) ≡ cell_check s c k
      unfolding cell_check open_check
      cell_in y = passes (open_checks s) (drop 6 (cell_checks s c k)) e (answer (tt {0})) (sym h ∙ not-false t y, tt)

      pub cell_out : (o : ℕ) (xs : List ℕ) → not t ≡ true → o ≡ no_such c → xs ≡ [] → refused_with o xs ≡ cell_check s c k
      unfolding cell_check open_check
      cell_out o xs y p q =
          ap₂ refused_with p q ∙ refuses (open_checks s) (drop 6 (cell_checks s c k)) e (answer (tt {0})) 0 tt (sym h ∙ not-true t y)
