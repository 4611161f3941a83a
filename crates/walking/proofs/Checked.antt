-- What a call may conclude from its check: it has a position, or a point or an area.
--
-- place_position == where no check of a place applies, the place has a position
-- cell_numbered  == where no check of a point (area) applies, there is such a point (area)
-- Assumes nothing.
use mathlib.Core.Path.{◌≡◌}
use mathlib.Core.List.{List}
use Prim.Native.Nat.{ℕ, ◌-◌}
use native.Mathlib.Omega.{arith}
use Rattle.opening.specs.Cells.{kind_of, number_of_cell}
use Rattle.answers.specs.Answer.{answer}
use Rattle.opening.specs.Checks.{place_check, cell_check}
use Rattle.opening.proofs.Passed.{place_passes, cell_passes}
use Rattle.opening.specs.declared.cells.Cell.{Cell}
use Rattle.walking.specs.Positions.{Position, Numbered}
use Rattle.walking.proofs.Decoded.{places_most}

pub place_position : (s : List ℕ) (i : ℕ) → answer (tt {0}) ≡ place_check s i → Position s (i - 1)
place_position s i e =
    let h = place_passes s i e in
    let l = h.1 in
    let g = h.2 in
    record { opens = h.0; below = omega arith; few = omega (arith, places_most s h.0) }

pub cell_numbered : (s : List ℕ) (c : Cell) → answer (tt {0}) ≡ cell_check s (kind_of c) (number_of_cell c) → Numbered s c
cell_numbered s c e =
    let h = cell_passes s (kind_of c) (number_of_cell c) e in
    record { opens = h.0; least = h.1; most = h.2 }
