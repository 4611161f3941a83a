-- Two words by computation: the triangle's, ( ( [ ) ) ], and ( ), whose one ( closes at the last place. Assumes nothing.
use mathlib.Core.Path.{◌≡◌, refl}
use mathlib.Core.Bool.{Bool, true, false}
use mathlib.Core.List.{List, [], ◌∷◌}
use lib.ListN.{length, get_or}
use Rattle.words.specs.Brackets.{step, back, number, is_first, is_last, first, size}
use Rattle.words.specs.declared.family.Family.{Family}
use Rattle.words.specs.declared.family.Family.TheVariants.{Round as round, Square as square}
use Rattle.words.specs.Word.{Letter, Word, seen, mate_in}

abbrev letter : Family → Bool → Letter
letter K c = record { family = K; closing = c }

abbrev word : List Letter → Word
word ls = record { size = length ls; letter = λ p. get_or ls p (letter square false) }

abbrev triangle : Word
triangle =
    word
    (letter round false ∷ letter round false ∷ letter square false ∷ letter round true ∷ letter round true ∷ letter square true ∷ [])

abbrev stub : Word
stub = word (letter round false ∷ letter round true ∷ [])

pub record Cases : Type 0 where
  pub crosses : mate_in triangle 2 ≡ 5
  -- about a point, at a ( the next position is not the next border
  pub turns : step (seen round triangle) 6 0 ≡ 5
  pub turns_back : back (seen round triangle) 6 5 ≡ 0
  -- along an area, after the last position comes the first
  pub goes_along : step (seen square triangle) 6 2 ≡ 0
  -- the area of a [ is the one before it
  pub area_of_opening : number (seen square triangle) 2 ≡ 1
  pub area_inside : number (seen square triangle) 3 ≡ 2
  pub first_inside : first (seen square triangle) 6 2 ≡ 3
  pub sides : size (seen square triangle) 6 2 ≡ 3
  -- the last position of point 1 is the ( that closes at the end
  pub last_opening : is_last (seen round stub) 2 0 ≡ true
  pub first_position : is_first (seen round stub) 0 ≡ true

pub cases : Cases
unfolding mate_in step back number first size is_last is_first seen
cases =
    record {
      crosses = refl;
      turns = refl;
      turns_back = refl;
      goes_along = refl;
      area_of_opening = refl;
      area_inside = refl;
      first_inside = refl;
      sides = refl;
      last_opening = refl;
      first_position = refl;
    }
