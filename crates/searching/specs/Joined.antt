-- The joining border of two points of a map that opens.
--
-- joined_in s u v     == the joining border of u and v, once both are points of s
-- Start s f          == f is the first position of its point
-- joined_from s v f   == the joining border of v and the point whose first position is f
-- Assumes nothing.
use Rattle.std.specs.Prelude.{◌≡◌, List, ℕ}
use Rattle.answers.specs.Answer.{Kind}
use Rattle.words.specs.Brackets.{inner, number, first, size}
use Rattle.words.specs.declared.family.Family.TheVariants.{Round as round}
use Rattle.words.specs.Word.{seen}
use Rattle.format.specs.Bytes.{size_in, bits_a, word_in}
use Rattle.format.specs.Calls.{places_in, join_in}
use Rattle.walking.specs.Positions.{Position}

-- 01, Moves: "the search stops at the first place about u, in turning order, whose crossing lands at v"
abbrev pub joined_in : List ℕ → ℕ → ℕ → ℕ
joined_in s u v = join_in (word_in s) v (places_in (word_in s) Kind.point u) (first (seen round (word_in s)) (bits_a (size_in s)) u)

pub record Start (s : List ℕ) (f : ℕ) : Type 0 where
  pub at : Position s f
  pub itself : inner (seen round (word_in s)) f ≡ f

abbrev pub joined_from : List ℕ → ℕ → ℕ → ℕ
joined_from s v f =
    join_in (word_in s) v (size (seen round (word_in s)) (bits_a (size_in s)) (number (seen round (word_in s)) f)) f
