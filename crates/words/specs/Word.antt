-- Words over two families of brackets: ( ) and [ ]. Document 002's Euler tour with its two kinds of edges.
--
-- Family        == round: ( ), the borders of the tree; square: [ ], the others
-- Letter        == its family, and whether it closes
-- Word          == how many letters, and the letter at each position (positions from 0)
-- seen K w      == what each letter is to family K
-- mate_in w p  == the partner of p in its own family
-- Assumes nothing.
use Rattle.std.specs.Prelude.{Bool, true, false, ℕ}
use Rattle.count.specs.Below.{pick}
use Rattle.words.specs.declared.family.Family.{Family}
use Rattle.words.specs.declared.family.Family.TheVariants.{Round as round, Square as square}
use Rattle.words.specs.Brackets.{Bracket, opens, closes, neither, mate}

abbrev pub same_family : Family → Family → Bool
same_family round round = true
same_family round square = false
same_family square round = false
same_family square square = true

pub record Letter : Type 0 where
  pub family : Family
  pub closing : Bool

pub record Word : Type 0 where
  pub size : ℕ
  pub letter : ℕ → Letter

abbrev pub view : Family → Letter → Bracket
view K l = pick (same_family K l.family) (pick l.closing closes opens) neither

unfoldable pub seen : Family → Word → ℕ → Bracket
seen K w p = view K (w.letter p)

unfoldable pub mate_in : Word → ℕ → ℕ
unfolding seen mate
mate_in w p = mate (seen (w.letter p).family w) w.size p
