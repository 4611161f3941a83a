-- When a word fits m and n: what a map holds (document 01, checks 8, 11 and 12, of a word instead of bytes).
--
-- Fits z w  == w has 2m letters, 2n - 2 of them round, and is balanced in both families; m is at most 2,048 and n is 1 to m + 1
-- Assumes nothing.
use Rattle.std.specs.Prelude.{◌≡◌, ◌+◌, ◌-◌, ◌*◌, ◌≤◌}
use Rattle.count.specs.Below.{count}
use Rattle.answers.specs.declared.given.Size.{Size}
use Rattle.words.specs.Brackets.{Balanced}
use Rattle.words.specs.declared.family.Family.{Family}
use Rattle.words.specs.declared.family.Family.TheVariants.{Round as round}
use Rattle.words.specs.Word.{same_family, Word, seen}
use Rattle.drawing.specs.Drawing.{most_borders}

pub record Fits (z : Size) (w : Word) : Type 0 where
  pub m_most : z.m ≤ most_borders
  pub n_least : 1 ≤ z.n
  pub n_most : z.n ≤ z.m + 1
  pub size : w.size ≡ 2 * z.m
  pub rounds : count (λ p. same_family round (w.letter p).family) w.size ≡ 2 * z.n - 2
  pub nested : (K : Family) → Balanced (seen K w) w.size
