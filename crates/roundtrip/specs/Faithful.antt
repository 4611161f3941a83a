-- What is known of a drawing whose word speaks for it.
--
-- Faithful D == the tour meets all ends, its word is balanced in both families, and crossing and stepping in the word are crossing
--               and turning in the drawing
-- Assumes nothing.
use Rattle.std.specs.Prelude.{◌≡◌, ℕ, ◌<◌}
use Rattle.orbits.specs.Cycles.{Permutes}
use Rattle.words.specs.Brackets.{Balanced, step}
use Rattle.words.specs.declared.family.Family.{Family}
use Rattle.words.specs.declared.family.Family.TheVariants.{Round as round}
use Rattle.words.specs.Word.{seen, mate_in}
use Rattle.drawing.specs.Drawing.{Drawing, ends, other, turn, end_at, position_of}
use Rattle.drawing.specs.Checks.{InRange}
use Rattle.tours.specs.Tour.{MeetsAll}
use Rattle.format.specs.Pack.{word_of}

pub record Faithful (D : Drawing) : Type 0 where
  pub range : InRange D
  pub turns : Permutes (ends D) (turn D)
  pub meets : MeetsAll D
  pub balanced : (K : Family) → Balanced (seen K (word_of D)) (ends D)
  pub crosses : (p : ℕ) → p < ends D → position_of D (other (end_at D p)) ≡ mate_in (word_of D) p
  pub steps : (p : ℕ) → p < ends D → position_of D (turn D (end_at D p)) ≡ step (seen round (word_of D)) (ends D) p
