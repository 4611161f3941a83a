-- A drawing whose tour is as document 01 says ("Tour and packed map"): what the agreement of book and word rests on.
--
-- Toured D == the turning list permutes the ends, the tour meets all of them, and neither two marked nor two unmarked
--             borders alternate in it
-- Assumes nothing.
use Rattle.std.specs.Prelude.{◌≡◌, ◌≢◌, ℕ}
use Rattle.orbits.specs.Cycles.{Permutes}
use Rattle.drawing.specs.Drawing.{Drawing, ends, turn, is_marked}
use Rattle.drawing.specs.Checks.{Alternate}
use Rattle.tours.specs.Tour.{MeetsAll}

pub record Toured (D : Drawing) : Type 0 where
  pub permutes : Permutes (ends D) (turn D)
  pub meets : MeetsAll D
  pub nests : (a b : ℕ) → a ≢ b → is_marked D a ≡ is_marked D b → Alternate D a b → ⊥
