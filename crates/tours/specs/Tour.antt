-- What is shown of a spanning tree's tour (document 01, "Tour and packed map": "It meets all 2m ends, at places 1 to 2m").
--
-- MeetsAll D == the tour meets all ends, each once: end-at-place and place-of-end are inverse to each other, and the step
--               from the last place comes back to the first
-- Nests D    == no two marked borders alternate in it
-- NotFlat D  == where two unmarked borders alternate in it, the drawing has few areas: areas + points ≤ borders
-- Assumes nothing.
use Rattle.std.specs.Prelude.{◌≡◌, true, ℕ, ◌+◌, ◌<◌, ◌≤◌}
use Rattle.answers.specs.Answer.{Kind}
use Rattle.drawing.specs.Drawing.{Drawing, borders, ends, is_marked, cells, end_at, position_of}
use Rattle.drawing.specs.Checks.{Alternate, Crossing}

pub record MeetsAll (D : Drawing) : Type 0 where
  pub end_below : (p : ℕ) → p < ends D → end_at D p < ends D
  pub position_below : (h : ℕ) → h < ends D → position_of D h < ends D
  pub end_position : (h : ℕ) → h < ends D → end_at D (position_of D h) ≡ h
  pub position_end : (p : ℕ) → p < ends D → position_of D (end_at D p) ≡ p
  pub comes_back : end_at D (ends D) ≡ D.start

pub record Nests (D : Drawing) : Type 0 where
  pub never : (a b : ℕ) → is_marked D a ≡ true → is_marked D b ≡ true → Alternate D a b → ⊥

pub record NotFlat (D : Drawing) : Type 0 where
  pub few : (a b : ℕ) → Crossing D a b → cells D Kind.area + cells D Kind.point ≤ borders D
