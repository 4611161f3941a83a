-- What becomes of the cycles when the values of a permutation at two numbers are exchanged: what the exchange law says.
--
-- OneLess n f g x y == x and y are in one cycle of g, and g has one cycle less than f
-- OneMore n f g x y == they are in different cycles of g, and g has one cycle more
-- Assumes nothing.
use Rattle.std.specs.Prelude.{◌≡◌, ℕ, ◌+◌}
use Rattle.orbits.specs.Cycles.{SameCycle, cycles}

pub record OneLess (n : ℕ) (f g : ℕ → ℕ) (x y : ℕ) : Type 0 where
  pub together : SameCycle g x y
  pub less : cycles n g + 1 ≡ cycles n f

pub record OneMore (n : ℕ) (f g : ℕ → ℕ) (x y : ℕ) : Type 0 where
  pub separate : SameCycle g x y → ⊥
  pub more : cycles n g ≡ cycles n f + 1
