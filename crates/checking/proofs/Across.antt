-- The other end, by the last binary digit.
--
-- other_even_is, other_odd_is == one more, one less
-- Assumes nothing.
use mathlib.Core.Path.{◌≡◌, sym}
use Prim.Native.Nat.{ℕ, ◌+◌, ◌-◌, ◌%◌}
use native.Mathlib.Omega.{arith}
use Rattle.drawing.specs.Drawing.{other}
use Rattle.drawing.proofs.Ends.{across}

pub other_even_is : (h : ℕ) → h % 2 ≡ 0 → h + 1 ≡ other h
other_even_is h e = sym ((across h).even e)

pub other_odd_is : (h : ℕ) → (h % 2 ≡ 0 → ⊥) → h - 1 ≡ other h
other_odd_is h n = let o : h % 2 ≡ 1 = omega arith in omega (arith, (across h).odd o)
