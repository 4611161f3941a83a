-- Permutations of the numbers below N, and their cycles (orbits).
--
-- iter f k x     == k steps of f from x
-- Permutes N f   == f maps the numbers below N into themselves and sends no two of them to one
-- SameCycle f x y == some number of steps of f leads from x to y
-- lowest f k x   == the least of x and the k numbers that follow it
-- low N f x      == the least of x's cycle
-- cycles N f     == the number of cycles: how many x < N are the least of their own
-- Assumes nothing.
use Rattle.std.specs.Prelude.{◌≡◌, Bool, ℕ, zero, suc, ◌<◌, min, eqb}
use Rattle.count.specs.Below.{count}

unfoldable pub iter : (ℕ → ℕ) → ℕ → ℕ → ℕ
iter f zero x = x
iter f (suc k) x = f (iter f k x)

pub record Permutes (N : ℕ) (f : ℕ → ℕ) : Type 0 where
  pub below : (x : ℕ) → x < N → f x < N
  pub injective : (x y : ℕ) → x < N → y < N → f x ≡ f y → x ≡ y

pub record SameCycle (f : ℕ → ℕ) (x y : ℕ) : Type 0 where
  pub steps : ℕ
  pub reach : iter f steps x ≡ y

unfoldable pub lowest : (ℕ → ℕ) → ℕ → ℕ → ℕ
lowest f zero x = x
lowest f (suc k) x = min x (lowest f k (f x))

unfoldable pub low : ℕ → (ℕ → ℕ) → ℕ → ℕ
unfolding lowest
low N f x = lowest f N x

-- whether x is the least of its cycle
unfoldable pub leads : ℕ → (ℕ → ℕ) → ℕ → Bool
unfolding low
leads N f x = eqb (low N f x) x

unfoldable pub cycles : ℕ → (ℕ → ℕ) → ℕ
unfolding count leads
cycles N f = count (leads N f) N
