-- Numbers right-aligned in columns.
--
-- aligned_length  == a number that needs no further column takes exactly the columns
-- aligned_within  == so does a number below the (n + 1)-th power of ten in n + 1 columns or more
-- Assumes nothing.
use mathlib.Core.Path.{◌≡◌, ap, ◌∙◌}
use Prim.Native.Nat.{ℕ, suc, ◌+◌, ◌-◌, ◌^◌, ◌≤◌, ◌<◌}
use native.Mathlib.Omega.{arith}
use lib.ListN.{length, replicate, length-append, length-replicate}
use Rattle.text.specs.Decimal.{space, decimal, aligned}
use Rattle.text.proofs.Short.{decimal_length}

aligned_long : (w x : ℕ) → length (aligned w x) ≡ (w - length (decimal x)) + length (decimal x)
unfolding aligned
aligned_long w x =
    length-append (replicate (w - length (decimal x)) space) (decimal x)
    ∙ ap (λ k. k + length (decimal x)) (length-replicate (w - length (decimal x)) space)

pub aligned_length : (w x : ℕ) → length (decimal x) ≤ w → length (aligned w x) ≡ w
aligned_length w x h = omega (arith, aligned_long w x)

pub aligned_within : (n w x : ℕ) → x < 10 ^ suc n → suc n ≤ w → length (aligned w x) ≡ w
aligned_within n w x h l = let d = decimal_length n x h in aligned_length w x (omega arith)
