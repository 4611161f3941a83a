-- What a string holds after one of its bits was written.
--
-- with_bit x r v  == the number x with bit r made v: the bits above, the bit, the bits below
-- set_bit s i v   == the bytes s with bit i made v (1 for true); s itself where i is past the end
-- Assumes nothing.
use Rattle.std.specs.Prelude.{Bool, List, ℕ, ◌+◌, ◌*◌, ◌/◌, ◌%◌, ◌^◌, get_or, set}
use Rattle.count.specs.Below.{pick}

unfoldable pub with_bit : ℕ → ℕ → Bool → ℕ
with_bit x r v = x / 2 ^ (r + 1) * 2 ^ (r + 1) + pick v 1 0 * 2 ^ r + x % 2 ^ r

unfoldable pub set_bit : List ℕ → ℕ → Bool → List ℕ
unfolding with_bit
set_bit s i v = set s (i / 8) (with_bit (get_or s (i / 8) 0) (i % 8) v)
