-- The sizes of all points (areas) add up to the number of positions, and one that has positions has a first.
--
-- size_sum      == the sizes of the numbers 1 .. 1 + the openings add up to n
-- first_below   == the first position of a number that some position has is one of the n
-- Assumes nothing.
use mathlib.Core.Path.{◌≡◌}
use mathlib.Core.Logic.{inl, inr}
use mathlib.Core.Bool.{Bool}
use Prim.Native.Nat.{ℕ, ◌+◌, ◌<◌}
use native.Mathlib.Omega.{arith}
use lib.Dec.{eqb}
use Rattle.count.specs.Below.{find, total}
use Rattle.count.proofs.Logic.{lt_or_ge}
use Rattle.count.proofs.Below.{find_not, count_none}
use Rattle.count.proofs.Totals.{count_classes}
use Rattle.words.specs.Brackets.{Bracket, first, size, number}
use Rattle.words.proofs.Numbers.{openings, number_positive, number_range}

pub size_sum : (b : ℕ → Bracket) (n : ℕ) → total (size b n) (1 + openings b n) ≡ n
unfolding size
size_sum b n = count_classes (number b) n (1 + openings b n) (λ p l. (number_positive b p, number_range b n p l))

pub first_below : (b : ℕ → Bracket) (n k : ℕ) → 0 < size b n k → first b n k < n
unfolding first size
first_below b n k some =
    let has : ℕ → Bool = λ p. eqb (number b p) k in
    elim (lt_or_ge (find has n) n) [
      | inl l ↦ l
      | inr g ↦ absurd (omega (arith, count_none has n (λ p l. find_not has n p (omega arith))))
    ]
