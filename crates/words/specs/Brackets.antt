-- Brackets of one family in a word of N letters. Positions count from 0: position p is document 01's place p + 1.
--
-- Bracket       == what a letter is to the family: it opens, it closes, or it is neither (of the other family)
-- stack b p     == the positions before p that open and are still open at p, innermost first
-- inner b p     == 0 where none is open just before p, else 1 + the position of the innermost open one (its place)
-- Balanced b N  == no closing meets an empty stack, and nothing is open at the end; balanced is its test
-- mate b N p    == the position of p's partner; p itself where p is neither
-- next N p      == the position after p, and 0 after the last; previous is its reverse
-- step b N p    == next of mate: the next position about the same point (area)
-- back b N p    == mate of previous: the reverse of step
-- number b p    == 1 + how many open at the positions before `inner b p`: the point's (area's) number
-- is_first, is_last == whether p is the first, the last position of its point (area)
-- first b N k   == the lowest position with number k; N where there is none
-- size b N k    == how many positions have number k
--
-- A point is what round brackets enclose, an area is what square brackets enclose: each definition stands once,
-- for both. Assumes nothing.
use Rattle.std.specs.Prelude.{◌≡◌, ◌≢◌, Bool, true, false, not, ◌&&◌, ◌||◌, ℕ, zero, suc, pred, ◌<◌, eqb}
use mathlib.Core.List.{List, [], ◌∷◌, tail}
use Rattle.count.specs.Below.{pick, count, all, find}

pub data Bracket : Type 0 where
  opens closes neither : Bracket

abbrev pub is_opens : Bracket → Bool
is_opens opens = true
is_opens closes = false
is_opens neither = false

abbrev pub is_closes : Bracket → Bool
is_closes opens = false
is_closes closes = true
is_closes neither = false

-- the stack after the bracket at position p
abbrev pub push : Bracket → ℕ → List ℕ → List ℕ
push opens p s = p ∷ s
push closes p s = tail s
push neither p s = s

unfoldable pub stack : (ℕ → Bracket) → ℕ → List ℕ
stack b zero = []
stack b (suc p) = push (b p) p (stack b p)

abbrev pub top : List ℕ → ℕ
top [] = 0
top (q ∷ s) = suc q

unfoldable pub inner : (ℕ → Bracket) → ℕ → ℕ
unfolding stack
inner b p = top (stack b p)

pub record Balanced (b : ℕ → Bracket) (N : ℕ) : Type 0 where
  pub closing : (p : ℕ) → p < N → b p ≡ closes → inner b p ≢ 0
  pub end : inner b N ≡ 0

unfoldable pub balanced : (ℕ → Bracket) → ℕ → Bool
unfolding all inner
balanced b N = eqb (inner b N) 0 && all (λ p. not (is_closes (b p) && eqb (inner b p) 0)) N

-- the closing that takes p off the stack, or N
unfoldable pub closer : (ℕ → Bracket) → ℕ → ℕ → ℕ
unfolding find inner
closer b N p = find (λ q. is_closes (b q) && eqb (inner b q) (suc p)) N

unfoldable pub mate : (ℕ → Bracket) → ℕ → ℕ → ℕ
unfolding closer inner
mate b N p = elim (b p) [ opens ↦ closer b N p | closes ↦ pred (inner b p) | neither ↦ p ]

unfoldable pub next : ℕ → ℕ → ℕ
next N p = pick (eqb (suc p) N) 0 (suc p)

unfoldable pub previous : ℕ → ℕ → ℕ
previous N p = pick (eqb p 0) (pred N) (pred p)

unfoldable pub step : (ℕ → Bracket) → ℕ → ℕ → ℕ
unfolding next mate
step b N p = next N (mate b N p)

unfoldable pub back : (ℕ → Bracket) → ℕ → ℕ → ℕ
unfolding previous mate
back b N p = mate b N (previous N p)

-- 01, Tour: "1 if no [ before place i is still open just before it. Otherwise 1 plus the rank among all [ of the
-- innermost open one." A rank counts the bracket itself. The same with ( gives the point of a place.
unfoldable pub number : (ℕ → Bracket) → ℕ → ℕ
unfolding count inner
number b p = suc (count (λ q. is_opens (b q)) (inner b p))

unfoldable pub is_first : (ℕ → Bracket) → ℕ → Bool
unfolding inner
is_first b p = eqb (inner b p) p

-- 01, Moves: "the point's last place: the ) that leaves it; for point 1 it is place 2m or, if that is a ), the ( it
-- closes". The mate of the last position is that ( or, where it is no bracket of the family, the last position itself.
unfoldable pub is_last : (ℕ → Bracket) → ℕ → ℕ → Bool
unfolding mate
is_last b N p = is_closes (b p) || eqb (mate b N (pred N)) p

unfoldable pub first : (ℕ → Bracket) → ℕ → ℕ → ℕ
unfolding find number
first b N k = find (λ p. eqb (number b p) k) N

unfoldable pub size : (ℕ → Bracket) → ℕ → ℕ → ℕ
unfolding count number
size b N k = count (λ p. eqb (number b p) k) N
