-- The drawing and its tour (document 01, "The drawing" and "Tour and packed map").
--
-- most_borders, most_ends == m at most, 2m at most
-- Drawing          == turning list (rotation system), marks, start
-- lent ts ms s     == the drawing lent as the turning list ts, the marks ms and the start s
-- borders D        == m, the number of borders (edges)
-- ends D           == 2m, the number of ends (half-edges, darts)
-- other h          == the other end of h's border
-- border h         == the border of end h
-- turn D h         == the turning-list entry of end h: the next end counterclockwise about its point
-- marked ms e      == whether the marks ms have border e in the spanning tree
-- is_marked D e     == whether border e is of the spanning tree
-- every_border e    == the set of all borders
-- over S h         == h's other end if its border is in the set S, else h itself
-- walk D S h       == the turning-list entry of `over S h`: cross if the border is in S, then turn
-- around D c h     == the next end about h's point, or on h's area walk
-- cell_of D c h     == the point (area) of end h, named by its least end
-- cells D c        == the number of points (n), of areas
-- end_at D p        == the end at position p of the tour; position p is place p + 1
-- position_of D h   == the position of end h in the tour; 2m where the tour does not meet it
-- is_second D p     == whether position p is its border's second place in the tour
-- Assumes nothing.
use Rattle.std.specs.Prelude.{Bool, true, false, List, ℕ, suc, pred, ◌*◌, ◌/◌, ◌%◌, length, get_or, eqb}
use Rattle.count.specs.Below.{pick, any, find}
use Rattle.answers.specs.Answer.{Kind}
use Rattle.orbits.specs.Cycles.{iter, low, cycles}

-- 01: "m at most 2,048"; check 1: a "turning list .. over 4,096" is refused
abbrev pub most_borders : ℕ
most_borders = 2048

abbrev pub most_ends : ℕ
most_ends = 2 * most_borders

-- 01: "entry h is the end that follows end h counterclockwise about its point"; "one byte per border"; "an end number"
pub record Drawing : Type 0 where
  pub turning : List ℕ
  pub marks : List ℕ
  pub start : ℕ

abbrev pub lent : List ℕ → List ℕ → ℕ → Drawing
lent ts ms s = record { turning = ts; marks = ms; start = s }

-- 01: "It has m borders"; "The mark list has one byte per border"
unfoldable pub borders : Drawing → ℕ
borders D = length D.marks

unfoldable pub ends : Drawing → ℕ
unfolding borders
ends D = 2 * borders D

-- 01: "Border e has two ends, 2e and 2e+1. Each is the other's other end."
unfoldable pub border : ℕ → ℕ
border h = h / 2

unfoldable pub other : ℕ → ℕ
other h = pick (eqb (h % 2) 0) (suc h) (pred h)

unfoldable pub turn : Drawing → ℕ → ℕ
turn D h = get_or D.turning h 0

-- 01: "1 for a border of the spanning tree, else 0"
abbrev pub marked : List ℕ → ℕ → Bool
marked ms e = eqb (get_or ms e 0) 1

unfoldable pub is_marked : Drawing → ℕ → Bool
is_marked D e = marked D.marks e

abbrev pub every_border : ℕ → Bool
every_border e = true

unfoldable pub over : (ℕ → Bool) → ℕ → ℕ
unfolding border other
over S h = pick (S (border h)) (other h) h

unfoldable pub walk : Drawing → (ℕ → Bool) → ℕ → ℕ
unfolding turn over
walk D S h = turn D (over S h)

-- 01: "A point is one cycle of that list." About a point no border is crossed. "An area walk repeats: from end h go to
-- the turning-list entry of h's other end." Along an area every border is crossed.
abbrev pub crossed : Kind → ℕ → Bool
crossed Kind.point e = false
crossed Kind.area e = true

unfoldable pub around : Drawing → Kind → ℕ → ℕ
unfolding walk
around D c h = walk D (crossed c) h

unfoldable pub cell_of : Drawing → Kind → ℕ → ℕ
unfolding low ends around
cell_of D c h = low (ends D) (around D c) h

-- 01: "n is the number of points. With m = 0 there is one point." One area too.
unfoldable pub cells : Drawing → Kind → ℕ
unfolding borders cycles ends around
cells D c = pick (eqb (borders D) 0) 1 (cycles (ends D) (around D c))

-- 01: "The tour begins at the start. After a marked end comes the turning-list entry of its other end, after an unmarked
-- end its own entry."
unfoldable pub end_at : Drawing → ℕ → ℕ
unfolding iter walk is_marked
end_at D p = iter (walk D (is_marked D)) p D.start

unfoldable pub position_of : Drawing → ℕ → ℕ
unfolding find end_at ends
position_of D h = find (λ p. eqb (end_at D p) h) (ends D)

-- the border was met before
unfoldable pub is_second : Drawing → ℕ → Bool
unfolding any border end_at
is_second D p = any (λ q. eqb (border (end_at D q)) (border (end_at D p))) p
