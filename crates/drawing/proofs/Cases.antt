-- Drawings on one or two points by computation: which starts are in range, the tour's length alone does not show a tree, how many
-- borders a tree has, which crossing is the first, in which order the areas across the sides are met, and when a drawing is
-- connected. Assumes nothing.
use mathlib.Core.Path.{◌≡◌, refl}
use mathlib.Core.Bool.{true, false}
use mathlib.Core.List.{List, [], ◌∷◌}
use Prim.Native.Nat.{ℕ, zero, suc, ◌<◌, ◌≤◌}
use native.Mathlib.Omega.{arith}
use lib.ListN.{get_or}
use Rattle.count.specs.Below.{count}
use Rattle.answers.specs.Answer.{answer, unsigned}
use Rattle.drawing.specs.Drawing.{Drawing, borders, ends, border, other, marked, cells, position_of}
use Rattle.drawing.specs.Checks.{in_range, Linked, joined, connected, few_marks, crosses, first_crossing}
use Rattle.drawing.specs.Tree.{SuggestedTree}
use Rattle.drawing.specs.Session.{Call}
use Rattle.drawing.specs.Book.{book_session, book_landings}

abbrev interlaced : List ℕ → Drawing
interlaced marks = record { turning = 2 ∷ 3 ∷ 1 ∷ 0 ∷ []; marks = marks; start = 0 }

abbrev nested : Drawing
nested = record { turning = 2 ∷ 0 ∷ 3 ∷ 1 ∷ []; marks = 0 ∷ 0 ∷ []; start = 0 }

-- unmarked borders on one point, each named twice: the tour meets them in this order
abbrev row : List ℕ → ℕ → Drawing
row turning start = record { turning = turning; marks = 0 ∷ 0 ∷ 0 ∷ []; start = start }

abbrev apart : Drawing
apart = record { turning = 0 ∷ 1 ∷ []; marks = 0 ∷ []; start = 0 }

abbrev loops : Drawing
loops = record { turning = 1 ∷ 0 ∷ 3 ∷ 2 ∷ []; marks = 1 ∷ 1 ∷ []; start = 0 }

-- one marked border, with this start
abbrev one : ℕ → Drawing
one start = record { turning = 0 ∷ 1 ∷ []; marks = 1 ∷ []; start = start }

-- a marked loop
abbrev loop : Drawing
loop = record { turning = 1 ∷ 0 ∷ []; marks = 1 ∷ []; start = 0 }

-- the two ends of a marked border are linked
both_linked : (g h : ℕ) → g < 2 → h < 2 → Linked apart (marked (1 ∷ [])) g h
unfolding border other
both_linked zero zero l k = Linked.here
both_linked zero (suc zero) l k = Linked.across 0 refl Linked.here
both_linked (suc zero) zero l k = Linked.across 1 refl Linked.here
both_linked (suc zero) (suc zero) l k = Linked.here
both_linked (suc (suc g)) h l k = absurd (omega arith)
both_linked zero (suc (suc h)) l k = absurd (omega arith)
both_linked (suc zero) (suc (suc h)) l k = absurd (omega arith)

one_mark : (e : ℕ) → e < 1 → get_or (1 ∷ []) e 0 ≤ 1
one_mark zero l = omega arith
one_mark (suc e) l = absurd (omega arith)

pub record Cases : Type 0 where
  -- 2m is no end
  pub starts_at_1 : in_range (one 1) ≡ true
  pub not_at_2 : in_range (one 2) ≡ false
  -- 01: "two interlaced marked loops on one point also tour all ends"
  pub tours_all : position_of (interlaced (1 ∷ 1 ∷ [])) 2 ≡ 3
  pub no_tree : few_marks (interlaced (1 ∷ 1 ∷ [])) ≡ false
  -- n marks are one too many
  pub marked_loop : few_marks loop ≡ false
  pub alternate : crosses (interlaced (0 ∷ 0 ∷ [])) ≡ true
  pub nest : crosses nested ≡ false
  pub nest_none : first_crossing nested ≡ []
  -- the tour is 0, 1, 2, 0, 1, 2: not 2, which comes last before the second 0
  pub not_the_last : first_crossing (row (2 ∷ 3 ∷ 4 ∷ 5 ∷ 1 ∷ 0 ∷ []) 0) ≡ 0 ∷ 1 ∷ []
  -- 0, 1, 2, 0, 2, 1: not 2, although it comes again before 1 does
  pub by_first_b : first_crossing (row (2 ∷ 5 ∷ 4 ∷ 0 ∷ 1 ∷ 3 ∷ []) 0) ≡ 0 ∷ 1 ∷ []
  -- 0, 1, 2, 1, 0, 2: not 0 and 2, although 0 is met before 1 is
  pub by_second_a : first_crossing (row (2 ∷ 5 ∷ 4 ∷ 1 ∷ 3 ∷ 0 ∷ []) 0) ≡ 1 ∷ 2 ∷ []
  -- 2, 0, 2, 0, 1, 1: the smaller first
  pub smaller_first : first_crossing (row (5 ∷ 2 ∷ 3 ∷ 4 ∷ 0 ∷ 1 ∷ []) 4) ≡ 0 ∷ 2 ∷ []
  -- a cross goes there, and the next one comes back; asking for the area leaves the place
  pub session_moves : book_session nested 1 (Call.cross ∷ Call.area ∷ Call.cross ∷ [])
      ≡ record { answers = answer (unsigned 4) ∷ answer (unsigned 2) ∷ answer (unsigned 1) ∷ []; place = 1 }
  -- 02, 8/14: the point's last place is 4; a turn there answers 1 with the sign, and turning back from 1 answers 4 with it
  pub turns_round : book_session nested 2 (Call.turn ∷ Call.turn ∷ Call.turn ∷ Call.turn_back ∷ [])
      ≡ record {
        answers = answer (unsigned 3) ∷ answer (unsigned 4) ∷ answer (record { value = 1; sign = true }) ∷ answer (record { value = 4; sign = true }) ∷ [];
        place = 4;
      }
  -- area 2 lies between the two loops: from its first place on, the inner one is crossed first
  pub in_walk_order : book_landings nested 2 ≡ 3 ∷ 1 ∷ []
  -- an unmarked border joins nothing
  pub not_joined : joined apart ≡ false
  -- but it is a path between its points; two loops on two points have none
  pub one_piece : connected apart ≡ true
  pub two_pieces : connected loops ≡ false
  -- and the one border of a tree: n - 1 borders, not n
  pub one_border : SuggestedTree apart (1 ∷ [])

pub cases : Cases
unfolding in_range position_of few_marks crosses first_crossing book_session book_landings joined connected borders ends cells count
cases =
    record {
      starts_at_1 = refl;
      not_at_2 = refl;
      tours_all = refl;
      no_tree = refl;
      marked_loop = refl;
      alternate = refl;
      nest = refl;
      nest_none = refl;
      not_the_last = refl;
      by_first_b = refl;
      by_second_a = refl;
      smaller_first = refl;
      session_moves = refl;
      turns_round = refl;
      in_walk_order = refl;
      not_joined = refl;
      one_piece = refl;
      two_pieces = refl;
      one_border =
          record { one_each = refl; binary = one_mark; number = refl; join = record { link = both_linked } };
    }
