-- Checks 1 and 3 to 7 of packing (document 01, the table) and 21 (document 02), each as a test beside the proposition that it
-- decides. Check 2 is about the memory lent, and stands with packing.
--
-- LengthsFit, lengths_fit == passes 1: the turning list is twice as long as the marks, and at most 4,096
-- EntriesFit, entries_fit == the entries are below 2m: what 3 asks where marks and start are not looked at
-- InRange, in_range       == passes 3: entries and start are below 2m, marks are 0 or 1
-- Distinct, distinct     == passes 4: no two entries are equal
-- Linked D S g h         == from end g one comes to end h by turning and by crossing borders of the set S
-- Joins, joins D S       == the borders of S join all points
-- Joined, joined         == passes 5: the marked borders do
-- Connected, connected   == passes 21: all borders do
-- mark_count D            == how many borders are marked
-- FewMarks, few_marks     == passes 6: at most n - 1 borders are marked
-- Alternate D a b        == borders a and b come as a, b, a, b in the tour
-- Crossing, crosses      == fails 7: two unmarked borders alternate in the tour
-- Flat                   == passes 7: no two do
-- smaller_first a b       == the two numbers, the smaller first
-- FirstCrossing D xs     == xs is the pair that 7 carries: of those that alternate the one with the lowest second a, then the lowest first b
-- Tour, tour_of D         == the borders along a tour; along that of D
-- alternate_at T r q      == two borders alternate in T, the second a at position r and the first b at q
-- crossed_at T r          == some two do, with the second a at r
-- crosses_in T            == some two do
-- second_a T, first_b T    == the lowest r for which some do, and the lowest q for that r
-- crossing_in T           == the borders at these two, the smaller first; nothing where none alternate
-- first_crossing D        == the pair that 7 carries, so found in the tour of D
-- FindsFirst D           == `crosses` and `first_crossing` are right
-- PassesFour             == passes 1 to 4, marks and start not looked at
-- PassesSix, PassesSeven == passes 1 to 6, 1 to 7
-- Assumes nothing.
use Rattle.std.specs.Prelude.{◌≡◌, ◌≢◌, ◌↔◌, Bool, true, false, not, ◌&&◌, List, [], ◌∷◌, map, ℕ, zero, suc, ◌*◌, ◌<◌, ◌≤◌, min, max, length, get_or, eqb, ltb, leb}
use Rattle.count.specs.Below.{pick, count, all, any, find, table}
use Rattle.answers.specs.Answer.{Kind}
use Rattle.drawing.specs.Drawing.{most_ends, Drawing, borders, ends, border, other, turn, is_marked, every_border, cell_of, cells, end_at}

-- 1: "turning list odd in length or over 4,096, or marks not half as long"
pub record LengthsFit (D : Drawing) : Type 0 where
  pub half : length D.turning ≡ 2 * length D.marks
  pub most : length D.turning ≤ most_ends

unfoldable pub lengths_fit : Drawing → Bool
lengths_fit D = eqb (length D.turning) (2 * length D.marks) && leb (length D.turning) most_ends

-- 3: "entry or start not below 2m (m = 0: start not 0), or mark over 1"
abbrev pub EntriesFit : Drawing → Type 0
EntriesFit D = (h : ℕ) → h < ends D → turn D h < ends D

unfoldable pub entries_fit : Drawing → Bool
unfolding all turn ends
entries_fit D = all (λ h. ltb (turn D h) (ends D)) (ends D)

pub record InRange (D : Drawing) : Type 0 where
  pub entries : EntriesFit D
  pub start : D.start < max (ends D) 1
  pub marks : (e : ℕ) → e < borders D → get_or D.marks e 0 ≤ 1

unfoldable pub in_range : Drawing → Bool
unfolding entries_fit all ends borders
in_range D =
    entries_fit D
    && ltb D.start (max (ends D) 1)
    && all (λ e. leb (get_or D.marks e 0) 1) (borders D)

-- 4: "two equal entries in the turning list"
pub record Distinct (D : Drawing) : Type 0 where
  pub differ : (i j : ℕ) → i < j → j < ends D → turn D i ≢ turn D j

unfoldable pub distinct : Drawing → Bool
unfolding all turn ends
distinct D = all (λ j. all (λ i. not (eqb (turn D i) (turn D j))) j) (ends D)

-- 5: "marked borders don't join all points". 02, 7/14: "21 when some two points have no path of borders". One relation over a set S
-- of borders: from end g one comes to end h by turning about points and crossing borders of S.
pub data Linked (D : Drawing) (S : ℕ → Bool) (g : ℕ) : ℕ → Type 0 where
  here : Linked D S g g
  turned : (h : ℕ) → Linked D S g h → Linked D S g (turn D h)
  across : (h : ℕ) → S (border h) ≡ true → Linked D S g h → Linked D S g (other h)

pub record Joins (D : Drawing) (S : ℕ → Bool) : Type 0 where
  pub link : (g h : ℕ) → g < ends D → h < ends D → Linked D S g h

abbrev pub Joined : Drawing → Type 0
Joined D = Joins D (is_marked D)

abbrev pub Connected : Drawing → Type 0
Connected D = Joins D every_border

-- The test gives each end its point for a label, and at each border of S makes the labels of its two ends one.
abbrev pub relabel : ℕ → ℕ → List ℕ → List ℕ
relabel a b ls = map (λ l. pick (eqb l a) b l) ls

abbrev pub merge_at : Bool → ℕ → List ℕ → List ℕ
merge_at true e ls = relabel (get_or ls (2 * e) 0) (get_or ls (suc (2 * e)) 0) ls
merge_at false e ls = ls

-- the labels after the first e borders
unfoldable pub labels : Drawing → (ℕ → Bool) → ℕ → List ℕ
unfolding table cell_of ends
labels D S zero = table (cell_of D Kind.point) (ends D)
labels D S (suc e) = merge_at (S e) e (labels D S e)

abbrev pub all_same : List ℕ → Bool
all_same [] = true
all_same (l ∷ ls) = all (λ i. eqb (get_or ls i 0) l) (length ls)

unfoldable pub joins : Drawing → (ℕ → Bool) → Bool
unfolding labels all borders
joins D S = all_same (labels D S (borders D))

unfoldable pub joined : Drawing → Bool
unfolding joins is_marked
joined D = joins D (is_marked D)

unfoldable pub connected : Drawing → Bool
unfolding joins
connected D = joins D every_border

-- 6: "they join all points and number more than n-1"
unfoldable pub mark_count : Drawing → ℕ
unfolding count is_marked borders
mark_count D = count (is_marked D) (borders D)

pub record FewMarks (D : Drawing) : Type 0 where
  pub fewer : mark_count D < cells D Kind.point

unfoldable pub few_marks : Drawing → Bool
unfolding mark_count cells
few_marks D = ltb (mark_count D) (cells D Kind.point)

-- 7: "two unmarked borders alternate: a, b, a, b in the tour"
pub record Alternate (D : Drawing) (a b : ℕ) : Type 0 where
  pub p : ℕ
  pub q : ℕ
  pub r : ℕ
  pub s : ℕ
  pub p_q : p < q
  pub q_r : q < r
  pub r_s : r < s
  pub s_end : s < ends D
  pub at_p : border (end_at D p) ≡ a
  pub at_q : border (end_at D q) ≡ b
  pub at_r : border (end_at D r) ≡ a
  pub at_s : border (end_at D s) ≡ b

pub record Crossing (D : Drawing) (a b : ℕ) : Type 0 where
  pub first_border : a < borders D
  pub second_border : b < borders D
  pub two : a ≢ b
  pub first_unmarked : is_marked D a ≡ false
  pub second_unmarked : is_marked D b ≡ false
  pub alternate : Alternate D a b

abbrev pub Flat : Drawing → Type 0
Flat D = (a b : ℕ) → Crossing D a b → ⊥

-- 02, 2/14: "Our map drawers repair from the start of the tour onwards. Refusal 7 now carries the alternating pair a, b, a, b whose
-- second a has the lowest place, and among those the one whose first b has the lowest place. The smaller number is still written
-- first." The second a stands at r, the first b at q.
abbrev pub smaller_first : ℕ → ℕ → List ℕ
smaller_first a b = min a b ∷ max a b ∷ []

pub record FirstCrossing (D : Drawing) (xs : List ℕ) : Type 0 where
  pub a : ℕ
  pub b : ℕ
  pub crossing : Crossing D a b
  pub lowest_a : (c d : ℕ) (X : Crossing D c d) → crossing.alternate.r ≤ X.alternate.r
  pub lowest_b : (c d : ℕ) (X : Crossing D c d) → X.alternate.r ≡ crossing.alternate.r → crossing.alternate.q ≤ X.alternate.q
  pub carried : xs ≡ smaller_first a b

-- The test searches a tour: its places, the border at each position, and which numbers are unmarked borders.
pub record Tour : Type 0 where
  pub size : ℕ
  pub at : ℕ → ℕ
  pub unmarked : ℕ → Bool

unfoldable pub tour_of : Drawing → Tour
unfolding ends borders border end_at is_marked
tour_of D =
    record {
      size = ends D;
      at = λ p. border (end_at D p);
      unmarked = λ e. ltb e (borders D) && not (is_marked D e);
    }

-- a, b, a, b with the second a at position r and the first b at position q: a stands before q as well, and b after r
unfoldable pub alternate_at : Tour → ℕ → ℕ → Bool
unfolding any
alternate_at T r q =
    T.unmarked (T.at r)
    && T.unmarked (T.at q)
    && not (eqb (T.at r) (T.at q))
    && any (λ p. eqb (T.at p) (T.at r)) q
    && any (λ s. ltb r s && eqb (T.at s) (T.at q)) T.size

-- position r has the second a of such a pair
unfoldable pub crossed_at : Tour → ℕ → Bool
unfolding any alternate_at
crossed_at T r = any (alternate_at T r) r

unfoldable pub crosses_in : Tour → Bool
unfolding any crossed_at
crosses_in T = any (crossed_at T) T.size

-- from the start of the tour onwards: the first position that has a second a, and the first position of a b for it
unfoldable pub second_a : Tour → ℕ
unfolding find crossed_at
second_a T = find (crossed_at T) T.size

unfoldable pub first_b : Tour → ℕ
unfolding find alternate_at second_a
first_b T = find (alternate_at T (second_a T)) (second_a T)

unfoldable pub crossing_in : Tour → List ℕ
unfolding crosses_in second_a first_b
crossing_in T = pick (crosses_in T) (smaller_first (T.at (second_a T)) (T.at (first_b T))) []

unfoldable pub crosses : Drawing → Bool
unfolding crosses_in tour_of
crosses D = crosses_in (tour_of D)

unfoldable pub first_crossing : Drawing → List ℕ
unfolding crossing_in tour_of
first_crossing D = crossing_in (tour_of D)

-- what the test and the search find: two borders exactly where some alternate, and then 2/14's pair and no other
pub record FindsFirst (D : Drawing) : Type 0 where
  pub exists : (crosses D ≡ true) ↔ ((a : ℕ) × (b : ℕ) × Crossing D a b)
  pub first : (xs : List ℕ) → FirstCrossing D xs ↔ ((crosses D ≡ true) × (xs ≡ first_crossing D))
  pub none : Flat D → first_crossing D ≡ []

pub record PassesFour (D : Drawing) : Type 0 where
  pub lengths : LengthsFit D
  pub range : EntriesFit D
  pub entries : Distinct D

pub record PassesSix (D : Drawing) : Type 0 where
  pub lengths : LengthsFit D
  pub range : InRange D
  pub entries : Distinct D
  pub joins : Joined D
  pub few : FewMarks D

pub record PassesSeven (D : Drawing) : Type 0 where
  pub six : PassesSix D
  pub flat : Flat D
