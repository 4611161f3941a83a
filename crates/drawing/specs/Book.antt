-- The drawing's book, the reference model: it has only the drawing and its tour (document 01, "The drawing's book").
--
-- place_of D h        == the place that the tour gives end h
-- low_position D c h  == the lowest position among the ends of h's point (area)
-- is_lowest D c h     == whether h's own position is that
-- number_at D c h     == the number of h's point (area): 1 for the one with the lowest place, and so on upwards
-- entry_to D h        == the end whose entry is h
-- answer_at D c h     == the number that the book answers to the call c at end h
-- sign_at D c h       == whether the call c goes round the point at end h
-- reply_at D c h      == both
-- book_answer D c i   == the book's answer to the call c at place i
-- book_session D i cs == a session on the book
-- has_number D c k    == whether k is one of the numbers 1 to the number of points (areas)
-- first_position D c k == the lowest position on the point (area) k
-- ends_on D c k       == how many ends are on the point (area) k
-- book_first, book_size, book_neighbours, book_joining == the book on point and area numbers
-- book_landings D k   == the areas across the sides of area k, one for each side
-- Assumes nothing.
use Rattle.std.specs.Prelude.{Bool, true, false, ◌&&◌, List, ℕ, zero, suc, pred, eqb, ltb, leb}
use Rattle.count.specs.Below.{pick, find, count}
use Rattle.answers.specs.Answer.{Answer, answer, refused, Reply, Kind, no_such}
use Rattle.drawing.specs.Drawing.{Drawing, borders, ends, other, turn, around, cell_of, cells, end_at, position_of}
use Rattle.drawing.specs.Neighbours.{neighbours, landings}
use Rattle.drawing.specs.Session.{Call, Outcome, session}

-- 01: "its tour, which gives each end its place"
unfoldable pub place_of : Drawing → ℕ → ℕ
unfolding position_of
place_of D h = suc (position_of D h)

unfoldable pub low_position : Drawing → Kind → ℕ → ℕ
unfolding find cell_of end_at ends
low_position D c h = find (λ p. eqb (cell_of D c (end_at D p)) (cell_of D c h)) (ends D)

unfoldable pub is_lowest : Drawing → Kind → ℕ → Bool
unfolding low_position position_of
is_lowest D c h = eqb (position_of D h) (low_position D c h)

-- 01: "the points are numbered from 1 by their lowest places, lowest first, and the answer is the number of the one h is
-- on. Area: the same with area walks."
unfoldable pub number_at : Drawing → Kind → ℕ → ℕ
unfolding count low_position end_at
number_at D c h = suc (count (λ p. eqb (low_position D c (end_at D p)) p) (low_position D c h))

unfoldable pub entry_to : Drawing → ℕ → ℕ
unfolding find turn ends
entry_to D h = find (λ g. eqb (turn D g) h) (ends D)

-- 01: "Cross answers the place of h's other end. Turn answers the place of h's entry"; "Turn back answers the place of the end
-- whose entry is h"; "Along answers the place of the entry of h's other end." 02, 8/14: the turns do so at every end, and "what
-- was said of a turn's 0 ends here"
unfoldable pub answer_at : Drawing → Call → ℕ → ℕ
unfolding place_of other turn entry_to around number_at
answer_at D Call.cross h = place_of D (other h)
answer_at D Call.turn h = place_of D (turn D h)
answer_at D Call.turn_back h = place_of D (entry_to D h)
answer_at D Call.along h = place_of D (around D Kind.area h)
answer_at D Call.point h = number_at D Kind.point h
answer_at D Call.area h = number_at D Kind.area h

-- 02, 8/14: "Turn at a point's last place now answers its first place, and turn back at the first answers the last, each with a
-- sign that it has gone round. The book does the same, and no other turn has the sign." Of a turn the place arrived at is then
-- the lowest about the point, of a turn back h's own.
unfoldable pub sign_at : Drawing → Call → ℕ → Bool
unfolding is_lowest turn
sign_at D Call.cross h = false
sign_at D Call.turn h = is_lowest D Kind.point (turn D h)
sign_at D Call.turn_back h = is_lowest D Kind.point h
sign_at D Call.along h = false
sign_at D Call.point h = false
sign_at D Call.area h = false

abbrev pub reply_at : Drawing → Call → ℕ → Reply
reply_at D c h = record { value = answer_at D c h; sign = sign_at D c h }

-- 01: "If the place is not 1 to 2m, every call gets 13 and the place stays. Otherwise h is the end at that place."
unfoldable pub book_answer : Drawing → Call → ℕ → Answer Reply
unfolding ends answer_at sign_at end_at
book_answer D c i = pick (ltb 0 i && leb i (ends D)) (answer (reply_at D c (end_at D (pred i)))) (refused 13)

unfoldable pub book_session : Drawing → ℕ → List Call → Outcome
unfolding session book_answer
book_session D i cs = session (book_answer D) i cs

unfoldable pub has_number : Drawing → Kind → ℕ → Bool
unfolding cells
has_number D c k = ltb 0 k && leb k (cells D c)

-- the lowest position on the point (area) k; 2m where there is none
unfoldable pub first_position : Drawing → Kind → ℕ → ℕ
unfolding find number_at end_at ends
first_position D c k = find (λ p. eqb (number_at D c (end_at D p)) k) (ends D)

-- 01: "First place is the lowest on that point or area walk"; under Moves: "Both are 0 if m = 0."
unfoldable pub book_first : Drawing → Kind → ℕ → Answer ℕ
unfolding has_number borders first_position
book_first D c k =
    pick (has_number D c k) (answer (pick (eqb (borders D) 0) 0 (suc (first_position D c k)))) (refused (no_such c))

-- 01: "degree and sides count its ends"
unfoldable pub ends_on : Drawing → Kind → ℕ → ℕ
unfolding count number_at ends
ends_on D c k = count (λ h. eqb (number_at D c h) k) (ends D)

unfoldable pub book_size : Drawing → Kind → ℕ → Answer ℕ
unfolding has_number ends_on
book_size D c k = pick (has_number D c k) (answer (ends_on D c k)) (refused (no_such c))

-- 02, 3/14: "The neighbour count becomes the number of other areas across at least one side." The book: "read with the book's
-- crossings, numbers".
unfoldable pub book_neighbours : Drawing → ℕ → Answer ℕ
unfolding has_number neighbours number_at other ends cells
book_neighbours D k =
    pick (has_number D Kind.area k) (answer (neighbours (number_at D Kind.area) other (ends D) (cells D Kind.area) k)) (refused 15)

-- 02, 4/14: "one for each side, in walk order from the area's first place"
unfoldable pub book_landings : Drawing → ℕ → List ℕ
unfolding landings number_at other around ends_on end_at first_position
book_landings D k =
    landings (number_at D Kind.area) other (around D Kind.area) (ends_on D Kind.area k) (end_at D (first_position D Kind.area k))

-- the place of the first of k ends from h on, in turning order, whose other end is on point v; 0 where none is
unfoldable pub join_from : Drawing → ℕ → ℕ → ℕ → ℕ
unfolding number_at other place_of turn
join_from D v zero h = 0
join_from D v (suc k) h = elim (eqb (number_at D Kind.point (other h)) v) [ true ↦ place_of D h | false ↦ join_from D v k (turn D h) ]

-- 01, Moves: "the search stops at the first place about u, in turning order, whose crossing lands at v, and answers that
-- place. It answers 0 if none does." The book: "once round from the first place of u".
unfoldable pub book_joining : Drawing → ℕ → ℕ → Answer ℕ
unfolding has_number join_from ends_on end_at first_position
book_joining D u v =
    pick (has_number D Kind.point u && has_number D Kind.point v)
    (answer (join_from D v (ends_on D Kind.point u) (end_at D (first_position D Kind.point u))))
    (refused 14)
