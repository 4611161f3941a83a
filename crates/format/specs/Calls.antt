-- Every call on map bytes, as a total function of the bytes and numbers (document 01, "Moves").
--
-- move_in w c p        == the number that the call c answers at position p of the word w
-- sign_in w c p        == whether the call c goes round the point there
-- reply_in w c p       == both
-- place_checks s i     == the checks of a call about the place i: opening's, then 13
-- map_answer s c i     == the call c at place i of the map s
-- cross_of, turn_of, turn_back_of, along_of, point_of, area_of == the six, by name; only the turns have a sign
-- map_session s i cs   == a session on the map s
-- number_check z c k   == 14 or 15: whether there is a point or area k on a map of size z
-- cell_checks s c k    == the checks of a call about the point or area k: opening's, then 14 or 15
-- first_of, size_of     == first place, and degree or sides, of a point or an area of the map s
-- neighbours_in, neighbours_of == the neighbour count of an area of a word, of the map s
-- landings_in w k      == the areas across the sides of area k of a word, one for each side
-- join_checks s u v    == the checks of a call about two points: opening's, then 14 of each
-- joining_of s u v     == the joining border of points u and v
-- Assumes nothing.
use Rattle.std.specs.Prelude.{Bool, true, false, ◌&&◌, List, [], ◌∷◌, ◌++◌, ℕ, zero, suc, pred, ◌≤◌, eqb, ltb, leb}
use Rattle.count.specs.Below.{pick}
use Rattle.answers.specs.Checks.{Check, check, after}
use Rattle.answers.specs.Answer.{Answer, Reply, plain, Kind, no_such}
use Rattle.answers.specs.declared.given.Size.{Size}
use Rattle.words.specs.Brackets.{step, back, number, is_first, is_last, first, size}
use Rattle.words.specs.declared.family.Family.{Family}
use Rattle.words.specs.declared.family.Family.TheVariants.{Round as round, Square as square}
use Rattle.words.specs.Word.{Word, seen, mate_in}
use Rattle.drawing.specs.Session.{Call, Outcome, session}
use Rattle.drawing.specs.Neighbours.{neighbours, landings}
use Rattle.format.specs.Bytes.{areas_of, size_in, bits_a, word_in}
use Rattle.format.specs.Open.{open_checks, open_of}

-- a point is what round brackets enclose, an area is what square brackets enclose
abbrev pub family_of_kind : Kind → Family
family_of_kind Kind.point = round
family_of_kind Kind.area = square

-- 01, Moves: "Cross: the place of the other end. Turn: the next place about the point"; "Turn back: the reverse"; "Along: the
-- next place of the area walk. Point and area of a place." 02, 8/14: "Turn at a point's last place now answers its first place,
-- and turn back at the first answers the last"
unfoldable pub move_in : Word → Call → ℕ → ℕ
unfolding seen mate_in step back number
move_in w Call.cross p = suc (mate_in w p)
move_in w Call.turn p = suc (step (seen round w) w.size p)
move_in w Call.turn_back p = suc (back (seen round w) w.size p)
move_in w Call.along p = suc (step (seen square w) w.size p)
move_in w Call.point p = number (seen round w) p
move_in w Call.area p = number (seen square w) p

-- 02, 8/14: "each with a sign that it has gone round"; "no other turn has the sign"
unfoldable pub sign_in : Word → Call → ℕ → Bool
unfolding seen is_first is_last
sign_in w Call.cross p = false
sign_in w Call.turn p = is_last (seen round w) w.size p
sign_in w Call.turn_back p = is_first (seen round w) p
sign_in w Call.along p = false
sign_in w Call.point p = false
sign_in w Call.area p = false

abbrev pub reply_in : Word → Call → ℕ → Reply
reply_in w c p = record { value = move_in w c p; sign = sign_in w c p }

-- 13: "place not 1 to 2m". 01: "Every call on map bytes runs 8 to 12, then its own"
abbrev pub place_checks : List ℕ → ℕ → List Check
place_checks s i =
    open_checks s ++ (check 13 (ltb 0 i && leb i (bits_a (size_in s))) ((1 ≤ i) × (i ≤ bits_a (size_in s))) ∷ [])

unfoldable pub map_answer : List ℕ → Call → ℕ → Answer Reply
unfolding open_of move_in sign_in word_in
map_answer s c i = after (place_checks s i) (reply_in (word_in s) c (pred i))

unfoldable pub cross_of : List ℕ → ℕ → Answer ℕ
unfolding map_answer
cross_of s i = plain (map_answer s Call.cross i)

unfoldable pub turn_of : List ℕ → ℕ → Answer Reply
unfolding map_answer
turn_of s i = map_answer s Call.turn i

unfoldable pub turn_back_of : List ℕ → ℕ → Answer Reply
unfolding map_answer
turn_back_of s i = map_answer s Call.turn_back i

unfoldable pub along_of : List ℕ → ℕ → Answer ℕ
unfolding map_answer
along_of s i = plain (map_answer s Call.along i)

unfoldable pub point_of : List ℕ → ℕ → Answer ℕ
unfolding map_answer
point_of s i = plain (map_answer s Call.point i)

unfoldable pub area_of : List ℕ → ℕ → Answer ℕ
unfolding map_answer
area_of s i = plain (map_answer s Call.area i)

-- 01: "on the packed map too the place passes from call to call as in the book"
unfoldable pub map_session : List ℕ → ℕ → List Call → Outcome
unfolding session map_answer
map_session s i cs = session (map_answer s) i cs

-- 14: "point not 1 to n"; 15: "area not 1 to m-n+2"
abbrev pub cells_in : Size → Kind → ℕ
cells_in z Kind.point = z.n
cells_in z Kind.area = areas_of z

abbrev pub is_number : Size → Kind → ℕ → Bool
is_number z c k = ltb 0 k && leb k (cells_in z c)

abbrev pub number_check : Size → Kind → ℕ → Check
number_check z c k = check (no_such c) (is_number z c k) ((1 ≤ k) × (k ≤ cells_in z c))

abbrev pub cell_checks : List ℕ → Kind → ℕ → List Check
cell_checks s c k = open_checks s ++ (number_check (size_in s) c k ∷ [])

-- 01, Moves: "First place of a point: 1 for point 1, else the place after the ( that reaches it. First place of an area: its
-- lowest. Both are 0 if m = 0." The lowest place of a point is the place after the ( that reaches it.
unfoldable pub first_in : Word → Kind → ℕ → ℕ
unfolding first seen
first_in w c k = pick (eqb w.size 0) 0 (suc (first (seen (family_of_kind c) w) w.size k))

unfoldable pub first_of : List ℕ → Kind → ℕ → Answer ℕ
unfolding open_of first_in word_in
first_of s c k = after (cell_checks s c k) (first_in (word_in s) c k)

-- 01, Moves: "Degree of a point and sides of an area: how many places have that number."
unfoldable pub places_in : Word → Kind → ℕ → ℕ
unfolding size seen
places_in w c k = size (seen (family_of_kind c) w) w.size k

unfoldable pub size_of : List ℕ → Kind → ℕ → Answer ℕ
unfolding open_of places_in word_in
size_of s c k = after (cell_checks s c k) (places_in (word_in s) c k)

-- 02, 3/14: "The area across a side is the area of its crossing. The neighbour count becomes the number of other areas across at
-- least one side." There are v areas.
unfoldable pub neighbours_in : Word → ℕ → ℕ → ℕ
unfolding neighbours number seen mate_in
neighbours_in w v k = neighbours (number (seen square w)) (mate_in w) w.size v k

unfoldable pub neighbours_of : List ℕ → ℕ → Answer ℕ
unfolding open_of neighbours_in word_in
neighbours_of s k = after (cell_checks s Kind.area k) (neighbours_in (word_in s) (cells_in (size_in s) Kind.area) k)

-- 02, 4/14: "one for each side, in walk order from the area's first place"
unfoldable pub landings_in : Word → ℕ → List ℕ
unfolding landings number seen mate_in step places_in first
landings_in w k =
    landings (number (seen square w)) (mate_in w) (step (seen square w) w.size) (places_in w Kind.area k) (first (seen square w) w.size k)

-- the first of k places from position p on, in turning order, whose crossing lands at point v; 0 where none does
unfoldable pub join_in : Word → ℕ → ℕ → ℕ → ℕ
unfolding number seen mate_in step
join_in w v zero p = 0
join_in w v (suc k) p =
    elim (eqb (number (seen round w) (mate_in w p)) v) [ true ↦ suc p | false ↦ join_in w v k (step (seen round w) w.size p) ]

-- 01, Moves: "the search stops at the first place about u, in turning order, whose crossing lands at v, and answers that
-- place. It answers 0 if none does."
abbrev pub join_checks : List ℕ → ℕ → ℕ → List Check
join_checks s u v = cell_checks s Kind.point u ++ (number_check (size_in s) Kind.point v ∷ [])

unfoldable pub joining_of : List ℕ → ℕ → ℕ → Answer ℕ
unfolding open_of join_in word_in places_in first seen
joining_of s u v =
    after (join_checks s u v)
    (join_in (word_in s) v (places_in (word_in s) Kind.point u) (first (seen round (word_in s)) (word_in s).size u))
