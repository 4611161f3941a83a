-- What the demands of document 01 say of the definitions: one record for each theorem of proofs/Demands.antt.
--
-- marked_at D p        == whether the border at position p of the tour is marked
-- turan_bytes D        == the header and Turán's three strings for the drawing's tour, straight from the drawing
-- Exact D work out    == demand 2: what packing gives
-- left_in s ts ms      == the drawing that unpacking s leaves in the lists ts and ms
-- RoundTrip s         == demand 2: an opened byte string unpacks to a drawing that packs to the same bytes
-- RoundTrips          == demand 2: that of every byte string that opens, and the way back
-- Demand2             == the whole of demand 2
-- Sessions D s        == demand 3: every session on the map s is the book's session
-- Numbers D s         == demand 3: first places, degrees, sides, neighbour counts and joining borders on s are the book's
-- Factors D s         == demand 3: the factor of every area of s is the book's, whatever the two lists lent are
-- SameCell D s c ask  == two places of the map s get one number from `ask` exactly if they are of one point (area)
-- LastPlace w p, FirstPlace w p == position p is the last, the first of its point, in document 01's words
-- Turned ask From To s p == where the turn `ask` leads from position p of the map s: about the same point, and with the sign exactly from a
--                        `From`, exactly to a `To`
-- TurnSigns s p       == that of a turn, from the last place of a point to its first, and of a turn back
-- CellCounts D        == there are n points and m - n + 2 areas, and the sizes of each add up to 2m
-- HasNumber D c       == the numbers that the book knows are those that some end has
-- Agrees D s          == the whole of demand 3, of the drawing D and the map s, and of its printed schedule
-- Assumes nothing.
use Rattle.std.specs.Prelude.{◌≡◌, ◌≢◌, ◌⊎◌, ◌↔◌, Bool, true, false, not, List, [], ◌++◌, ℕ, suc, pred, ◌+◌, ◌*◌, ◌≤◌, ◌<◌, Float, length, take}
use Rattle.count.specs.Below.{table, gather, total}
use Rattle.answers.specs.Lent.{laid, leaves}
use Rattle.answers.specs.Answer.{Answer, answer, refused_with, number_of, Reply, Kind}
use Rattle.orbits.specs.Cycles.{SameCycle}
use Rattle.words.specs.Brackets.{closes, first, number}
use Rattle.words.specs.declared.family.Family.TheVariants.{Round as round}
use Rattle.words.specs.Word.{Word, seen, mate_in}
use Rattle.bits.specs.Letters.{closing_bit}
use Rattle.drawing.specs.Drawing.{Drawing, borders, ends, border, is_marked, around, cells, end_at, is_second, lent}
use Rattle.drawing.specs.Renumbered.{renumbered}
use Rattle.drawing.specs.Checks.{PassesSix, PassesSeven, Crossing, first_crossing, FirstCrossing}
use Rattle.drawing.specs.Session.{Call}
use Rattle.drawing.specs.Book.{book_session, book_first, book_size, book_neighbours, book_joining, number_at, has_number, ends_on}
use Rattle.format.specs.Bytes.{header_of, size_in, written_areas, word_in, bytes_of, longest, map_length}
use Rattle.format.specs.Open.{Opens, open_of}
use Rattle.format.specs.Calls.{map_session, turn_of, turn_back_of, point_of, area_of, first_of, size_of, neighbours_of, joining_of}
use Rattle.format.specs.Pack.{Room, size_for, packed_bytes, pack_of, unpack_of}
use Rattle.tariff.specs.Book.{book_factor}
use Rattle.tariff.specs.Maps.{factor_of}
use Rattle.text.specs.Schedule.{book_rows, schedule_text, schedule_of}

abbrev pub marked_at : Drawing → ℕ → Bool
marked_at D p = is_marked D (border (end_at D p))

-- 01: "A: bit i is 1 if place i is of a marked border. B: for the marked places in order, 0 at a border's first place, 1 at its
-- second. B* is the same for the unmarked ones. Bytes: m, then n, each two bytes, low byte first. Then A, B and B*, each from a
-- fresh byte, first bit in the lowest bit, unused bits 0." 02, 6/14: "Two bytes, low first, follow n and hold m-n+2."
unfoldable pub turan_bytes : Drawing → List ℕ
unfolding table gather is_marked border end_at is_second ends borders cells bytes_of
turan_bytes D =
    header_of (size_for D)
    ++ (bytes_of (table (λ p. closing_bit (marked_at D p)) (ends D))
    ++ (bytes_of (gather (marked_at D) (λ p. closing_bit (is_second D p)) (ends D))
    ++ bytes_of (gather (λ p. not (marked_at D p)) (λ p. closing_bit (is_second D p)) (ends D))))

-- Demand 2: "Packing writes exactly Turán's three strings for the drawing's tour, and reports a crossing exactly when two
-- unmarked borders alternate in it, the earlier checks being passed." 02, 2/14: it then carries the first pair that does (`pair`,
-- `found`), and where a, b, a, b stand at p, q, r, s, the one at r is the "second a" and the one at q the "first b" (`places`); no other
-- refusal carries anything (`bare`).
pub record Exact (D : Drawing) (work out : ℕ) : Type 0 where
  pub bytes : turan_bytes D ≡ packed_bytes D
  pub writes : (s : List ℕ) → (pack_of D work out ≡ answer s) ↔ (Room D work out × PassesSeven D × (s ≡ turan_bytes D))
  pub crosses : (number_of (pack_of D work out) ≡ 7) ↔ (Room D work out × PassesSix D × ((a : ℕ) × (b : ℕ) × Crossing D a b))
  pub pair : (xs : List ℕ) → (pack_of D work out ≡ refused_with 7 xs) ↔ (Room D work out × PassesSix D × FirstCrossing D xs)
  pub found : number_of (pack_of D work out) ≡ 7 → pack_of D work out ≡ refused_with 7 (first_crossing D)
  pub places : PassesSix D → (a b : ℕ) (X : Crossing D a b) → (is_second D X.alternate.r ≡ true) × (is_second D X.alternate.q ≡ false)
  pub bare : (k : ℕ) (xs : List ℕ) → pack_of D work out ≡ refused_with k xs → k ≢ 7 → xs ≡ []
  pub long : PassesSeven D → length (turan_bytes D) ≡ map_length (size_for D)
  pub fits : PassesSeven D → length (turan_bytes D) ≤ longest

-- the drawing, with start 0, that stands in the first 2m entries and the first m marks of lists after the map s was unpacked
-- into them
abbrev pub left_in : List ℕ → List ℕ → List ℕ → Drawing
left_in s turning marks =
    let a : Answer Drawing = unpack_of s (length turning) (length marks) in
    lent (take (2 * (size_in s).m) (leaves (λ (D : Drawing). laid D.turning) a turning)) (take (size_in s).m (leaves (λ (D : Drawing). laid D.marks) a marks)) 0

-- Demand 2: "Every byte string accepted on opening unpacks to a drawing that packs to the same bytes." First of the drawing,
-- then of any lists that are long enough, whatever they held before.
pub record RoundTrip (s : List ℕ) : Type 0 where
  pub unpacked : Drawing
  pub size : borders unpacked ≡ (size_in s).m
  pub start : unpacked.start ≡ 0
  pub passes : PassesSeven unpacked
  pub unpacks : (turnings marks : ℕ) → 2 * (size_in s).m ≤ turnings → (size_in s).m ≤ marks → unpack_of s turnings marks ≡ answer unpacked
  pub packs : (work out : ℕ) → Room unpacked work out → pack_of unpacked work out ≡ answer s
  pub lists : (turning marks : List ℕ) (work out : ℕ) → 2 * (size_in s).m ≤ length turning → (size_in s).m ≤ length marks
      → 6 * (size_in s).m ≤ work → longest ≤ out → pack_of (left_in s turning marks) work out ≡ answer s

-- 01: "Packing a drawing and unpacking gives that drawing so renumbered."
pub record RoundTrips : Type 0 where
  pub from_bytes : (s : List ℕ) → Opens s → RoundTrip s
  pub from_drawing : (D : Drawing) (work out : ℕ) (s : List ℕ) → pack_of D work out ≡ answer s
      → (turnings marks : ℕ) → ends D ≤ turnings → borders D ≤ marks → unpack_of s turnings marks ≡ answer (renumbered D)

-- Demand 2, both sentences: of every drawing with every length of the lists lent, and of every byte string.
pub record Demand2 : Type 0 where
  pub exact : (D : Drawing) (work out : ℕ) → Exact D work out
  pub trips : RoundTrips

-- Demand 3: "every first number and every list of calls". 02, 8/14: an answer is a number with its sign, and "The book does the same"
pub record Sessions (D : Drawing) (s : List ℕ) : Type 0 where
  pub same : (i : ℕ) (calls : List Call) → map_session s i calls ≡ book_session D i calls

-- Demand 3: "for every point and area number, first places, degrees, sides, neighbour counts and joining borders are the
-- book's too"
pub record Numbers (D : Drawing) (s : List ℕ) : Type 0 where
  pub first : (c : Kind) (k : ℕ) → first_of s c k ≡ book_first D c k
  pub size : (c : Kind) (k : ℕ) → size_of s c k ≡ book_size D c k
  pub neighbours : (k : ℕ) → neighbours_of s k ≡ book_neighbours D k
  pub joining : (u v : ℕ) → joining_of s u v ≡ book_joining D u v

-- Demand 3, of document 02, 4/14: "An area's factor", for every number and every pair of lists that a caller may lend, refusals
-- included
pub record Factors (D : Drawing) (s : List ℕ) : Type 0 where
  pub same : (k : ℕ) (kinds : List ℕ) (values : List Float) → factor_of s k kinds values ≡ book_factor D k kinds values

-- 01: "A point is one cycle of that list"; "Ends on one such cycle border one area." Two places get one number exactly if
-- their ends turn about one point, lie on one area walk.
pub record SameCell (D : Drawing) (s : List ℕ) (c : Kind) (ask : List ℕ → ℕ → Answer ℕ) : Type 0 where
  pub same : (p q : ℕ) → p < ends D → q < ends D
      → (ask s (suc p) ≡ ask s (suc q)) ↔ SameCycle (around D c) (end_at D p) (end_at D q)

-- 01, Moves: "the ) that leaves it; for point 1 it is place 2m or, if that is a ), the ( it closes"
abbrev pub LastPlace : Word → ℕ → Type 0
LastPlace w p =
    (seen round w p ≡ closes)
    ⊎ (((seen round w (pred w.size) ≢ closes) × (p ≡ pred w.size))
    ⊎ ((seen round w (pred w.size) ≡ closes) × (p ≡ mate_in w (pred w.size))))

-- 01, Moves: "the point's first place", the lowest with the point's number
abbrev pub FirstPlace : Word → ℕ → Type 0
FirstPlace w p = first (seen round w) w.size (number (seen round w) p) ≡ p

-- 02, 8/14: a turn with "a sign that it has gone round"; "no other turn has the sign". Every turn stays about its point.
pub record Turned (ask : List ℕ → ℕ → Answer Reply) (From To : Word → ℕ → Type 0) (s : List ℕ) (p : ℕ) : Type 0 where
  pub to : ℕ
  pub sign : Bool
  pub answers : ask s (suc p) ≡ answer (record { value = suc to; sign = sign })
  pub below : to < (word_in s).size
  pub leaves : (sign ≡ true) ↔ From (word_in s) p
  pub arrives : (sign ≡ true) ↔ To (word_in s) to
  pub keeps : point_of s (suc to) ≡ point_of s (suc p)

-- 02, 8/14: "Turn at a point's last place now answers its first place, and turn back at the first answers the last"
pub record TurnSigns (s : List ℕ) (p : ℕ) : Type 0 where
  pub turn : Turned turn_of LastPlace FirstPlace s p
  pub turn_back : Turned turn_back_of FirstPlace LastPlace s p

-- 01: "There are m-n+2 areas"; 02, 1/14: "That the sum is 2m"
pub record CellCounts (D : Drawing) : Type 0 where
  pub areas : cells D Kind.area + cells D Kind.point ≡ borders D + 2
  pub sum : (c : Kind) → total (ends_on D c) (cells D c) ≡ ends D

-- 01: "A point number that no point has gets 14, an area number that no area has 15." A point, an area has a number if one of
-- its ends has. "With m = 0 there is one point", and one area, without ends: its number is 1.
pub record HasNumber (D : Drawing) (c : Kind) : Type 0 where
  pub ended : 0 < borders D → (k : ℕ) → (has_number D c k ≡ true) ↔ ((h : ℕ) × (h < ends D) × (number_at D c h ≡ k))
  pub alone : borders D ≡ 0 → (k : ℕ) → (has_number D c k ≡ true) ↔ (k ≡ 1)

-- Demand 3, whole. 01: "Demand 3 is one statement about the whole list"; it "covers counts and searches". The map s is a
-- byte string that opens, with the drawing's m and n; the count in its header is the number of the drawing's area walks
-- (02, 6/14: "Card makers want to read the number of areas without arithmetic"). With the answers of document 01 go the
-- factors of document 02, 4/14. Beside them stands what document 01 says of the numbers, what document 02, 8/14, says of the
-- turns' signs, and the printed schedule of document 02, 1/14: it is made of the book's numbers.
pub record Agrees (D : Drawing) (s : List ℕ) : Type 0 where
  pub opens : Opens s
  pub size : open_of s ≡ answer (size_for D)
  pub written : written_areas s ≡ cells D Kind.area
  pub sessions : Sessions D s
  pub numbers : Numbers D s
  pub factors : Factors D s
  pub points : SameCell D s Kind.point point_of
  pub areas : SameCell D s Kind.area area_of
  pub signs : (p : ℕ) → p < ends D → TurnSigns s p
  pub counts : CellCounts D
  pub known : (c : Kind) → HasNumber D c
  pub schedule : schedule_of s ≡ schedule_text (book_rows D)
