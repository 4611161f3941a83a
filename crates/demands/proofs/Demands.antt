-- The demands of document 01, as theorems about the definitions that the contracts cite. Each begins where a user begins: with
-- an answer of packing, or with a byte string that opens.
--
-- pack_refusals  == packing gives the number of the first of checks 1 to 7 that fails, and answers exactly if none does
-- open_refusals  == the same of opening and its checks 8, 20 and 9 to 12
-- one_form       == no byte string opens both with the count of areas and without it, and what a program gives for a card of the other form
-- demand_2       == packing writes exactly Turán's three strings, and gives 7 exactly where two unmarked borders alternate; every
--                   byte string that opens unpacks to a drawing that packs to the same bytes, and unpacking what packing wrote
--                   gives the drawing renumbered. Its parts are demand_2_pack and demand_2_round_trip.
-- demand_3       == whatever packing answers agrees with the drawing's book: every session, every answer about point and area
--                   numbers, every factor of an area, one number for one point (area), where turns go round, how many points and
--                   areas there are, that the card's count is theirs, which numbers they have, and the printed schedule
-- every_map      == the same of every byte string that opens, with the book of its unpacked drawing
-- unpacked_agrees == the same of every byte string that opens and whatever unpacking it answers
-- packed_agrees  == the same of the bytes of a drawing that passes 1 to 7. Its parts are demand_3_sessions, demand_3_numbers,
--                   demand_3_factors, same_point, same_area, turn_sign, areas_count, written_count, has_number_lem and schedule_book.
-- factor_agrees  == whatever packing answers gives every area the book's factor, for every pair of lists: demand 3's part of 02, 4/14
-- Assumes nothing.
use mathlib.Core.Path.{◌≡◌, refl, sym, ap, ◌∙◌, subst}
use mathlib.Core.Bool.{Bool, true, false, ◌&&◌}
use mathlib.Core.Logic.{◌≢◌}
use mathlib.Core.List.{List, []}
use Prim.Native.Nat.{ℕ, ◌+◌, ◌-◌, ◌*◌, ◌≤◌, ◌<◌}
use native.Mathlib.Omega.{arith}
use lib.Ieee.{Float}
use lib.ListN.{length, take, drop}
use lib.Seq.{take_at}
use Rattle.count.specs.Below.{pick}
use lib.Dec.{leb}
use borrow.Author.Tests.{le-leb}
use Rattle.count.proofs.Logic.{both, pick_yes}
use Rattle.answers.specs.Lent.{laid, leaves}
use Rattle.answers.specs.Answer.{Answer, answer, refused_with, refused, number_of, Kind}
use Rattle.answers.specs.declared.given.Size.{Size}
use Rattle.drawing.specs.Drawing.{Drawing, borders, cells, ends}
use Rattle.drawing.specs.Checks.{crosses, first_crossing, FirstCrossing, PassesSix, PassesSeven}
use Rattle.drawing.proofs.Crossing.{first_crossing_lem}
use Rattle.drawing.specs.Renumbered.{renumbered}
use Rattle.drawing.specs.Book.{book_answer, book_session}
use Rattle.format.specs.Bytes.{areas_of, size_in, written_areas, map_length, word_in}
use Rattle.format.specs.Open.{open_refusal, Opens, open_of}
use Rattle.format.specs.Calls.{point_of, area_of, map_session, map_answer}
use Rattle.format.specs.Pack.{word_of, size_for, packed_bytes, Room, pack_checks, pack_refusal, pack_of, drawing_of, unpack_of}
use Rattle.format.specs.Fits.{Fits}
use Rattle.answers.specs.Checks.{Check}
use Rattle.answers.proofs.Steps.{checked_none, answered_all, answered_none, by_refusals}
use Rattle.format.proofs.Passes.{opens_passes, opened, after_opens}
use Rattle.format.proofs.Refusals.{pack_accepts, pack_crosses}
pub use Rattle.format.proofs.Passes.{open_refusals}
pub use Rattle.format.proofs.Refusals.{pack_refusals}
pub use Rattle.format.proofs.OneForm.{one_form}
use Rattle.format.proofs.Decode.{opens_encode}
use Rattle.format.proofs.Encode.{fits_lengths}
use Rattle.format.proofs.Parts.{map_length_lem}
use Rattle.format.proofs.Longest.{map_length_most}
use Rattle.tariff.specs.Book.{book_factor}
use Rattle.tariff.specs.Maps.{factor_of}
use Rattle.tours.proofs.Theorems.{alternate_places}
use Rattle.agreement.proofs.Passed.{passes_toured, passes_fits, packed_opens, packed_map, packed_size}
use Rattle.agreement.proofs.Book.{session_same}
use Rattle.roundtrip.proofs.Passes.{drawing_passes}
use Rattle.roundtrip.proofs.Words.{drawing_bytes}
use Rattle.roundtrip.proofs.Renumbered.{unpacked_renumbered}
use Rattle.demands.specs.Statements.{turan_bytes, Exact, left_in, RoundTrip, RoundTrips, Demand2}
use Rattle.demands.specs.Statements.{Sessions, Numbers, Factors, SameCell, TurnSigns, CellCounts, HasNumber, Agrees}
use Rattle.demands.proofs.Faithful.{passes_faithful, packed_alike}
use Rattle.demands.proofs.Answers.{opens_opened, packed_call, packed_first, packed_size_of, packed_neighbours, packed_factor, packed_joining}
use Rattle.demands.proofs.AlikeDrawings.{alike_drawing}
use Rattle.demands.proofs.Cells.{same_number, turn_sign_in, cell_counts, known_numbers}
use Rattle.demands.proofs.Turan.{turan_packed}
use Rattle.demands.proofs.Schedule.{schedule_book}

packed_long : (D : Drawing) → PassesSeven D → length (packed_bytes D) ≡ map_length (size_for D)
unfolding packed_bytes
packed_long D seven = map_length_lem (size_for D) (word_of D) (fits_lengths (size_for D) (word_of D) (passes_fits D seven))

packed_length : (D : Drawing) → PassesSeven D → length (turan_bytes D) ≡ map_length (size_for D)
packed_length D seven =
    ap length (turan_packed D) ∙ packed_long D seven

-- 7, with whatever it carries
seven_with : (a : Answer (List ℕ)) → number_of a ≡ 7 → (xs : List ℕ) × (a ≡ refused_with 7 xs)
unfolding number_of
seven_with (answer s) e = absurd (omega arith)
seven_with (refused_with k xs) e = (xs, ap (λ j. refused_with j xs) e)

crossing_packed : (D : Drawing) (work out : ℕ) → Room D work out → PassesSix D → crosses D ≡ true → pack_of D work out ≡ refused_with 7 (first_crossing D)
crossing_packed D work out room six t =
    (pack_crosses D work out (first_crossing D)).1 (room, six, ((first_crossing_lem D).first (first_crossing D)).1 (t, refl))

pub demand_2_pack : (D : Drawing) (work out : ℕ) → Exact D work out
unfolding pack_of pack_refusal number_of
demand_2_pack D work out =
    record {
      bytes = turan_packed D;
      writes = λ s. (
        λ e.
            let cs : List Check = pack_checks D work out in
            let p = (pack_accepts D work out).0 (answered_none cs (packed_bytes D) s e) in
            (p.0, p.1, sym (answered_all cs (packed_bytes D) s e).1 ∙ sym (turan_packed D)),
        λ p.
            checked_none (pack_checks D work out) (answer (packed_bytes D)) refl ((pack_accepts D work out).1 (p.0, p.1))
            ∙ ap answer (sym (p.2 ∙ turan_packed D)),
      );
      crosses = (
        λ e.
            let y = seven_with (pack_of D work out) e in
            let c = (pack_crosses D work out y.0).0 y.1 in
            let X : FirstCrossing D y.0 = c.2 in
            (c.0, c.1, (X.a, X.b, X.crossing)),
        λ c. ap number_of (crossing_packed D work out c.0 c.1 ((first_crossing_lem D).exists.1 c.2)),
      );
      pair = pack_crosses D work out;
      found = λ e.
          let y = seven_with (pack_of D work out) e in
          let X : FirstCrossing D y.0 = ((pack_crosses D work out y.0).0 y.1).2 in
          y.1 ∙ ap (refused_with 7) (((first_crossing_lem D).first y.0).0 X).1;
      places = λ six a b X. alternate_places D six a b X.alternate;
      bare = λ k xs. by_refusals (λ j ys. j ≢ 7 → ys ≡ []) (pack_checks D work out) (packed_bytes D) k xs
          (λ _. refl, (λ _. refl, (λ _. refl, (λ _. refl, (λ _. refl, (λ _. refl, (λ n. absurd (n refl), tt)))))));
      long = λ seven. packed_length D seven;
      fits = λ seven.
          let f : Fits (size_for D) (word_of D) = passes_fits D seven in
          let l = packed_length D seven in
          let m = map_length_most (size_for D) f.m_most f.n_least f.n_most in
          omega arith;
    }

-- what packing answers is the bytes of a drawing that passes 1 to 7
answered : (D : Drawing) (work out : ℕ) (s : List ℕ) → pack_of D work out ≡ answer s → PassesSeven D × (packed_bytes D ≡ s)
answered D work out s e =
    let p = ((demand_2_pack D work out).writes s).0 e in (p.1, sym (p.2 ∙ turan_packed D))

-- lists that are long enough
room_unpacks : (m t k : ℕ) (a b : Answer Drawing) → 2 * m ≤ t → m ≤ k → pick (leb (2 * m) t && leb m k) a b ≡ a
room_unpacks m t k a b lt lk = pick_yes (leb (2 * m) t && leb m k) a b (both (leb (2 * m) t) (leb m k) (le-leb (2 * m) t lt) (le-leb m k lk))

-- the drawing that a byte string unpacks to passes 1 to 7, has m borders and start 0, and its bytes are those
module _ (s : List ℕ) (opens : Opens s) where
  abbrev unpacked_of : Drawing
  unpacked_of = drawing_of (word_in s)

  unpacked_passes : PassesSeven unpacked_of
  unpacked_passes = drawing_passes (size_in s).m (size_in s).n (word_in s) (opens_encode s opens.bytes opens.passes).0

  unpacked_bytes : packed_bytes unpacked_of ≡ s
  unpacked_bytes =
      let e = opens_encode s opens.bytes opens.passes in
      drawing_bytes (size_in s).m (size_in s).n (word_in s) e.0 ∙ sym e.1

  unpacked_size : borders unpacked_of ≡ (size_in s).m
  unpacked_size =
      let z = packed_size unpacked_of unpacked_passes in
      sym (ap (λ (t : List ℕ). (size_in t).m) (sym unpacked_bytes) ∙ ap (λ (y : Size). y.m) z)

  unpacked_start : unpacked_of.start ≡ 0
  unfolding drawing_of
  unpacked_start = refl

  unpacked_packs : (work out : ℕ) → Room unpacked_of work out → pack_of unpacked_of work out ≡ answer s
  unfolding pack_of pack_refusal
  unpacked_packs work out room =
      checked_none (pack_checks unpacked_of work out) (answer (packed_bytes unpacked_of)) refl ((pack_accepts unpacked_of work out).1 (room, unpacked_passes))
      ∙ ap answer unpacked_bytes

  unpacked_answer : (t k : ℕ) → 2 * (size_in s).m ≤ t → (size_in s).m ≤ k → unpack_of s t k ≡ answer unpacked_of
  unfolding unpack_of opened
  unpacked_answer t k lt lk =
      opens_opened s _ opens.passes ∙ room_unpacks (size_in s).m t k (answer unpacked_of) (refused 16) lt lk

  -- lists that hold the drawing first are left with it
  unpacked_left : (turning marks : List ℕ) → 2 * (size_in s).m ≤ length turning → (size_in s).m ≤ length marks → left_in s turning marks ≡ unpacked_of
  unfolding borders leaves
  unpacked_left turning marks lt lk =
      let m : ℕ = (size_in s).m in
      let a = unpacked_answer (length turning) (length marks) lt lk in
      let half = unpacked_passes.six.lengths.half in
      let size : borders unpacked_of ≡ m = unpacked_size in
      let t : take (2 * m) (leaves (λ (D : Drawing). laid D.turning) (unpack_of s (length turning) (length marks)) turning) ≡ unpacked_of.turning
      = ap (λ x. take (2 * m) (leaves (λ (D : Drawing). laid D.turning) x turning)) a
      ∙ take_at unpacked_of.turning (drop (length unpacked_of.turning) turning) (2 * m) (omega arith) in
      let k : take m (leaves (λ (D : Drawing). laid D.marks) (unpack_of s (length turning) (length marks)) marks) ≡ unpacked_of.marks
      = ap (λ x. take m (leaves (λ (D : Drawing). laid D.marks) x marks)) a ∙ take_at unpacked_of.marks (drop (length unpacked_of.marks) marks) m size in
      let z : ◌≡◌ {A = ℕ} 0 unpacked_of.start = sym unpacked_start in
      λ i. record { turning = t i; marks = k i; start = z i }

  round_trip : RoundTrip s
  round_trip =
      record {
        unpacked = unpacked_of;
        size = unpacked_size;
        start = unpacked_start;
        passes = unpacked_passes;
        unpacks = unpacked_answer;
        packs = unpacked_packs;
        lists = λ turning marks work out lt lk lw lo.
            ap (λ D. pack_of D work out) (unpacked_left turning marks lt lk)
            ∙ unpacked_packs work out (record { working = omega (arith, unpacked_size); output = lo });
      }

trip_renumbered : (D : Drawing) → PassesSeven D → (turnings marks : ℕ) → ends D ≤ turnings → borders D ≤ marks
    → unpack_of (packed_bytes D) turnings marks ≡ answer (renumbered D)
unfolding unpack_of opened ends
trip_renumbered D seven t k lt lk =
    let z : (size_in (packed_bytes D)).m ≡ borders D = ap (λ (z : Size). z.m) (packed_size D seven) in
    opens_opened (packed_bytes D) _ (packed_opens D seven)
    ∙ room_unpacks (size_in (packed_bytes D)).m t k (answer (drawing_of (word_in (packed_bytes D)))) (refused 16) (omega arith) (omega arith)
    ∙ ap answer (alike_drawing (word_in (packed_bytes D)) (word_of D) (packed_alike D seven) (passes_fits D seven).nested ∙ unpacked_renumbered D (passes_faithful D seven))

pub demand_2_round_trip : RoundTrips
demand_2_round_trip =
    record {
      from_bytes = round_trip;
      from_drawing = λ D work out s e turnings marks lt lk.
          let p = answered D work out s e in
          ap (λ x. unpack_of x turnings marks) (sym p.1) ∙ trip_renumbered D p.0 turnings marks lt lk;
    }

pub demand_2 : Demand2
demand_2 = record { exact = demand_2_pack; trips = demand_2_round_trip }

pub turn_sign : (s : List ℕ) → open_refusal s ≡ 0 → (p : ℕ) → p < 2 * (size_in s).m → TurnSigns s p
unfolding word_in
turn_sign s passes p l = turn_sign_in s passes p l

-- the bytes of a drawing that passes 1 to 7
module _ (D : Drawing) (seven : PassesSeven D) where
  packed_open_of : open_of (packed_bytes D) ≡ answer (size_for D)
  unfolding open_of
  packed_open_of =
      after_opens (packed_bytes D) (size_in (packed_bytes D)) (packed_opens D seven) ∙ ap answer (packed_size D seven)

  pub demand_3_sessions : Sessions D (packed_bytes D)
  unfolding map_session book_session
  demand_3_sessions =
      record { same = λ i calls. session_same (map_answer (packed_bytes D)) (book_answer D) (packed_call D seven) i calls }

  pub demand_3_numbers : Numbers D (packed_bytes D)
  demand_3_numbers =
      record {
        first = packed_first D seven;
        size = packed_size_of D seven;
        neighbours = packed_neighbours D seven;
        joining = packed_joining D seven;
      }

  pub demand_3_factors : Factors D (packed_bytes D)
  demand_3_factors = record { same = packed_factor D seven }

  pub same_point : SameCell D (packed_bytes D) Kind.point point_of
  unfolding point_of
  same_point = record { same = same_number D seven Kind.point }

  pub same_area : SameCell D (packed_bytes D) Kind.area area_of
  unfolding area_of
  same_area = record { same = same_number D seven Kind.area }

  packed_sign : (p : ℕ) → p < ends D → TurnSigns (packed_bytes D) p
  unfolding ends
  packed_sign p l = turn_sign (packed_bytes D) (packed_opens D seven) p (omega (arith, ap (λ (z : Size). z.m) (packed_size D seven)))

  pub areas_count : CellCounts D
  areas_count = cell_counts (passes_toured D seven)

  pub has_number_lem : (c : Kind) → HasNumber D c
  has_number_lem = known_numbers (passes_toured D seven)

  pub written_count : written_areas (packed_bytes D) ≡ cells D Kind.area
  written_count =
      (opens_passes (packed_bytes D) (packed_opens D seven)).written
      ∙ ap areas_of (packed_size D seven)
      ∙ counted (cells D Kind.area) (cells D Kind.point) (borders D) areas_count.areas
    where
      counted : (f n m : ℕ) → f + n ≡ m + 2 → m + 2 - n ≡ f
      counted f n m e = omega arith

  pub packed_agrees : Agrees D (packed_bytes D)
  packed_agrees =
      record {
        opens = packed_map D seven;
        size = packed_open_of;
        written = written_count;
        sessions = demand_3_sessions;
        numbers = demand_3_numbers;
        factors = demand_3_factors;
        points = same_point;
        areas = same_area;
        signs = packed_sign;
        counts = areas_count;
        known = has_number_lem;
        schedule = schedule_book D (packed_bytes D) (packed_opens D seven) packed_open_of demand_3_numbers areas_count;
      }

pub demand_3 : (D : Drawing) (work out : ℕ) (s : List ℕ) → pack_of D work out ≡ answer s → Agrees D s
demand_3 D work out s e =
    let p = answered D work out s e in subst (Agrees D) p.1 (packed_agrees D p.0)

pub factor_agrees : (D : Drawing) (work out : ℕ) (s : List ℕ) → pack_of D work out ≡ answer s
    → (k : ℕ) (kinds : List ℕ) (values : List Float) → factor_of s k kinds values ≡ book_factor D k kinds values
factor_agrees D work out s e = (demand_3 D work out s e).factors.same

pub every_map : (s : List ℕ) → Opens s → Agrees (drawing_of (word_in s)) s
every_map s opens = subst (Agrees (drawing_of (word_in s))) (unpacked_bytes s opens) (packed_agrees (drawing_of (word_in s)) (unpacked_passes s opens))

-- what unpacking answers is the drawing of the word
unpacked_is : (room : Bool) (U D : Drawing) → pick room (answer U) (refused 16) ≡ answer D → U ≡ D
unpacked_is true U D e = cc
unpacked_is false U D e = let z : ◌≡◌ {A = ℕ} 0 1 = cc in absurd (omega arith)

pub unpacked_agrees : (s : List ℕ) → Opens s → (turnings marks : ℕ) (D : Drawing) → unpack_of s turnings marks ≡ answer D → Agrees D s
unfolding unpack_of opened
unpacked_agrees s opens turnings marks D e =
    subst (λ x. Agrees x s)
    (unpacked_is (leb (2 * (size_in s).m) turnings && leb (size_in s).m marks) (drawing_of (word_in s)) D (sym (opens_opened s _ opens.passes) ∙ e))
    (every_map s opens)
