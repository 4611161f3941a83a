-- What each case of an answer means. Document 01: "For every case of an enum answer, a definition gives this paper's number and
-- values."
--
-- number e          == the number of the refusal e
-- carried e         == the numbers that it carries
-- means f r         == what r says: the value by f, or the number of the refusal with what it carries
-- checks_mean r     == of a call's checks alone: nothing more than that none refuses
-- opened_means r    == m and n
-- turn_reply t, turn_means r == the place and whether the turn has gone round
-- place_means, point_means, area_means, count_means, factor_means == the value
-- packed_means r    == the map's length
-- unpacked_means r, parsed_means r == m
-- packing_said r    == what a rehearsal says of packing: the map's length
-- rehearsed_means r == the place that the session left, or its refusal
-- Assumes nothing.
use Rattle.std.specs.Prelude.{List, [], ◌∷◌, ℕ, Float, Result, Ok, Err}
use Rattle.answers.specs.Answer.{Answer, answer, refused_with, Reply}
use Rattle.answers.specs.declared.given.Size.{Size}
use Rattle.answers.specs.declared.numbers.Place.{Place}
use Rattle.answers.specs.declared.numbers.Point.{Point}
use Rattle.answers.specs.declared.numbers.Area.{Area}
use Rattle.answers.specs.declared.given.Turn.{Turn}
use Rattle.answers.specs.declared.given.Rehearsal.{Rehearsal}
use Rattle.answers.specs.declared.refusal.Refusal.{Refusal}

-- 01, "Numbers returned when a call declines"; 02: 18 and 19 (4/14), 20 (6/14), 21 (7/14). 255 is the refusal of a byte that is the
-- code of no call: it stays clear of the numbers of both.
abbrev pub number : Refusal → ℕ
number Refusal.Lists = 1
number Refusal.Room = 2
number Refusal.Range = 3
number Refusal.Repeated = 4
number Refusal.Apart = 5
number Refusal.ManyMarks = 6
number (Refusal.Crossing a b) = 7
number Refusal.Header = 8
number Refusal.Length = 9
number Refusal.UnusedBit = 10
number Refusal.Ones = 11
number Refusal.Brackets = 12
number Refusal.NoPlace = 13
number Refusal.NoPoint = 14
number Refusal.NoArea = 15
number Refusal.ShortLists = 16
number Refusal.Text = 17
number Refusal.Tariff = 18
number Refusal.NoFactor = 19
number Refusal.Areas = 20
number Refusal.Pieces = 21
number Refusal.NoCall = 255

-- 02, 2/14: "Refusal 7 now carries the alternating pair"
abbrev pub carried : Refusal → List ℕ
carried (Refusal.Crossing a b) = a ∷ b ∷ []
carried e = []

abbrev pub means : {T A : Type 0} → (T → A) → Result T Refusal → Answer A
means f (Ok x) = answer (f x)
means f (Err e) = refused_with (number e) (carried e)

abbrev pub checks_mean : Result (Unit {0}) Refusal → Answer (Unit {0})
checks_mean = means (λ (u : Unit {0}). u)

abbrev pub opened_means : Result Size Refusal → Answer Size
opened_means = means (λ (z : Size). z)

abbrev pub place_means : Result Place Refusal → Answer ℕ
place_means = means (λ (p : Place). p.0)

-- 02, 8/14: "each with a sign that it has gone round"
abbrev pub turn_reply : Turn → Reply
turn_reply t = record { value = t.place.0; sign = t.round }

abbrev pub turn_means : Result Turn Refusal → Answer Reply
turn_means = means turn_reply

abbrev pub point_means : Result Point Refusal → Answer ℕ
point_means = means (λ (p : Point). p.0)

abbrev pub area_means : Result Area Refusal → Answer ℕ
area_means = means (λ (a : Area). a.0)

abbrev pub count_means : Result ℕ Refusal → Answer ℕ
count_means = means (λ (x : ℕ). x)

abbrev pub factor_means : Result Float Refusal → Answer Float
factor_means = means (λ (x : Float). x)

abbrev pub packed_means : Result ℕ Refusal → Answer ℕ
packed_means = means (λ (l : ℕ). l)

abbrev pub unpacked_means : Result ℕ Refusal → Answer ℕ
unpacked_means = means (λ (m : ℕ). m)

abbrev pub parsed_means : Result ℕ Refusal → Answer ℕ
parsed_means = means (λ (m : ℕ). m)

abbrev pub packing_said : Result Rehearsal Refusal → Answer ℕ
packing_said = means (λ (r : Rehearsal). r.length)

abbrev pub rehearsed_means : Result Rehearsal Refusal → Answer ℕ
rehearsed_means (Ok r) = place_means r.left
rehearsed_means (Err e) = refused_with (number e) (carried e)
