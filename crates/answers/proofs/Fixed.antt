-- A contract that says what an answer means fixes the answer: no two answers of a call mean the same.
--
-- by_number        == the refusals in the order of their numbers
-- refusal_back     == the refusal with a number and what it carries
-- refusal_reads    == of every refusal
-- means_back       == from what is meant to the answer, where the value can be read back
-- means_fixed      == where the value can be read back, answers that mean the same are the same
-- opened_fixed, place_fixed, turn_fixed, point_fixed, area_fixed, count_fixed, factor_fixed, packed_fixed, unpacked_fixed, parsed_fixed
--                  == so it is with each call's answer
-- rehearsed_fixed  == and with a rehearsal's, by what it says of packing and what it means
-- Assumes nothing.
use mathlib.Core.Path.{◌≡◌, refl, sym, ap, ◌∙◌}
use mathlib.Core.List.{List, [], ◌∷◌}
use Prim.Native.Nat.{ℕ}
use lib.ListN.{get_or}
use Rattle.std.specs.Prelude.{Result, Ok, Err, Float}
use Rattle.answers.specs.Answer.{Answer, answer, refused_with, Reply}
use Rattle.answers.specs.declared.given.Size.{Size}
use Rattle.answers.specs.Means.{number, carried, means, opened_means, place_means, turn_means, turn_reply, point_means, area_means, count_means, factor_means, packed_means, unpacked_means, parsed_means, packing_said, rehearsed_means}
use Rattle.answers.specs.declared.numbers.Place.{Place}
use Rattle.answers.specs.declared.numbers.Point.{Point}
use Rattle.answers.specs.declared.numbers.Area.{Area}
use Rattle.answers.specs.declared.given.Turn.{Turn}
use Rattle.answers.specs.declared.given.Rehearsal.{Rehearsal}
use Rattle.answers.specs.declared.refusal.Refusal.{Refusal}

-- the refusals that carry nothing, each at its number; none has 0 or 7
by_number : List Refusal
by_number =
    Refusal.NoCall
    ∷ Refusal.Lists
    ∷ Refusal.Room
    ∷ Refusal.Range
    ∷ Refusal.Repeated
    ∷ Refusal.Apart
    ∷ Refusal.ManyMarks
    ∷ Refusal.NoCall
    ∷ Refusal.Header
    ∷ Refusal.Length
    ∷ Refusal.UnusedBit
    ∷ Refusal.Ones
    ∷ Refusal.Brackets
    ∷ Refusal.NoPlace
    ∷ Refusal.NoPoint
    ∷ Refusal.NoArea
    ∷ Refusal.ShortLists
    ∷ Refusal.Text
    ∷ Refusal.Tariff
    ∷ Refusal.NoFactor
    ∷ Refusal.Areas
    ∷ Refusal.Pieces
    ∷ []

refusal_back : ℕ → List ℕ → Refusal
refusal_back k (a ∷ (b ∷ xs)) = Refusal.Crossing a b
refusal_back k xs = get_or by_number k Refusal.NoCall

refusal_reads : (e : Refusal) → refusal_back (number e) (carried e) ≡ e
unfolding refusal_back by_number
refusal_reads Refusal.Lists = refl
refusal_reads Refusal.Room = refl
refusal_reads Refusal.Range = refl
refusal_reads Refusal.Repeated = refl
refusal_reads Refusal.Apart = refl
refusal_reads Refusal.ManyMarks = refl
refusal_reads (Refusal.Crossing a b) = refl
refusal_reads Refusal.Header = refl
refusal_reads Refusal.Length = refl
refusal_reads Refusal.UnusedBit = refl
refusal_reads Refusal.Ones = refl
refusal_reads Refusal.Brackets = refl
refusal_reads Refusal.NoPlace = refl
refusal_reads Refusal.NoPoint = refl
refusal_reads Refusal.NoArea = refl
refusal_reads Refusal.ShortLists = refl
refusal_reads Refusal.Text = refl
refusal_reads Refusal.Tariff = refl
refusal_reads Refusal.NoFactor = refl
refusal_reads Refusal.Areas = refl
refusal_reads Refusal.Pieces = refl
refusal_reads Refusal.NoCall = refl

means_back : {T A : Type 0} → (A → T) → Answer A → Result T Refusal
means_back g (answer x) = Ok (g x)
means_back g (refused_with k xs) = Err (refusal_back k xs)

pub means_fixed : {T A : Type 0} → (f : T → A) (g : A → T) → ((x : T) → g (f x) ≡ x) → (r q : Result T Refusal) → means f r ≡ means f q → r ≡ q
unfolding means_back
means_fixed {T} {A} f g h r q e = sym (reads r) ∙ ap (means_back g) e ∙ reads q
  where
    reads : (r : Result T Refusal) → means_back g (means f r) ≡ r
    reads (Ok x) = ap Ok (h x)
    reads (Err e) = ap Err (refusal_reads e)

pub opened_fixed : (r q : Result Size Refusal) → opened_means r ≡ opened_means q → r ≡ q
opened_fixed = means_fixed (λ (z : Size). z) (λ z. z) (λ x. refl)

pub place_fixed : (r q : Result Place Refusal) → place_means r ≡ place_means q → r ≡ q
place_fixed = means_fixed (λ (p : Place). p.0) (λ x. record { 0 = x }) (λ x. refl)

pub turn_fixed : (r q : Result Turn Refusal) → turn_means r ≡ turn_means q → r ≡ q
turn_fixed = means_fixed turn_reply (λ (r : Reply). record { place = record { 0 = r.value }; round = r.sign }) (λ x. refl)

pub point_fixed : (r q : Result Point Refusal) → point_means r ≡ point_means q → r ≡ q
point_fixed = means_fixed (λ (p : Point). p.0) (λ x. record { 0 = x }) (λ x. refl)

pub area_fixed : (r q : Result Area Refusal) → area_means r ≡ area_means q → r ≡ q
area_fixed = means_fixed (λ (a : Area). a.0) (λ x. record { 0 = x }) (λ x. refl)

pub count_fixed : (r q : Result ℕ Refusal) → count_means r ≡ count_means q → r ≡ q
count_fixed = means_fixed (λ (x : ℕ). x) (λ x. x) (λ x. refl)

pub factor_fixed : (r q : Result Float Refusal) → factor_means r ≡ factor_means q → r ≡ q
factor_fixed = means_fixed (λ (x : Float). x) (λ x. x) (λ x. refl)

pub packed_fixed : (r q : Result ℕ Refusal) → packed_means r ≡ packed_means q → r ≡ q
packed_fixed = count_fixed

pub unpacked_fixed : (r q : Result ℕ Refusal) → unpacked_means r ≡ unpacked_means q → r ≡ q
unpacked_fixed = count_fixed

pub parsed_fixed : (r q : Result ℕ Refusal) → parsed_means r ≡ parsed_means q → r ≡ q
parsed_fixed = count_fixed

-- what packing said, and the place left or the session's refusal
rehearsed_of : Result ℕ Refusal → Result Place Refusal → Result Rehearsal Refusal
rehearsed_of (Ok l) x = Ok (record { length = l; left = x })
rehearsed_of (Err e) x = Err e

pub rehearsed_fixed : (r q : Result Rehearsal Refusal) → packing_said r ≡ packing_said q → rehearsed_means r ≡ rehearsed_means q → r ≡ q
unfolding means_back rehearsed_of
rehearsed_fixed r q d e =
    sym (reads r)
    ∙ ap (λ a. rehearsed_of (length_back a) (place_back (rehearsed_means r))) d
    ∙ ap (λ a. rehearsed_of (length_back (packing_said q)) (place_back a)) e
    ∙ reads q
  where
    length_back : Answer ℕ → Result ℕ Refusal
    length_back = means_back (λ (l : ℕ). l)

    place_back : Answer ℕ → Result Place Refusal
    place_back = means_back (λ (x : ℕ). record { 0 = x })

    left_reads : (x : Result Place Refusal) → place_back (place_means x) ≡ x
    left_reads (Ok p) = refl
    left_reads (Err e) = ap Err (refusal_reads e)

    reads : (r : Result Rehearsal Refusal) → rehearsed_of (length_back (packing_said r)) (place_back (rehearsed_means r)) ≡ r
    reads (Ok r) = ap (λ p. Ok (record { length = r.length; left = p })) (left_reads r.left)
    reads (Err e) = ap Err (refusal_reads e)
