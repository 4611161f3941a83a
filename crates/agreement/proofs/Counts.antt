-- How many points and areas, and how many letters of each family.
--
-- places_count     == of the 2m positions, twice as many as of the m borders have a test of the border
-- first_places     == each border has one first place
-- round_count, square_count == the borders of the round family are the marked ones, those of the square family the others
-- openings_count, openings_round, openings_square == a family has as many openings as borders
-- letters_count, letters_round == and twice as many letters
-- cells_agree      == the drawing has 1 + the openings many points (areas)
-- points_count, areas_count, cells_in_lem == n is 1 + the marks, and there are m - n + 2 areas: what the packed map says
-- Assumes nothing.
use mathlib.Core.Path.{◌≡◌, refl, sym, ap, ◌∙◌}
use mathlib.Core.Logic.{◌≢◌, inl, inr}
use mathlib.Core.Bool.{Bool, true, false, not, ◌&&◌}
use Prim.Native.Nat.{ℕ, ◌+◌, ◌-◌, ◌*◌, ◌<◌}
use native.Mathlib.Omega.{arith}
use lib.Dec.{eqb}
use borrow.Author.Tests.{eq-eqb, ne_eqb, lt-ltb, le-ltb}
use Rattle.count.specs.Below.{pick, count}
use Rattle.count.proofs.Logic.{same_or_not, lt_or_ge, pick_yes, pick_no}
use Rattle.count.proofs.Below.{count_zero, count_same, count_split, count_not}
use Rattle.answers.specs.Answer.{Kind}
use Rattle.orbits.specs.Cycles.{Permutes, cycles}
use Rattle.orbits.proofs.Iter.{permutes_involution}
use Rattle.orbits.proofs.Conjugate.{count_renamed}
use Rattle.words.specs.Brackets.{is_opens, opens, closes, neither}
use Rattle.words.specs.declared.family.Family.{Family}
use Rattle.words.specs.declared.family.Family.TheVariants.{Round as round, Square as square}
use Rattle.words.specs.Word.{same_family, seen}
use Rattle.words.proofs.Numbers.{openings}
use Rattle.drawing.specs.Drawing.{Drawing, borders, ends, border, is_marked, around, cells, end_at, is_second}
use Rattle.drawing.specs.Checks.{mark_count}
use Rattle.drawing.proofs.Ends.{count_borders}
use Rattle.format.specs.Pack.{word_of}
use Rattle.format.specs.Calls.{cells_in}
use Rattle.agreement.specs.Toured.{Toured}
use Rattle.agreement.proofs.Positions.{partner, end_permutes, partner_below, partner_involutive, partner_moves, partner_border, second_after}
use Rattle.agreement.proofs.Nesting.{family_of, in_family, met_in}
use Rattle.agreement.proofs.Steps.{cell_word}
use Rattle.agreement.proofs.Cells.{cycles_agree}

-- the test of a family, by the mark
round_marked : (t : Bool) → same_family round (family_of t) ≡ t
round_marked true = refl
round_marked false = refl

square_marked : (t : Bool) → same_family square (family_of t) ≡ not t
square_marked true = refl
square_marked false = refl

pub round_count : (D : Drawing) → count (in_family D round) (borders D) ≡ mark_count D
unfolding mark_count
round_count D = count_same (in_family D round) (is_marked D) (borders D) (λ e l. round_marked (is_marked D e))

pub square_count : (D : Drawing) → count (in_family D square) (borders D) + mark_count D ≡ borders D
unfolding mark_count
square_count D =
    let same = count_same (in_family D square) (λ e. not (is_marked D e)) (borders D) (λ e l. square_marked (is_marked D e)) in
    omega (arith, count_not (is_marked D) (borders D))

-- a letter of family K that does not close opens
opens_test : (s t : Bool) → is_opens (pick s (pick t closes opens) neither) ≡ s && not t
opens_test true true = refl
opens_test true false = refl
opens_test false true = refl
opens_test false false = refl

module _ {D : Drawing} (T : Toured D) where
  -- to go to the partner permutes the positions
  partner_permutes : Permutes (ends D) (partner D)
  partner_permutes = permutes_involution (ends D) (partner D) (partner_below T) (partner_involutive T)

  -- of two partners one is the second place
  second_partner : (p : ℕ) → p < ends D → is_second D (partner D p) ≡ not (is_second D p)
  second_partner p l =
      let q : ℕ = partner D p in
      let k : q < ends D = partner_below T p l in
      let back : partner D q ≡ p = partner_involutive T p l in
      rw (second_after T p l, second_after T q k, back) (
      elim (lt_or_ge p q) [
        | inl h ↦ rw (lt-ltb p q h, le-ltb q p (omega arith))
        | inr h ↦ let d : q ≢ p = partner_moves T p l in rw (le-ltb p q h, lt-ltb q p (omega arith))
      ])

  module _ (S : ℕ → Bool) where
    pub places_count : count (λ p. S (border (end_at D p))) (ends D) ≡ 2 * count S (borders D)
    unfolding ends
    places_count = count_renamed (end_permutes T) (λ h. S (border h)) ∙ count_borders S (borders D)

    pub first_places : count (λ p. S (border (end_at D p)) && not (is_second D p)) (ends D) ≡ count S (borders D)
    first_places =
        let firsts : ℕ → Bool = λ p. S (border (end_at D p)) && not (is_second D p) in
        let seconds : ℕ → Bool = λ p. S (border (end_at D p)) && is_second D p in
        let same : count seconds (ends D) ≡ count firsts (ends D)
        = sym (count_renamed partner_permutes seconds)
        ∙ count_same (λ p. seconds (partner D p)) firsts (ends D)
        (λ p l. rw (ap S (partner_border T p l), second_partner p l)) in
        omega (arith, count_split (λ p. S (border (end_at D p))) (is_second D) (ends D), places_count)

  pub openings_count : (K : Family) → openings (seen K (word_of D)) (ends D) ≡ count (in_family D K) (borders D)
  unfolding seen word_of
  openings_count K =
      count_same (λ p. is_opens (seen K (word_of D) p)) (λ p. met_in D K p && not (is_second D p)) (ends D)
      (λ p l. opens_test (met_in D K p) (is_second D p))
      ∙ first_places (in_family D K)

  pub openings_round : openings (seen round (word_of D)) (ends D) ≡ mark_count D
  openings_round = openings_count round ∙ round_count D

  pub openings_square : openings (seen square (word_of D)) (ends D) + mark_count D ≡ borders D
  openings_square = rw (openings_count square) (square_count D)

  pub letters_count : (K : Family) → count (λ p. same_family K ((word_of D).letter p).family) (ends D) ≡ 2 * count (in_family D K) (borders D)
  unfolding word_of
  letters_count K = places_count (in_family D K)

  pub letters_round : count (λ p. same_family round ((word_of D).letter p).family) (ends D) ≡ 2 * mark_count D
  letters_round = letters_count round ∙ ap (λ k. 2 * k) (round_count D)

  pub cells_agree : (c : Kind) → cells D c ≡ 1 + openings (cell_word D c) (ends D)
  unfolding cells ends
  cells_agree c =
      elim (same_or_not (borders D) 0) [
        | inl z ↦
            let none : ends D ≡ 0 = omega arith in
            pick_yes (eqb (borders D) 0) 1 (cycles (ends D) (around D c)) (eq-eqb (borders D) 0 z)
            ∙ rw none (omega (arith, count_zero (λ q. is_opens (cell_word D c q))))
        | inr d ↦
            pick_no (eqb (borders D) 0) 1 (cycles (ends D) (around D c)) (ne_eqb (borders D) 0 d) ∙ cycles_agree T c (omega arith)
      ]

  pub points_count : cells D Kind.point ≡ 1 + mark_count D
  points_count = cells_agree Kind.point ∙ ap (λ k. 1 + k) openings_round

  pub areas_count : cells D Kind.area ≡ borders D + 2 - cells D Kind.point
  areas_count = omega (arith, cells_agree Kind.area, openings_square, points_count)

  pub cells_in_lem : (c : Kind) → cells D c ≡ cells_in (record { m = borders D; n = cells D Kind.point }) c
  cells_in_lem Kind.point = refl
  cells_in_lem Kind.area = areas_count
