-- Points and areas of the drawing are those of the word: the same ends together, the same numbers, the same first places.
--
-- same_cell          == two places have one number exactly if their ends are about one point (along one area)
-- cell_inner         == and exactly if they have one innermost open bracket
-- low_position_inner == the lowest position of the point (area) is that bracket's place
-- number_agrees      == the book's number is the word's
-- lowest_agrees, turn_lowest == the lowest places are the first positions, and a turn arrives at one from the last position
-- cycles_agree       == there are 1 + the openings many cycles
-- first_agrees, size_agrees == first positions and sizes, by number
-- Assumes nothing.
use mathlib.Core.Path.{◌≡◌, sym, ap, ◌∙◌}
use mathlib.Core.Logic.{◌↔◌}
use mathlib.Core.Bool.{Bool}
use Prim.Native.Nat.{ℕ, ◌+◌, ◌<◌}
use native.Mathlib.Omega.{arith}
use lib.Dec.{eqb}
use borrow.Author.Tests.{eqb-true, eq-eqb, ne_eqb}
use Rattle.count.specs.Below.{count}
use Rattle.count.proofs.Logic.{bool_same}
use Rattle.count.proofs.Below.{find_is, find_same, count_same}
use Rattle.answers.specs.Answer.{Kind}
use Rattle.orbits.specs.Cycles.{SameCycle, cycles, leads}
use Rattle.orbits.proofs.Low.{same_cycle_low, low_same_cycle}
use Rattle.orbits.proofs.Conjugate.{conjugate_same_cycle, same_cycle_conjugate, conjugate_cycles, count_renamed}
use Rattle.words.specs.Brackets.{Bracket, inner, Balanced, step, number, is_first, is_last, first, size}
use Rattle.words.specs.declared.family.Family.TheVariants.{Round as round}
use Rattle.words.specs.Word.{seen}
use Rattle.words.proofs.Stack.{inner_le, inner_below, inner_inner}
use Rattle.words.proofs.Step.{step_below, step_permutes}
use Rattle.words.proofs.Numbers.{openings}
use Rattle.words.proofs.Round.{first_step}
use Rattle.words.proofs.Points.{step_cycle, number_cycle, leads_first, cycles_step, number_leads}
use Rattle.drawing.specs.Drawing.{Drawing, ends, turn, around, cell_of, end_at}
use Rattle.drawing.specs.Book.{low_position, is_lowest, number_at, first_position, ends_on}
use Rattle.format.specs.Pack.{word_of}
use Rattle.format.specs.Calls.{family_of_kind, places_in}
use Rattle.agreement.specs.Toured.{Toured}
use Rattle.agreement.proofs.Positions.{end_permutes}
use Rattle.agreement.proofs.Nesting.{word_balanced}
use Rattle.agreement.proofs.Steps.{cell_word, around_permutes, around_end, turn_end}

-- equality is tested alike from either side
same_test : (a b : ℕ) → eqb a b ≡ eqb b a
same_test a b = bool_same (eqb a b) (eqb b a) (λ t. eq-eqb b a (sym (eqb-true a b t))) (λ t. eq-eqb a b (sym (eqb-true b a t)))

module _ {D : Drawing} (T : Toured D) (c : Kind) where
  -- the letters of c's family are balanced
  balance : Balanced (cell_word D c) (ends D)
  balance = word_balanced T (family_of_kind c)

  -- the ends about a point (along an area) are the cycles of the word's step
  cycle_agrees : (p q : ℕ) → p < ends D → q < ends D
      → SameCycle (around D c) (end_at D p) (end_at D q) ↔ SameCycle (step (cell_word D c) (ends D)) p q
  cycle_agrees p q l k =
      let S = step_permutes (cell_word D c) (ends D) balance in (
        same_cycle_conjugate (around D c) S (end_permutes T) (around_end T c) p q l k,
        conjugate_same_cycle (around D c) S (end_permutes T) (around_end T c) p q l,
      )

  pub same_cell : (p q : ℕ) → p < ends D → q < ends D
      → (number (cell_word D c) p ≡ number (cell_word D c) q) ↔ SameCycle (around D c) (end_at D p) (end_at D q)
  same_cell p q l k =
      let n = number_cycle (cell_word D c) (ends D) balance p q l k in
      (λ e. (cycle_agrees p q l k).1 (n.1 e), λ s. n.0 ((cycle_agrees p q l k).0 s))

  pub cell_inner : (p q : ℕ) → p < ends D → q < ends D
      → (cell_of D c (end_at D p) ≡ cell_of D c (end_at D q)) ↔ (inner (cell_word D c) p ≡ inner (cell_word D c) q)
  unfolding cell_of
  cell_inner p q l k =
      let A = around_permutes T c in
      let s = step_cycle (cell_word D c) (ends D) balance p q l k in
      let a : end_at D p < ends D = T.meets.end_below p l in
      let b : end_at D q < ends D = T.meets.end_below q k in (
        λ e. s.0 ((cycle_agrees p q l k).0 (low_same_cycle A (end_at D p) (end_at D q) a b e)),
        λ e. same_cycle_low A a ((cycle_agrees p q l k).1 (s.1 e)),
      )

  pub low_position_inner : (p : ℕ) → p < ends D → low_position D c (end_at D p) ≡ inner (cell_word D c) p
  unfolding low_position
  low_position_inner p l =
      let i : ℕ = inner (cell_word D c) p in
      let j : i < ends D = inner_below (cell_word D c) (ends D) p l in
      find_is (λ q. eqb (cell_of D c (end_at D q)) (cell_of D c (end_at D p))) (ends D) i j
      (eq-eqb (cell_of D c (end_at D i)) (cell_of D c (end_at D p)) ((cell_inner i p j l).1 (inner_inner (cell_word D c) p)))
      (λ y h.
      let below : y < ends D = omega arith in
      ne_eqb (cell_of D c (end_at D y)) (cell_of D c (end_at D p))
      (λ e. let s : inner (cell_word D c) y ≡ i = (cell_inner y p below l).0 e in omega (arith, inner_le (cell_word D c) y)))

  pub number_agrees : (p : ℕ) → p < ends D → number_at D c (end_at D p) ≡ number (cell_word D c) p
  unfolding number_at is_first
  number_agrees p l =
      let i : ℕ = inner (cell_word D c) p in
      let j : i < ends D = inner_below (cell_word D c) (ends D) p l in
      let lowest : ℕ → Bool = λ q. eqb (low_position D c (end_at D q)) q in
      let same : count lowest i ≡ count (leads (ends D) (step (cell_word D c) (ends D))) i
      = count_same lowest (leads (ends D) (step (cell_word D c) (ends D))) i
      (λ q h. let k : q < ends D = omega arith in
      ap (λ x. eqb x q) (low_position_inner q k) ∙ sym (leads_first (cell_word D c) (ends D) balance q k)) in
      let upto : count lowest (low_position D c (end_at D p)) ≡ count lowest i = ap (count lowest) (low_position_inner p l) in
      omega (arith, number_leads (cell_word D c) (ends D) balance p l)

  pub lowest_agrees : (p : ℕ) → p < ends D → is_lowest D c (end_at D p) ≡ is_first (cell_word D c) p
  unfolding is_lowest is_first
  lowest_agrees p l = rw (T.meets.position_end p l, low_position_inner p l) (same_test p (inner (cell_word D c) p))

  pub cycles_agree : 0 < ends D → cycles (ends D) (around D c) ≡ 1 + openings (cell_word D c) (ends D)
  cycles_agree h =
      conjugate_cycles (around D c) (step_permutes (cell_word D c) (ends D) balance) (end_permutes T) (around_end T c)
      ∙ cycles_step (cell_word D c) (ends D) balance h

  pub first_agrees : (k : ℕ) → first_position D c k ≡ first (cell_word D c) (ends D) k
  unfolding first_position first
  first_agrees k =
      find_same (λ p. eqb (number_at D c (end_at D p)) k) (λ p. eqb (number (cell_word D c) p) k) (ends D)
      (λ p l. ap (λ x. eqb x k) (number_agrees p l))

  pub size_agrees : (k : ℕ) → ends_on D c k ≡ places_in (word_of D) c k
  unfolding ends_on places_in size word_of
  size_agrees k =
      sym (count_renamed (end_permutes T) (λ h. eqb (number_at D c h) k))
      ∙ count_same (λ p. eqb (number_at D c (end_at D p)) k) (λ p. eqb (number (cell_word D c) p) k) (ends D)
      (λ p l. ap (λ x. eqb x k) (number_agrees p l))

pub turn_lowest : {D : Drawing} → Toured D → (p : ℕ) → p < ends D
    → is_lowest D Kind.point (turn D (end_at D p)) ≡ is_last (seen round (word_of D)) (ends D) p
turn_lowest {D} T p l =
    let b : ℕ → Bracket = seen round (word_of D) in
    let q : ℕ = step b (ends D) p in
    ap (is_lowest D Kind.point) (turn_end T p l)
    ∙ lowest_agrees T Kind.point q (step_below b (ends D) (word_balanced T round) p l)
    ∙ first_step b (ends D) (word_balanced T round) p l
