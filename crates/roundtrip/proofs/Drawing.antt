-- The drawing of a word that is balanced in both families: its turning list, marks, tour, points and areas.
--
-- drawing_half, drawing_ends == half as many borders as letters, as many ends
-- drawing_turn    == the entry of the end at p is the end at the next position about p's point
-- drawing_marked  == a border is marked exactly if its letters are round
-- drawing_around  == the next end about a point, along an area, is the end at the step of its family
-- drawing_walk    == after the end at p comes the end at the next position
-- drawing_tour    == the tour passes the ends in the order of positions
-- drawing_position == each end has its position in the tour
-- drawing_meets   == the tour meets all ends, each once
-- drawing_permutes == the turning list is a permutation
-- drawing_cells   == one point more than round openings, one area more than square ones
-- drawing_borders, drawing_points, drawing_areas == of a word that fits m and n: m borders, n points, m + 2 - n areas
-- Assumes nothing.
use mathlib.Core.Path.{◌≡◌, refl, sym, ap, ◌∙◌}
use mathlib.Core.Logic.{⊎_elim}
use mathlib.Core.Bool.{not}
use Prim.Native.Nat.{ℕ, zero, suc, ◌+◌, ◌-◌, ◌*◌, ◌/◌, ◌<◌}
use native.Mathlib.Numerals.{add-one}
use native.Mathlib.Omega.{arith}
use lib.Dec.{eqb}
use borrow.Author.Tests.{eq-eqb, ne_eqb}
use Rattle.count.proofs.Logic.{same_or_not, true_or_false, pick_yes, pick_no}
use Rattle.count.proofs.Below.{count_zero, find_same}
use Rattle.count.proofs.Lists.{table_length, table_get_d}
use Rattle.answers.specs.Answer.{Kind}
use Rattle.orbits.specs.Cycles.{iter, Permutes, cycles}
use Rattle.orbits.proofs.Conjugate.{conjugate_permutes, conjugate_cycles}
use Rattle.words.specs.Brackets.{Balanced, is_opens, mate, next, step}
use Rattle.words.specs.declared.family.Family.{Family}
use Rattle.words.specs.declared.family.Family.TheVariants.{Round as round}
use Rattle.words.specs.Word.{same_family, Word, seen, mate_in}
use Rattle.words.proofs.Mate.{mate_below, mate_involutive}
use Rattle.words.proofs.Step.{next_plain, next_last, step_permutes}
use Rattle.words.proofs.Numbers.{openings}
use Rattle.words.proofs.Points.{cycles_step}
use Rattle.bits.specs.Letters.{family_bit}
use Rattle.bits.proofs.Letters.{family_same}
use Rattle.drawing.specs.Drawing.{borders, ends, border, turn, is_marked, over, walk, around, cells, end_at, position_of}
use Rattle.drawing.proofs.Ends.{over_yes, over_no}
use Rattle.tours.specs.Tour.{MeetsAll}
use Rattle.format.specs.Calls.{family_of_kind}
use Rattle.format.specs.Pack.{opens_before, end_in, position_in, drawing_of}
use Rattle.format.specs.Fits.{Fits}
use Rattle.words.proofs.Mates.{mate_own, mate_else, by_family, mate_in_below, mate_in_family, mate_in_closing, mate_in_closes, mate_crossing}
use Rattle.roundtrip.proofs.Openings.{openings_all, openings_cell}
use Rattle.roundtrip.proofs.Ends.{end_in_opens, end_in_closes, end_in_crossing, end_in_below, end_in_permutes, position_in_lem, position_in_below, position_in_end}

module _ (w : Word) (bal : (K : Family) → Balanced (seen K w) w.size) where
  pub drawing_half : borders (drawing_of w) ≡ w.size / 2
  unfolding borders drawing_of
  drawing_half = table_length (λ e. family_bit (w.letter (position_in w (2 * e))).family) (w.size / 2)

  pub drawing_ends : ends (drawing_of w) ≡ w.size
  unfolding ends
  drawing_ends = omega (arith, drawing_half, openings_all w bal)

  pub drawing_turn : (p : ℕ) → p < w.size → turn (drawing_of w) (end_in w p) ≡ end_in w (step (seen round w) w.size p)
  unfolding turn drawing_of
  drawing_turn p l =
      table_get_d (λ h. end_in w (step (seen round w) w.size (position_in w h))) w.size (end_in w p) 0 (end_in_below w bal p l)
      ∙ ap (λ x. end_in w (step (seen round w) w.size x)) (position_in_lem w bal p l)

  -- the even end of p's border stands at a letter of p's family
  family_even : (p : ℕ) → p < w.size → (w.letter (position_in w (2 * border (end_in w p)))).family ≡ (w.letter p).family
  unfolding border
  family_even p l = ⊎_elim
      (λ t. let e : 2 * (end_in w p / 2) ≡ end_in w (mate_in w p)
      = omega (arith, end_in_closes w p t, end_in_opens w (mate_in w p) (mate_in_closing w bal p l ∙ ap not t)) in
      ap (λ x. (w.letter (position_in w x)).family) e
      ∙ ap (λ x. (w.letter x).family) (position_in_lem w bal (mate_in w p) (mate_in_below w bal p l)) ∙ mate_in_family w bal p l)
      (λ f. let e : 2 * (end_in w p / 2) ≡ end_in w p = omega (arith, end_in_opens w p f) in
      ap (λ x. (w.letter (position_in w x)).family) e ∙ ap (λ x. (w.letter x).family) (position_in_lem w bal p l))
      (true_or_false (w.letter p).closing)

  pub drawing_marked : (p : ℕ) → p < w.size → is_marked (drawing_of w) (border (end_in w p)) ≡ same_family round (w.letter p).family
  unfolding is_marked drawing_of border
  drawing_marked p l =
      let k : end_in w p < w.size = end_in_below w bal p l in
      let b : end_in w p / 2 < w.size / 2 = omega (arith, openings_all w bal) in
      ap (λ x. eqb x 1) (table_get_d (λ e. family_bit (w.letter (position_in w (2 * e))).family) (w.size / 2) (end_in w p / 2) 0 b
      ∙ ap family_bit (family_even p l))
      ∙ sym (family_same round (w.letter p).family)

  drawing_over : (p : ℕ) → p < w.size → over (is_marked (drawing_of w)) (end_in w p) ≡ end_in w (mate (seen round w) w.size p)
  drawing_over p l = ⊎_elim
      (λ h. over_yes (is_marked (drawing_of w)) (end_in w p) (drawing_marked p l ∙ ap (same_family round) h.0)
      ∙ sym (end_in_crossing w bal p l) ∙ ap (end_in w) (sym (mate_own w round p h.0)))
      (λ h. over_no (is_marked (drawing_of w)) (end_in w p) (drawing_marked p l ∙ h.1)
      ∙ ap (end_in w) (sym (mate_else w round p h.1)))
      (by_family round (w.letter p).family)

  pub drawing_walk : (p : ℕ) → p < w.size → walk (drawing_of w) (is_marked (drawing_of w)) (end_in w p) ≡ end_in w (next w.size p)
  unfolding walk step
  drawing_walk p l =
      ap (turn (drawing_of w)) (drawing_over p l)
      ∙ drawing_turn (mate (seen round w) w.size p) (mate_below (seen round w) w.size (bal round) p l)
      ∙ ap (λ x. end_in w (next w.size x)) (mate_involutive (seen round w) w.size (bal round) p l)

  end_in_zero : 0 < w.size → end_in w 0 ≡ 0
  unfolding opens_before
  end_in_zero z = ⊎_elim
      (λ t. absurd (omega (arith, mate_in_closes w bal 0 z t)))
      (λ f. end_in_opens w 0 f ∙ omega (arith, count_zero (λ q. not (w.letter q).closing)))
      (true_or_false (w.letter 0).closing)

  pub drawing_tour : (p : ℕ) → p < w.size → end_at (drawing_of w) p ≡ end_in w p
  unfolding end_at iter drawing_of
  drawing_tour zero l = sym (end_in_zero l)
  drawing_tour (suc p) l =
      ap (walk (drawing_of w) (is_marked (drawing_of w))) (drawing_tour p (omega arith)) ∙ drawing_walk p (omega arith)
      ∙ ap (end_in w) (next_plain w.size p (omega arith) ∙ add-one p)

  pub drawing_around : (c : Kind) (p : ℕ) → p < w.size
      → around (drawing_of w) c (end_in w p) ≡ end_in w (step (seen (family_of_kind c) w) w.size p)
  unfolding around walk over step
  drawing_around Kind.point p l = drawing_turn p l
  drawing_around Kind.area p l =
      ap (turn (drawing_of w)) (sym (end_in_crossing w bal p l)) ∙ drawing_turn (mate_in w p) (mate_in_below w bal p l)
      ∙ ap (λ x. end_in w (next w.size x)) (mate_crossing w bal round p l)

  pub drawing_permutes : Permutes (ends (drawing_of w)) (turn (drawing_of w))
  drawing_permutes = rw drawing_ends
      (conjugate_permutes (turn (drawing_of w)) (step_permutes (seen round w) w.size (bal round)) (end_in_permutes w bal) drawing_turn)

  pub drawing_position : (h : ℕ) → position_of (drawing_of w) h ≡ position_in w h
  unfolding position_of position_in
  drawing_position h = rw drawing_ends
      (find_same (λ p. eqb (end_at (drawing_of w) p) h) (λ p. eqb (end_in w p) h) w.size (λ p l. ap (λ x. eqb x h) (drawing_tour p l)))

  -- after the last end comes the first again
  comes_round : (n : ℕ) → w.size ≡ n → end_at (drawing_of w) n ≡ (drawing_of w).start
  unfolding end_at iter drawing_of
  comes_round zero e = refl
  comes_round (suc n) e =
      ap (walk (drawing_of w) (is_marked (drawing_of w))) (drawing_tour n (omega arith)) ∙ drawing_walk n (omega arith)
      ∙ ap (end_in w) (next_last w.size n (omega arith)) ∙ end_in_zero (omega arith)

  pub drawing_meets : MeetsAll (drawing_of w)
  drawing_meets = record {
    end_below = rw drawing_ends (λ p l. rw (drawing_tour p l) (end_in_below w bal p l));
    position_below = rw drawing_ends (λ h l. rw (drawing_position h) (position_in_below w bal h l));
    end_position = rw drawing_ends (λ h l. rw (drawing_position h) (drawing_tour (position_in w h) (position_in_below w bal h l) ∙ position_in_end w bal h l));
    position_end = rw drawing_ends (λ p l. drawing_position (end_at (drawing_of w) p) ∙ ap (position_in w) (drawing_tour p l) ∙ position_in_lem w bal p l);
    comes_back = comes_round (ends (drawing_of w)) (sym drawing_ends);
  }

  no_openings : (K : Family) → w.size ≡ 0 → openings (seen K w) w.size ≡ 0
  no_openings K e = ap (openings (seen K w)) e ∙ count_zero (λ q. is_opens (seen K w q))

  pub drawing_cells : (c : Kind) → cells (drawing_of w) c ≡ 1 + openings (seen (family_of_kind c) w) w.size
  unfolding cells
  drawing_cells c =
      let D = drawing_of w in
      let K = family_of_kind c in
      ⊎_elim
      (λ e. pick_yes (eqb (borders D) 0) 1 (cycles (ends D) (around D c)) (eq-eqb (borders D) 0 e)
      ∙ omega (arith, no_openings K (omega (arith, drawing_half, openings_all w bal))))
      (λ n. pick_no (eqb (borders D) 0) 1 (cycles (ends D) (around D c)) (ne_eqb (borders D) 0 n)
      ∙ ap (λ x. cycles x (around D c)) drawing_ends
      ∙ conjugate_cycles (around D c) (step_permutes (seen K w) w.size (bal K)) (end_in_permutes w bal) (drawing_around c)
      ∙ cycles_step (seen K w) w.size (bal K) (omega (arith, drawing_half)))
      (same_or_not (borders D) 0)

module _ (m n : ℕ) (w : Word) (fits : Fits (record { m = m; n = n }) w) where
  pub drawing_borders : borders (drawing_of w) ≡ m
  drawing_borders = omega (arith, drawing_half w fits.nested, fits.size)

  pub drawing_points : cells (drawing_of w) Kind.point ≡ n
  drawing_points = drawing_cells w fits.nested Kind.point ∙ openings_cell m n w fits Kind.point

  pub drawing_areas : cells (drawing_of w) Kind.area ≡ m + 2 - n
  drawing_areas = drawing_cells w fits.nested Kind.area ∙ openings_cell m n w fits Kind.area
