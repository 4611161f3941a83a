-- The drawing of a word passes checks 1 to 7.
--
-- meets_joined    == a tour that meets all ends joins all points
-- drawing_lengths, drawing_range, drawing_distinct == the drawing of a word passes 1, 3 and 4
-- drawing_joined  == its marked borders join all points
-- drawing_few     == they are fewer than the points
-- drawing_flat    == no two unmarked borders alternate in its tour
-- drawing_passes  == the drawing of a word that fits passes 1 to 7
-- Assumes nothing.
use mathlib.Core.Path.{◌≡◌, refl, sym, ap, ◌∙◌}
use mathlib.Core.Logic.{⊎_elim}
use mathlib.Core.Bool.{true, false, not}
use Prim.Native.Nat.{ℕ, ◌*◌, ◌/◌, ◌<◌, ◌≤◌}
use native.Mathlib.Omega.{arith}
use lib.ListN.{length}
use Rattle.count.specs.Below.{count}
use Rattle.count.proofs.Logic.{true_or_false, both}
use Rattle.count.proofs.Below.{count_injection}
use Rattle.count.proofs.Lists.{table_length, table_get_d}
use Rattle.answers.specs.Answer.{Kind}
use Rattle.orbits.specs.Cycles.{Permutes, SameCycle}
use Rattle.orbits.proofs.Same.{same_cycle_trans, same_cycle_sym, same_cycle_induct}
use Rattle.words.specs.Brackets.{Balanced, is_opens, step}
use Rattle.words.specs.declared.family.Family.{Family}
use Rattle.words.specs.declared.family.Family.TheVariants.{Round as round, Square as square}
use Rattle.words.specs.Word.{same_family, Word, seen, mate_in}
use Rattle.words.proofs.Numbers.{openings}
use Rattle.bits.specs.Letters.{family_bit}
use Rattle.drawing.specs.Drawing.{Drawing, borders, ends, border, turn, is_marked, over, walk, end_at, position_of}
use Rattle.drawing.specs.Checks.{LengthsFit, InRange, Distinct, Linked, here, turned, across, Joined, FewMarks, mark_count, Crossing, PassesSeven}
use Rattle.drawing.proofs.Ends.{over_yes, over_no, walk_permutes}
use Rattle.tours.specs.Tour.{MeetsAll}
use Rattle.format.specs.Pack.{end_in, position_in, drawing_of}
use Rattle.format.specs.Fits.{Fits}
use Rattle.words.proofs.Mates.{mate_in_nested}
use Rattle.roundtrip.proofs.Openings.{opens_seen}
use Rattle.roundtrip.proofs.Ends.{end_in_closes, border_pairs, position_in_below, position_in_end}
use Rattle.roundtrip.proofs.Drawing.{drawing_half, drawing_ends, drawing_borders, drawing_marked, drawing_tour, drawing_meets, drawing_permutes, drawing_cells}

module _ (D : Drawing) where
  linked_over : (g h : ℕ) → Linked D (is_marked D) g h → Linked D (is_marked D) g (over (is_marked D) h)
  linked_over g h k = ⊎_elim
      (λ t. rw (over_yes (is_marked D) h t) (across h t k))
      (λ f. rw (over_no (is_marked D) h f) k)
      (true_or_false (is_marked D (border h)))

  linked_walk : (g h : ℕ) → Linked D (is_marked D) g h → Linked D (is_marked D) g (walk D (is_marked D) h)
  unfolding walk
  linked_walk g h k = turned (over (is_marked D) h) (linked_over g h k)

  pub meets_joined : MeetsAll D → Permutes (ends D) (turn D) → Joined D
  unfolding end_at
  meets_joined meets perm =
      let W : Permutes (ends D) (walk D (is_marked D)) = walk_permutes D (is_marked D) perm in
      let reached : (h : ℕ) → h < ends D → SameCycle (walk D (is_marked D)) D.start h
      = λ h l. record { steps = position_of D h; reach = meets.end_position h l } in
      record {
        link = λ g h l k.
            let s : D.start < ends D = meets.end_below 0 (omega arith) in
            same_cycle_induct W (Linked D (is_marked D) g) g h (λ z b. linked_walk g z) l here
            (same_cycle_trans (same_cycle_sym W s (reached g l)) (reached h k));
      }

else_square : (F : Family) → same_family round F ≡ false → F ≡ square
else_square round e = cc
else_square square e = refl

bit_small : (F : Family) → family_bit F ≤ 1
bit_small round = omega arith
bit_small square = omega arith

module _ (w : Word) (bal : (K : Family) → Balanced (seen K w) w.size) where
  pub drawing_joined : Joined (drawing_of w)
  drawing_joined = meets_joined (drawing_of w) (drawing_meets w bal) (drawing_permutes w bal)

  pub drawing_range : InRange (drawing_of w)
  unfolding drawing_of
  drawing_range = record {
    entries = (drawing_permutes w bal).below;
    start = omega arith;
    marks = λ e l.
        let b : e < w.size / 2 = omega (arith, drawing_half w bal) in
        rw (table_get_d (λ e. family_bit (w.letter (position_in w (2 * e))).family) (w.size / 2) e 0 b)
        (bit_small (w.letter (position_in w (2 * e))).family);
  }

  pub drawing_distinct : Distinct (drawing_of w)
  drawing_distinct = record {
    differ = λ i j l k e. (let s : i ≡ j = (drawing_permutes w bal).injective i j (omega arith) k e in omega arith);
  }

  even_below : (e : ℕ) → e < borders (drawing_of w) → 2 * e < w.size
  even_below e l = omega (arith, drawing_half w bal)

  -- the even end of a marked border stands at a round opening
  marked_opens : (e : ℕ) → e < borders (drawing_of w) → is_marked (drawing_of w) e ≡ true → is_opens (seen round w (position_in w (2 * e))) ≡ true
  unfolding border
  marked_opens e b t =
      let p = position_in w (2 * e) in
      let l : p < w.size = position_in_below w bal (2 * e) (even_below e b) in
      let s : end_in w p ≡ 2 * e = position_in_end w bal (2 * e) (even_below e b) in
      let z : end_in w p / 2 ≡ e = omega arith in
      let f : (w.letter p).closing ≡ false = ⊎_elim (λ c. absurd (omega (arith, end_in_closes w p c))) (λ f. f) (true_or_false (w.letter p).closing) in
      opens_seen w round p ∙ both (same_family round (w.letter p).family) (not (w.letter p).closing)
      (sym (drawing_marked w bal p l) ∙ ap (is_marked (drawing_of w)) z ∙ t) (ap not f)

  pub drawing_few : FewMarks (drawing_of w)
  unfolding mark_count
  drawing_few =
      let D = drawing_of w in
      let k : count (is_marked D) (borders D) ≤ openings (seen round w) w.size
      = count_injection (is_marked D) (λ q. is_opens (seen round w q)) (λ e. position_in w (2 * e)) (borders D) w.size
      (λ e l t. position_in_below w bal (2 * e) (even_below e l))
      marked_opens
      (λ x y l k s t e. let f : 2 * x ≡ 2 * y
      = sym (position_in_end w bal (2 * x) (even_below x l)) ∙ ap (end_in w) e ∙ position_in_end w bal (2 * y) (even_below y k) in
      omega arith) in
      record { fewer = omega (arith, drawing_cells w bal Kind.point) }

  -- two positions of one border are partners
  mates : (p r : ℕ) → p < r → r < w.size → border (end_at (drawing_of w) p) ≡ border (end_at (drawing_of w) r) → r ≡ mate_in w p
  mates p r i l e = ⊎_elim
      (λ s. absurd (omega arith))
      (λ s. s)
      (border_pairs w bal p r (omega arith) l
      (ap border (sym (drawing_tour w bal p (omega arith))) ∙ e ∙ ap border (drawing_tour w bal r l)))

  unmarked_square : (p : ℕ) → p < w.size → is_marked (drawing_of w) (border (end_at (drawing_of w) p)) ≡ false → (w.letter p).family ≡ square
  unmarked_square p l e =
      else_square (w.letter p).family
      (sym (drawing_marked w bal p l) ∙ ap (λ x. is_marked (drawing_of w) (border x)) (sym (drawing_tour w bal p l)) ∙ e)

  pub drawing_flat : (a b : ℕ) → Crossing (drawing_of w) a b → ⊥
  drawing_flat a b c =
      let t = c.alternate in
      let l : t.s < w.size = rw (drawing_ends w bal) at t.s_end in
      let i : t.p < t.q = t.p_q in
      let j : t.q < t.r = t.q_r in
      let k : t.r < t.s = t.r_s in
      let r_is : t.r ≡ mate_in w t.p = mates t.p t.r (omega arith) (omega arith) (t.at_p ∙ sym t.at_r) in
      let s_is : t.s ≡ mate_in w t.q = mates t.q t.s (omega arith) l (t.at_q ∙ sym t.at_s) in
      let p_square : (w.letter t.p).family ≡ square
      = unmarked_square t.p (omega arith) (ap (is_marked (drawing_of w)) t.at_p ∙ c.first_unmarked) in
      let q_square : (w.letter t.q).family ≡ square
      = unmarked_square t.q (omega arith) (ap (is_marked (drawing_of w)) t.at_q ∙ c.second_unmarked) in
      mate_in_nested w bal t.p t.q (omega arith) (omega arith) (q_square ∙ sym p_square) i (omega arith) (omega arith)

pub drawing_lengths : (m n : ℕ) (w : Word) → Fits (record { m = m; n = n }) w → LengthsFit (drawing_of w)
unfolding borders drawing_of
drawing_lengths m n w fits =
    let t : length (drawing_of w).turning ≡ w.size
    = table_length (λ h. end_in w (step (seen round w) w.size (position_in w h))) w.size in
    let b : length (drawing_of w).marks ≡ m = drawing_borders m n w fits in
    record { half = omega (arith, fits.size); most = omega (arith, fits.size, fits.m_most) }

pub drawing_passes : (m n : ℕ) (w : Word) → Fits (record { m = m; n = n }) w → PassesSeven (drawing_of w)
drawing_passes m n w fits =
    let bal = fits.nested in
    record {
      six = record {
        lengths = drawing_lengths m n w fits;
        range = drawing_range w bal;
        entries = drawing_distinct w bal;
        joins = drawing_joined w bal;
        few = drawing_few w bal;
      };
      flat = drawing_flat w bal;
    }
