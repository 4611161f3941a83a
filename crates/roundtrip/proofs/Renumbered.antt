-- Unpacking the word of a drawing gives the drawing renumbered.
--
-- new_end_lem             == the new number of the end at position p is the end that unpacking puts there
-- old_end_lem             == the end with new number g is the end at the position where unpacking puts g
-- unpacked_renumbered == unpacking the drawing's word gives the drawing renumbered
-- Assumes nothing.
use mathlib.Core.Path.{◌≡◌, refl, sym, ap, ap₂, ◌∙◌}
use mathlib.Core.Logic.{⊎_elim}
use Prim.Native.Nat.{ℕ, ◌+◌, ◌*◌, ◌/◌, ◌%◌, ◌<◌, ◌≤◌, min}
use native.Mathlib.Omega.{arith}
use lib.ListN.{get_or}
use lib.Dec.{eqb}
use borrow.Author.Tests.{eqb-true, eq-eqb}
use Rattle.count.specs.Below.{pick, table}
use Rattle.count.proofs.Logic.{same_or_not}
use Rattle.count.proofs.Below.{find_has, find_at_most}
use Rattle.words.specs.Brackets.{Balanced, step}
use Rattle.words.specs.declared.family.Family.{Family}
use Rattle.words.specs.declared.family.Family.TheVariants.{Round as round}
use Rattle.words.specs.Word.{seen, mate_in}
use Rattle.bits.specs.Letters.{family_bit}
use Rattle.bits.proofs.Letters.{bit_back}
use Rattle.drawing.specs.Drawing.{Drawing, borders, ends, border, other, turn, is_marked, end_at, position_of}
use Rattle.drawing.specs.Renumbered.{new_border, new_end, old_end, renumbered}
use Rattle.drawing.proofs.Ends.{across, border_below}
use Rattle.format.specs.Pack.{opens_before, end_in, position_in, drawing_of, word_of}
use Rattle.count.proofs.Lists.{table_same}
use Rattle.roundtrip.specs.Faithful.{Faithful}
use Rattle.roundtrip.proofs.Ends.{end_in_min, end_in_injective, position_in_below, position_in_end}

module _ (D : Drawing) where
  new_border_is : (e : ℕ) → new_border D e ≡ opens_before (word_of D) (min (position_of D (2 * e)) (position_of D (2 * e + 1)))
  unfolding new_border opens_before word_of
  new_border_is e = refl

  new_end_is : (h : ℕ) → new_end D h ≡ 2 * new_border D (border h) + pick ((word_of D).letter (position_of D h)).closing 1 0
  unfolding new_end word_of
  new_end_is h = refl

module _ (D : Drawing) (fair : Faithful D) where
  bal : (K : Family) → Balanced (seen K (word_of D)) (word_of D).size
  unfolding word_of
  bal = fair.balanced

  -- the two positions of the border at p
  first_place : (p : ℕ) → p < ends D
      → min (position_of D (2 * border (end_at D p))) (position_of D (2 * border (end_at D p) + 1)) ≡ min p (mate_in (word_of D) p)
  unfolding border
  first_place p l =
      let h = end_at D p in
      let here : position_of D h ≡ p = fair.meets.position_end p l in
      let there : position_of D (other h) ≡ mate_in (word_of D) p = fair.crosses p l in
      ⊎_elim
      (λ z. let a : 2 * (h / 2) ≡ h = omega arith in
      let b : 2 * (h / 2) + 1 ≡ other h = omega (arith, (across h).even z) in
      ap₂ (λ x y. min (position_of D x) (position_of D y)) a b ∙ ap₂ min here there)
      (λ n. let a : 2 * (h / 2) ≡ other h = omega (arith, (across h).odd (omega arith)) in
      let b : 2 * (h / 2) + 1 ≡ h = omega arith in
      ap₂ (λ x y. min (position_of D x) (position_of D y)) a b ∙ ap₂ min there here ∙ omega arith)
      (same_or_not (h % 2) 0)

  pub new_end_lem : (p : ℕ) → p < ends D → new_end D (end_at D p) ≡ end_in (word_of D) p
  unfolding word_of
  new_end_lem p l =
      let v = word_of D in
      let b : new_border D (border (end_at D p)) ≡ opens_before v (min p (mate_in v p))
      = new_border_is D (border (end_at D p)) ∙ ap (opens_before v) (first_place p l) in
      new_end_is D (end_at D p)
      ∙ ap₂ (λ x q. 2 * x + pick (v.letter q).closing 1 0) b (fair.meets.position_end p l)
      ∙ end_in_min v bal p l

  -- the same, of an end
  new_end_at : (h : ℕ) → h < ends D → new_end D h ≡ end_in (word_of D) (position_of D h)
  new_end_at h l = ap (new_end D) (sym (fair.meets.end_position h l)) ∙ new_end_lem (position_of D h) (fair.meets.position_below h l)

  pub old_end_lem : (g : ℕ) → g < ends D → old_end D g ≡ end_at D (position_in (word_of D) g)
  unfolding old_end word_of
  old_end_lem g l =
      let v = word_of D in
      let q = position_in v g in
      let b : q < ends D = position_in_below v bal g l in
      let e : new_end D (end_at D q) ≡ g = new_end_lem q b ∙ position_in_end v bal g l in
      let c : end_at D q < ends D = fair.meets.end_below q b in
      let o : old_end D g < ends D = omega (arith, find_at_most (λ h. eqb (new_end D h) g) (ends D) (end_at D q) c (eq-eqb (new_end D (end_at D q)) g e)) in
      let f : new_end D (old_end D g) ≡ g = eqb-true (new_end D (old_end D g)) g (find_has (λ h. eqb (new_end D h) g) (ends D) o) in
      let s : position_of D (old_end D g) ≡ q
      = end_in_injective v bal (position_of D (old_end D g)) q (fair.meets.position_below (old_end D g) o) b
      (sym (new_end_at (old_end D g) o) ∙ f ∙ sym (position_in_end v bal g l)) in
      sym (fair.meets.end_position (old_end D g) o) ∙ ap (end_at D) s

  turning_at : (g : ℕ) → g < ends D → end_in (word_of D) (step (seen round (word_of D)) (ends D) (position_in (word_of D) g)) ≡ new_end D (turn D (old_end D g))
  unfolding word_of
  turning_at g l =
      let v = word_of D in
      let q = position_in v g in
      let b : q < ends D = position_in_below v bal g l in
      ap (end_in v) (sym (fair.steps q b))
      ∙ sym (new_end_at (turn D (end_at D q)) (fair.turns.below (end_at D q) (fair.meets.end_below q b)))
      ∙ ap (λ x. new_end D (turn D x)) (sym (old_end_lem g l))

  mark_at : (e : ℕ) → e < borders D → family_bit ((word_of D).letter (position_in (word_of D) (2 * e))).family ≡ get_or D.marks (border (old_end D (2 * e))) 0
  unfolding word_of is_marked ends
  mark_at e l =
      let v = word_of D in
      let k : 2 * e < ends D = omega arith in
      let q = position_in v (2 * e) in
      let b : q < ends D = position_in_below v bal (2 * e) k in
      let m : get_or D.marks (border (end_at D q)) 0 ≤ 1
      = fair.range.marks (border (end_at D q)) (border_below (borders D) (end_at D q) (fair.meets.end_below q b)) in
      bit_back (get_or D.marks (border (end_at D q)) 0) (omega arith)
      ∙ ap (λ x. get_or D.marks (border x) 0) (sym (old_end_lem (2 * e) k))

  pub unpacked_renumbered : drawing_of (word_of D) ≡ renumbered D
  unfolding drawing_of renumbered word_of ends
  unpacked_renumbered =
      let v = word_of D in
      let half : 2 * borders D / 2 ≡ borders D = omega arith in
      let bit : ℕ → ℕ = λ e. family_bit (v.letter (position_in v (2 * e))).family in
      ap₂ (λ t k. record { turning = t; marks = k; start = 0 })
      (table_same (λ g. end_in v (step (seen round v) (ends D) (position_in v g))) (λ g. new_end D (turn D (old_end D g))) (ends D) turning_at)
      (ap (table bit) half ∙ table_same bit (λ e. get_or D.marks (border (old_end D (2 * e))) 0) (borders D) mark_at)
