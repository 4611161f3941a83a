-- The ends that unpacking puts at the positions of a word that is balanced in both families.
--
-- opening w p       == the first place of p's pair
-- end_in_opens, end_in_closes == the end at an opening, at a closing
-- border_in_lem         == the border at p is numbered by the openings before p's pair
-- border_pairs      == the two positions of a border are partners
-- end_in_min        == the end at p by the lower position of p's pair
-- end_in_crossing   == at p's partner stands the other end
-- end_in_below, end_in_injective, end_in_permutes == the ends are those below 2m, each at one position
-- position_in_lem, position_in_end, position_in_below == position_in undoes end_in
-- Assumes nothing.
use mathlib.Core.Path.{◌≡◌, sym, ap, ap₂, ◌∙◌}
use mathlib.Core.Logic.{◌⊎◌, inl, inr, ⊎_elim}
use mathlib.Core.Bool.{true, false, not}
use Prim.Native.Nat.{ℕ, ◌+◌, ◌*◌, ◌/◌, ◌<◌, min}
use native.Mathlib.Omega.{arith}
use lib.Dec.{eqb}
use borrow.Author.Tests.{eqb-true, eq-eqb}
use Rattle.count.specs.Below.{pick, count, nth}
use Rattle.count.proofs.Logic.{true_or_false, pick_yes, pick_no}
use Rattle.count.proofs.Below.{count_before, nth_of_count, find_has, find_at_most, injective_onto}
use Rattle.orbits.specs.Cycles.{Permutes}
use Rattle.words.specs.Brackets.{Balanced}
use Rattle.words.specs.declared.family.Family.{Family}
use Rattle.words.specs.Word.{Word, seen, mate_in}
use Rattle.drawing.specs.Drawing.{border, other}
use Rattle.drawing.proofs.Ends.{other_even, other_odd, other_moves}
use Rattle.format.specs.Pack.{opens_before, end_in, position_in}
use Rattle.words.proofs.Mates.{mate_in_below, mate_in_involutive, mate_in_closing, mate_in_opens, mate_in_closes}
use Rattle.roundtrip.proofs.Openings.{openings_all}

abbrev pub opening : Word → ℕ → ℕ
opening w p = pick (w.letter p).closing (mate_in w p) p

module _ (w : Word) where
  pub end_in_opens : (p : ℕ) → (w.letter p).closing ≡ false → end_in w p ≡ 2 * opens_before w p
  unfolding end_in
  end_in_opens p e = pick_no (w.letter p).closing (2 * opens_before w (mate_in w p) + 1) (2 * opens_before w p) e

  pub end_in_closes : (p : ℕ) → (w.letter p).closing ≡ true → end_in w p ≡ 2 * opens_before w (mate_in w p) + 1
  unfolding end_in
  end_in_closes p e = pick_yes (w.letter p).closing (2 * opens_before w (mate_in w p) + 1) (2 * opens_before w p) e

  pub border_in_lem : (p : ℕ) → border (end_in w p) ≡ opens_before w (opening w p)
  unfolding border
  border_in_lem p = ⊎_elim
      (λ t. rw t (omega (arith, end_in_closes p t)))
      (λ f. rw f (omega (arith, end_in_opens p f)))
      (true_or_false (w.letter p).closing)

  opening_is : (p : ℕ) → (opening w p ≡ p) ⊎ (opening w p ≡ mate_in w p)
  opening_is p = ⊎_elim (λ t. inr (rw t)) (λ f. inl (rw f)) (true_or_false (w.letter p).closing)

module _ (w : Word) (bal : (K : Family) → Balanced (seen K w) w.size) where
  mate_in_opening : (p : ℕ) → p < w.size → (w.letter p).closing ≡ true → (w.letter (mate_in w p)).closing ≡ false
  mate_in_opening p l t = mate_in_closing w bal p l ∙ ap not t

  opening_below : (p : ℕ) → p < w.size → opening w p < w.size
  opening_below p l = ⊎_elim (λ t. rw t (mate_in_below w bal p l)) (λ f. rw f l) (true_or_false (w.letter p).closing)

  opening_opens : (p : ℕ) → p < w.size → (w.letter (opening w p)).closing ≡ false
  opening_opens p l = ⊎_elim (λ t. rw t (mate_in_opening p l t)) (λ f. rw f f) (true_or_false (w.letter p).closing)

  -- the openings before it tell an opening
  rank_opening : (p : ℕ) → p < w.size → nth (λ q. not (w.letter q).closing) (opens_before w (opening w p)) w.size ≡ opening w p
  unfolding opens_before
  rank_opening p l = nth_of_count (λ q. not (w.letter q).closing) (opening w p) w.size (opening_below p l) (ap not (opening_opens p l))

  pub border_pairs : (p q : ℕ) → p < w.size → q < w.size → border (end_in w p) ≡ border (end_in w q) → (q ≡ p) ⊎ (q ≡ mate_in w p)
  border_pairs p q l k e = ⊎_elim
      (λ a. ⊎_elim
      (λ b. inl (sym b ∙ sym same ∙ a))
      (λ b. inr (sym (mate_in_involutive w bal q k) ∙ ap (mate_in w) (sym b ∙ sym same ∙ a)))
      (opening_is w q))
      (λ a. ⊎_elim
      (λ b. inr (sym b ∙ sym same ∙ a))
      (λ b. inl (sym (mate_in_involutive w bal q k) ∙ ap (mate_in w) (sym b ∙ sym same ∙ a) ∙ mate_in_involutive w bal p l))
      (opening_is w q))
      (opening_is w p)
    where
      same : opening w p ≡ opening w q
      same =
          sym (rank_opening p l) ∙ ap (λ x. nth (λ q. not (w.letter q).closing) x w.size) (sym (border_in_lem w p) ∙ e ∙ border_in_lem w q) ∙ rank_opening q k

  -- the first place of a pair is the lower of the two
  pub end_in_min : (p : ℕ) → p < w.size → 2 * opens_before w (min p (mate_in w p)) + pick (w.letter p).closing 1 0 ≡ end_in w p
  end_in_min p l = ⊎_elim
      (λ t. let e : min p (mate_in w p) ≡ mate_in w p = omega (arith, mate_in_closes w bal p l t) in
      ap₂ (λ x k. 2 * opens_before w x + k) e (pick_yes (w.letter p).closing 1 0 t) ∙ sym (end_in_closes w p t))
      (λ f. let e : min p (mate_in w p) ≡ p = omega (arith, mate_in_opens w bal p l f) in
      ap₂ (λ x k. 2 * opens_before w x + k) e (pick_no (w.letter p).closing 1 0 f) ∙ omega (arith, end_in_opens w p f))
      (true_or_false (w.letter p).closing)

  pub end_in_crossing : (p : ℕ) → p < w.size → end_in w (mate_in w p) ≡ other (end_in w p)
  end_in_crossing p l = ⊎_elim
      (λ t. end_in_opens w (mate_in w p) (mate_in_opening p l t) ∙ sym (ap other (end_in_closes w p t) ∙ other_odd (opens_before w (mate_in w p))))
      (λ f. end_in_closes w (mate_in w p) (mate_in_closing w bal p l ∙ ap not f)
      ∙ ap (λ x. 2 * opens_before w x + 1) (mate_in_involutive w bal p l) ∙ sym (ap other (end_in_opens w p f) ∙ other_even (opens_before w p)))
      (true_or_false (w.letter p).closing)

  pub end_in_below : (p : ℕ) → p < w.size → end_in w p < w.size
  unfolding border opens_before
  end_in_below p l =
      let b : end_in w p / 2 ≡ opens_before w (opening w p) = border_in_lem w p in
      let c : opens_before w (opening w p) < count (λ q. not (w.letter q).closing) w.size
      = count_before (λ q. not (w.letter q).closing) (opening w p) w.size (opening_below p l) (ap not (opening_opens p l)) in
      omega (arith, openings_all w bal)

  pub end_in_injective : (p q : ℕ) → p < w.size → q < w.size → end_in w p ≡ end_in w q → p ≡ q
  end_in_injective p q l k e = ⊎_elim
      (λ s. sym s)
      (λ c. absurd (other_moves (end_in w p) (sym (end_in_crossing p l) ∙ ap (end_in w) (sym c) ∙ sym e)))
      (border_pairs p q l k (ap border e))

  pub end_in_permutes : Permutes w.size (end_in w)
  end_in_permutes = record { below = end_in_below; injective = end_in_injective }

  positions : (h : ℕ) → h < w.size → (position_in w h < w.size) × (end_in w (position_in w h) ≡ h)
  unfolding position_in
  positions h l =
      let r = injective_onto (end_in w) w.size end_in_below end_in_injective h l in
      let b : position_in w h < w.size = omega (arith, r.1, find_at_most (λ p. eqb (end_in w p) h) w.size r.0 r.1 (eq-eqb (end_in w r.0) h r.2)) in
      (b, eqb-true (end_in w (position_in w h)) h (find_has (λ p. eqb (end_in w p) h) w.size b))

  pub position_in_below : (h : ℕ) → h < w.size → position_in w h < w.size
  position_in_below h l = (positions h l).0

  pub position_in_end : (h : ℕ) → h < w.size → end_in w (position_in w h) ≡ h
  position_in_end h l = (positions h l).1

  pub position_in_lem : (p : ℕ) → p < w.size → position_in w (end_in w p) ≡ p
  position_in_lem p l =
      let b = end_in_below p l in
      end_in_injective (position_in w (end_in w p)) p (position_in_below (end_in w p) b) l (position_in_end (end_in w p) b)
