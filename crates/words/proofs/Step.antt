-- The step about a point (area): a permutation of the positions that keeps the innermost open bracket.
--
-- next_plain, next_last, previous_plain, previous_zero == next and previous, inside the word and at its ends
-- next_below, previous_below, next_previous, previous_next == they are positions, and undo one another
-- step_below, back_below, step_back, back_step == so do step and back
-- step_permutes   == the step is a permutation
-- inner_step, inner_back == step and back keep the innermost open bracket
-- back_lower      == back leads to a lower position, but from a first one
-- inner_reaches   == from inner b p steps lead to p
-- Assumes nothing.
use mathlib.Core.Path.{◌≡◌, refl, sym, ap, ◌∙◌}
use mathlib.Core.Logic.{◌≢◌, ⊎_elim}
use Prim.Native.Nat.{ℕ, zero, suc, pred, ◌+◌, ◌<◌}
use native.Mathlib.Numerals.{add-one}
use native.Mathlib.Omega.{arith}
use lib.Dec.{eqb}
use borrow.Author.Tests.{eq-eqb, ne_eqb}
use Rattle.count.proofs.Logic.{same_or_not, strong, pick_yes, pick_no}
use Rattle.orbits.specs.Cycles.{Permutes, SameCycle}
use Rattle.orbits.proofs.Same.{same_cycle_is, same_cycle_step, same_cycle_trans}
use Rattle.words.specs.Brackets.{Bracket, inner, Balanced, mate, next, previous, step, back}
use Rattle.words.proofs.Letters.{by_bracket}
use Rattle.words.proofs.Stack.{inner_zero, inner_opens}
use Rattle.words.proofs.Mate.{mate_below, mate_involutive, mate_neither, mate_closes, inner_after_mate}

module _ (n : ℕ) where
  pub next_plain : (p : ℕ) → p + 1 ≢ n → next n p ≡ p + 1
  unfolding next
  next_plain p m = pick_no (eqb (suc p) n) 0 (suc p) (ne_eqb (suc p) n (λ e. m (add-one p ∙ e))) ∙ sym (add-one p)

  pub next_last : (p : ℕ) → p + 1 ≡ n → next n p ≡ 0
  unfolding next
  next_last p e = pick_yes (eqb (suc p) n) 0 (suc p) (eq-eqb (suc p) n (sym (add-one p) ∙ e))

  pub previous_plain : (p : ℕ) → previous n (p + 1) ≡ p
  unfolding previous
  previous_plain p = pick_no (eqb (p + 1) 0) (pred n) (pred (p + 1)) (ne_eqb (p + 1) 0 (omega arith)) ∙ omega arith

  pub previous_zero : previous n 0 ≡ pred n
  unfolding previous
  previous_zero = refl

  pub next_below : (p : ℕ) → p < n → next n p < n
  next_below p l = ⊎_elim
      (λ e. rw (next_last p e) (omega arith))
      (λ m. rw (next_plain p m) (omega arith))
      (same_or_not (p + 1) n)

  pub previous_next : (p : ℕ) → p < n → previous n (next n p) ≡ p
  previous_next p l = ⊎_elim
      (λ e. rw (next_last p e) (previous_zero ∙ omega arith))
      (λ m. rw (next_plain p m) (previous_plain p))
      (same_or_not (p + 1) n)

  pub previous_below : (p : ℕ) → p < n → previous n p < n
  previous_below zero l = rw previous_zero (omega arith)
  previous_below (suc p) l = rw (← add-one p, previous_plain p) (omega arith)

  pub next_previous : (p : ℕ) → p < n → next n (previous n p) ≡ p
  next_previous zero l = rw previous_zero (next_last (pred n) (omega arith))
  next_previous (suc p) l = rw (← add-one p, previous_plain p) (next_plain p (omega arith))

module _ (b : ℕ → Bracket) (n : ℕ) (bal : Balanced b n) where
  pub step_below : (p : ℕ) → p < n → step b n p < n
  unfolding step
  step_below p l = next_below n (mate b n p) (mate_below b n bal p l)

  pub back_below : (p : ℕ) → p < n → back b n p < n
  unfolding back
  back_below p l = mate_below b n bal (previous n p) (previous_below n p l)

  pub step_back : (p : ℕ) → p < n → step b n (back b n p) ≡ p
  unfolding step back
  step_back p l = ap (next n) (mate_involutive b n bal (previous n p) (previous_below n p l)) ∙ next_previous n p l

  pub back_step : (p : ℕ) → p < n → back b n (step b n p) ≡ p
  unfolding step back
  back_step p l = ap (mate b n) (previous_next n (mate b n p) (mate_below b n bal p l)) ∙ mate_involutive b n bal p l

  pub step_permutes : Permutes n (step b n)
  step_permutes = record {
    below = step_below;
    injective = λ x y l k e. sym (back_step x l) ∙ ap (back b n) e ∙ back_step y k;
  }

  -- what is open after a position is open at the next: nothing, after the last and at the first
  inner_next : (p : ℕ) → inner b (next n p) ≡ inner b (p + 1)
  inner_next p = ⊎_elim
      (λ e. rw (next_last n p e, e) (inner_zero b ∙ sym bal.end))
      (λ m. rw (next_plain n p m))
      (same_or_not (p + 1) n)

  pub inner_step : (p : ℕ) → p < n → inner b (step b n p) ≡ inner b p
  unfolding step
  inner_step p l = inner_next (mate b n p) ∙ inner_after_mate b n bal p l

  pub inner_back : (p : ℕ) → p < n → inner b (back b n p) ≡ inner b p
  inner_back p l = sym (inner_step (back b n p) (back_below p l)) ∙ ap (inner b) (step_back p l)

  back_plain : (p : ℕ) → back b n (p + 1) ≡ mate b n p
  unfolding back
  back_plain p = ap (mate b n) (previous_plain n p)

  pub back_lower : (p : ℕ) → p < n → inner b p ≢ p → back b n p < p
  back_lower zero l m = absurd (m (inner_zero b))
  back_lower (suc p) l m = rw (← add-one p, back_plain p) (by_bracket (b p)
      (λ o. absurd (m (rw (← add-one p) (inner_opens b p o))))
      (λ c. let h : mate b n p < p = (mate_closes b n bal p (omega arith) c).0 in omega arith)
      (λ k. rw (mate_neither b n p k) (omega arith)))

  pub inner_reaches : (p : ℕ) → p < n → SameCycle (step b n) (inner b p) p
  inner_reaches = strong (λ p. p < n → SameCycle (step b n) (inner b p) p) (λ p before l. ⊎_elim
      (λ e. same_cycle_is (step b n) (inner b p) p e)
      (λ m. let s : SameCycle (step b n) (inner b p) (back b n p) = rw (inner_back p l) at (before (back b n p) (back_lower p l m) (back_below p l)) in
      let t : SameCycle (step b n) (back b n p) p = rw (step_back p l) at (same_cycle_step (step b n) (back b n p)) in
      same_cycle_trans s t)
      (same_or_not (inner b p) p))
