-- Words that agree below a bound are alike there.
--
-- stack_same       == words that agree below p have the same stack at p
-- inner_same, closer_same, mate_same, step_same, back_same == words that agree below n have the same partners and steps,
-- openings_same, number_same, is_first_same, is_last_same, first_same, size_same == and numbers, first and last positions and sizes,
-- balanced_same    == and both are balanced or none is
-- word n f         == a word of n letters
-- seen_same, mate_in_same == of words of both families: each family sees the same, and crossings are the same
-- Assumes nothing.
use mathlib.Core.Path.{◌≡◌, refl, sym, ap, ◌∙◌}
use mathlib.Core.Bool.{◌&&◌}
use Prim.Native.Nat.{ℕ, zero, suc, pred, ◌<◌, ◌≤◌}
use native.Mathlib.Omega.{arith}
use lib.Dec.{eqb}
use Rattle.count.proofs.Below.{find_same, count_same}
use Rattle.words.specs.Brackets.{Bracket, is_opens, is_closes, stack, top, inner, Balanced, closer, mate}
use Rattle.words.specs.Brackets.{next, previous, step, back, number, is_first, is_last, first, size}
use Rattle.words.specs.declared.family.Family.{Family}
use Rattle.words.specs.Word.{Letter, Word, view, seen, mate_in}
use Rattle.words.proofs.Letters.{by_bracket}
use Rattle.words.proofs.Stack.{inner_le}
use Rattle.words.proofs.Mate.{mate_of_opens, mate_of_closes, mate_neither}
use Rattle.words.proofs.Step.{previous_below}
use Rattle.words.proofs.Numbers.{openings, number_is}

module _ (b c : ℕ → Bracket) where
  pub stack_same : (p : ℕ) → ((x : ℕ) → x < p → b x ≡ c x) → stack b p ≡ stack c p
  unfolding stack
  stack_same zero same = refl
  stack_same (suc p) same = rw (same p (omega arith), stack_same p (λ x l. same x (omega arith)))

module _ (b c : ℕ → Bracket) (n : ℕ) (same : (x : ℕ) → x < n → b x ≡ c x) where
  pub inner_same : (p : ℕ) → p ≤ n → inner b p ≡ inner c p
  unfolding inner
  inner_same p l = ap top (stack_same b c p (λ x k. same x (omega arith)))

  pub balanced_same : Balanced b n → Balanced c n
  balanced_same bal = record {
    closing = λ p l e z. bal.closing p l (same p l ∙ e) (inner_same p (omega arith) ∙ z);
    end = sym (inner_same n (omega arith)) ∙ bal.end;
  }

  pub closer_same : (p : ℕ) → closer b n p ≡ closer c n p
  unfolding closer
  closer_same p = find_same (λ q. is_closes (b q) && eqb (inner b q) (suc p)) (λ q. is_closes (c q) && eqb (inner c q) (suc p)) n
      (λ q l. rw (same q l, inner_same q (omega arith)))

  pub mate_same : (p : ℕ) → p < n → mate b n p ≡ mate c n p
  mate_same p l = by_bracket (b p)
      (λ o. mate_of_opens b n p o ∙ closer_same p ∙ sym (mate_of_opens c n p (sym (same p l) ∙ o)))
      (λ o. mate_of_closes b n p o ∙ ap pred (inner_same p (omega arith)) ∙ sym (mate_of_closes c n p (sym (same p l) ∙ o)))
      (λ o. mate_neither b n p o ∙ sym (mate_neither c n p (sym (same p l) ∙ o)))

  pub step_same : (p : ℕ) → p < n → step b n p ≡ step c n p
  unfolding step
  step_same p l = ap (next n) (mate_same p l)

  pub back_same : (p : ℕ) → p < n → back b n p ≡ back c n p
  unfolding back
  back_same p l = mate_same (previous n p) (previous_below n p l)

  pub openings_same : (p : ℕ) → p ≤ n → openings b p ≡ openings c p
  openings_same p l = count_same (λ q. is_opens (b q)) (λ q. is_opens (c q)) p (λ q k. ap is_opens (same q (omega arith)))

  pub number_same : (p : ℕ) → p ≤ n → number b p ≡ number c p
  number_same p l =
      let e : openings b (inner b p) ≡ openings c (inner b p) = openings_same (inner b p) (omega (arith, inner_le b p)) in
      let f : openings c (inner b p) ≡ openings c (inner c p) = ap (openings c) (inner_same p l) in
      omega (arith, number_is b p, number_is c p)

  pub is_first_same : (p : ℕ) → p ≤ n → is_first b p ≡ is_first c p
  unfolding is_first
  is_first_same p l = ap (λ x. eqb x p) (inner_same p l)

  pub is_last_same : (p : ℕ) → p < n → is_last b n p ≡ is_last c n p
  unfolding is_last
  is_last_same p l = rw (same p l, mate_same (pred n) (omega arith))

  pub first_same : (k : ℕ) → first b n k ≡ first c n k
  unfolding first
  first_same k = find_same (λ p. eqb (number b p) k) (λ p. eqb (number c p) k) n (λ p l. ap (λ x. eqb x k) (number_same p (omega arith)))

  pub size_same : (k : ℕ) → size b n k ≡ size c n k
  unfolding size
  size_same k = count_same (λ p. eqb (number b p) k) (λ p. eqb (number c p) k) n (λ p l. ap (λ x. eqb x k) (number_same p (omega arith)))

abbrev pub word : ℕ → (ℕ → Letter) → Word
word n f = record { size = n; letter = f }

module _ (n : ℕ) (f g : ℕ → Letter) (same : (p : ℕ) → p < n → f p ≡ g p) where
  pub seen_same : (K : Family) (p : ℕ) → p < n → seen K (word n f) p ≡ seen K (word n g) p
  unfolding seen
  seen_same K p l = ap (view K) (same p l)

  pub mate_in_same : (p : ℕ) → p < n → mate_in (word n f) p ≡ mate_in (word n g) p
  unfolding mate_in
  mate_in_same p l =
      mate_same (seen (f p).family (word n f)) (seen (f p).family (word n g)) n (seen_same (f p).family) p l
      ∙ ap (λ x. mate (seen x.family (word n g)) n p) (same p l)
