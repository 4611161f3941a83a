-- Partners in a balanced word.
--
-- mate_of_opens, mate_of_closes, mate_neither == what mate is at each kind of letter
-- balanced_decides == the test `balanced` decides Balanced
-- mate_opens, mate_closes == an opening has a closing after it for its partner, a closing an opening before it
-- mate_moves, mate_keeps == brackets of the family are not their own partners; the others are
-- mate_below, mate_involutive == partners are partners of one another
-- inner_mate, inner_closing == at a closing the innermost open bracket is its partner
-- stack_mate, stack_after_mate, inner_after_mate == at the partner of p the stack is p on that of p, and after it that of p
-- held_mate, held_to_mate == p is in the stacks of the positions after p up to its partner, and in no others
-- never_alternate == no two pairs of partners alternate
-- Assumes nothing.
use mathlib.Core.Path.{◌≡◌, sym, ap, ◌∙◌}
use mathlib.Core.Logic.{◌≢◌, ◌↔◌, ⊎_elim}
use mathlib.Core.Bool.{Bool, true, not, ◌&&◌}
use mathlib.Core.List.{◌∷◌, tail}
use Prim.Native.Nat.{ℕ, suc, pred, ◌+◌, ◌<◌, ◌≤◌}
use native.Mathlib.Numerals.{add-one}
use native.Mathlib.Omega.{arith}
use lib.Dec.{eqb}
use borrow.Author.Tests.{eqb-true, eq-eqb, not-true}
use Rattle.count.specs.Below.{all}
use Rattle.count.proofs.Logic.{lt_or_ge, true_not_false, both, both_left, both_right, not_both}
use Rattle.count.proofs.Below.{find_le, find_has, find_not, all_has, all_from}
use Rattle.words.specs.Brackets.{Bracket, opens, closes, neither, is_closes, stack, inner, Balanced, balanced, closer, mate}
use Rattle.words.proofs.Letters.{by_bracket, opens_not_neither, closes_not_neither, closes_true}
use Rattle.words.proofs.Stack.{inner_top, inner_opens, inner_neither, inner_closes, inner_opens_at, stack_closes}
use Rattle.words.proofs.Held.{Held, at_top, held_below, held_opens, held_as, held_under, held_nothing, held_until, held_since, Takes, takes_once}

module _ (b : ℕ → Bracket) (n : ℕ) where
  -- the test that `closer` searches with
  takes : ℕ → ℕ → Bool
  takes p q = is_closes (b q) && eqb (inner b q) (suc p)

  takes_true : (p q : ℕ) → takes p q ≡ true → Takes b q p
  unfolding takes
  takes_true p q e = record {
    closing = closes_true (b q) (both_left _ _ e);
    top = eqb-true (inner b q) (suc p) (both_right (is_closes (b q)) _ e) ∙ sym (add-one p);
  }

  takes_test : (p q : ℕ) → Takes b q p → takes p q ≡ true
  unfolding takes
  takes_test p q t = both (is_closes (b q)) (eqb (inner b q) (suc p)) (ap is_closes t.closing) (eq-eqb (inner b q) (suc p) (t.top ∙ add-one p))

  closer_le : (p : ℕ) → closer b n p ≤ n
  unfolding closer takes
  closer_le p = find_le (takes p) n

  pub mate_of_opens : (p : ℕ) → b p ≡ opens → mate b n p ≡ closer b n p
  unfolding mate
  mate_of_opens p o = rw (o, mate)

  pub mate_of_closes : (p : ℕ) → b p ≡ closes → mate b n p ≡ pred (inner b p)
  unfolding mate
  mate_of_closes p c = rw (c, mate)

  pub mate_neither : (p : ℕ) → b p ≡ neither → mate b n p ≡ p
  unfolding mate
  mate_neither p k = rw (k, mate)

  -- the test of `balanced` at each position
  legal : ℕ → Bool
  legal p = not (is_closes (b p) && eqb (inner b p) 0)

  balanced_true : balanced b n ≡ true → Balanced b n
  unfolding balanced legal
  balanced_true e = record {
    closing = λ p l c z. true_not_false (is_closes (b p) && eqb (inner b p) 0)
        (both (is_closes (b p)) (eqb (inner b p) 0) (ap is_closes c) (eq-eqb (inner b p) 0 z))
        (not-true _ (all_has legal n (both_right (eqb (inner b n) 0) (all legal n) e) p l));
    end = eqb-true (inner b n) 0 (both_left (eqb (inner b n) 0) (all legal n) e);
  }

  balanced_test : Balanced b n → balanced b n ≡ true
  unfolding balanced legal
  balanced_test bal = both (eqb (inner b n) 0) (all legal n)
      (eq-eqb (inner b n) 0 bal.end)
      (all_from legal n λ p l. ap not (not_both (is_closes (b p)) (eqb (inner b p) 0)
      (λ c z. bal.closing p l (closes_true (b p) c) (eqb-true (inner b p) 0 z))))

  pub balanced_decides : (balanced b n ≡ true) ↔ Balanced b n
  balanced_decides = (balanced_true, balanced_test)

module _ (b : ℕ → Bracket) (n : ℕ) (bal : Balanced b n) where
  pub inner_closing : (p : ℕ) → p < n → b p ≡ closes → inner b p ≡ mate b n p + 1
  inner_closing p l c =
      let m : mate b n p ≡ pred (inner b p) = mate_of_closes b n p c in
      let z : inner b p ≢ 0 = bal.closing p l c in
      omega arith

  closer_found : (p : ℕ) → p < n → b p ≡ opens → closer b n p < n
  unfolding closer takes
  closer_found p l o = ⊎_elim (λ h. h)
      (λ h. absurd (held_nothing b p n bal.end (held_until b p n o
      (λ x k c e. true_not_false (takes b n p x)
      (takes_test b n p x (record { closing = c; top = e }))
      (find_not (takes b n p) n x (omega arith))) l)))
      (lt_or_ge (closer b n p) n)

  closer_takes : (p : ℕ) → closer b n p < n → Takes b (closer b n p) p
  unfolding closer takes
  closer_takes p l = takes_true b n p (closer b n p) (find_has (takes b n p) n l)

  mate_takes : (p : ℕ) → p < n → b p ≡ opens → (mate b n p < n) × Takes b (mate b n p) p
  mate_takes p l o = rw (mate_of_opens b n p o) (closer_found p l o, closer_takes p (closer_found p l o))

  -- what takes p is its mate
  mate_taken : (p q : ℕ) → q < n → Takes b q p → mate b n p ≡ q
  mate_taken p q l t =
      let h = inner_opens_at b q p t.top in
      let k : p < q = h.1 in
      takes_once b (mate b n p) q p (mate_takes p (omega arith) h.0).1 t

  pub mate_opens : (p : ℕ) → p < n → b p ≡ opens → (p < mate b n p) × (b (mate b n p) ≡ closes)
  mate_opens p l o =
      let t = (mate_takes p l o).1 in
      ((inner_opens_at b (mate b n p) p t.top).1, t.closing)

  pub mate_closes : (p : ℕ) → p < n → b p ≡ closes → (mate b n p < p) × (b (mate b n p) ≡ opens)
  mate_closes p l c =
      let h = inner_opens_at b p (mate b n p) (inner_closing p l c) in (h.1, h.0)

  pub mate_below : (p : ℕ) → p < n → mate b n p < n
  mate_below p l = by_bracket (b p)
      (λ o. (mate_takes p l o).0)
      (λ c. let h : mate b n p < p = (mate_closes p l c).0 in omega arith)
      (λ k. rw (mate_neither b n p k) l)

  pub inner_mate : (p : ℕ) → p < n → b p ≡ opens → inner b (mate b n p) ≡ p + 1
  inner_mate p l o = (mate_takes p l o).1.top

  pub mate_involutive : (p : ℕ) → p < n → mate b n (mate b n p) ≡ p
  mate_involutive p l = by_bracket (b p)
      (λ o. let c : inner b (mate b n p) ≡ mate b n (mate b n p) + 1 = inner_closing (mate b n p) (mate_below p l) (mate_opens p l o).1 in
      let e : inner b (mate b n p) ≡ p + 1 = inner_mate p l o in omega arith)
      (λ c. mate_taken (mate b n p) p l (record { closing = c; top = inner_closing p l c }))
      (λ k. ap (mate b n) (mate_neither b n p k) ∙ mate_neither b n p k)

  pub mate_moves : (p : ℕ) → p < n → b p ≢ neither → mate b n p ≢ p
  mate_moves p l m e = by_bracket (b p)
      (λ o. let h : p < mate b n p = (mate_opens p l o).0 in omega arith)
      (λ c. let h : mate b n p < p = (mate_closes p l c).0 in omega arith)
      m

  pub mate_keeps : (p : ℕ) → p < n → (b (mate b n p) ≡ neither) ↔ (b p ≡ neither)
  mate_keeps p l = (
    (λ e. by_bracket (b p)
        (λ o. absurd (closes_not_neither (mate_opens p l o).1 e))
        (λ c. absurd (opens_not_neither (mate_closes p l c).1 e))
        (λ k. k)),
    (λ k. rw (mate_neither b n p k) k),
  )

  pub stack_mate : (p : ℕ) → p < n → b p ≡ opens → stack b (mate b n p) ≡ p ∷ stack b p
  stack_mate p l o = (inner_top b (mate b n p) p (inner_mate p l o)).shape

  pub stack_after_mate : (p : ℕ) → p < n → b p ≡ opens → stack b (mate b n p + 1) ≡ stack b p
  stack_after_mate p l o = stack_closes b (mate b n p) (mate_opens p l o).1 ∙ ap tail (stack_mate p l o)

  pub inner_after_mate : (p : ℕ) → p < n → inner b (mate b n p + 1) ≡ inner b p
  inner_after_mate p l = by_bracket (b p)
      (λ o. inner_closes b (mate b n p) p (mate_opens p l o).1 (inner_mate p l o))
      (λ c. inner_opens b (mate b n p) (mate_closes p l c).1 ∙ sym (inner_closing p l c))
      (λ k. rw (mate_neither b n p k) (inner_neither b p k))

  pub held_mate : (p q : ℕ) → p < n → b p ≡ opens → p < q → q ≤ mate b n p → Held b p q
  held_mate p q l o = held_since b p q (mate b n p) (at_top (inner_mate p l o))

  pub held_to_mate : (p q : ℕ) → q ≤ n → Held b p q → q ≤ mate b n p
  held_to_mate p q l h =
      let k : p < q = held_below b p q h in
      let m = (mate_takes p (omega arith) (held_opens b p q h)).1 in
      ⊎_elim
      (λ j. let i : p < mate b n p = (inner_opens_at b (mate b n p) p m.top).1 in
      let g : Held b p (mate b n p + 1) = held_since b p (mate b n p + 1) q h (omega arith) (omega arith) in
      let z : p < p = held_below b p p (held_as b p p (mate b n p + 1) (sym (inner_after_mate p (omega arith))) g) in
      absurd (omega arith))
      (λ j. j)
      (lt_or_ge (mate b n p) q)

  pub never_alternate : (p q : ℕ) → p < q → q < mate b n p → mate b n p < mate b n q → b p ≡ opens → b q ≡ opens → ⊥
  never_alternate p q i j k o u =
      let m : mate b n p ≤ n = rw (mate_of_opens b n p o) (closer_le b n p) in
      ⊎_elim
      (λ e. omega arith)
      (λ h. let z : q < p = held_below b q p h in omega arith)
      (held_under b q (mate b n p) p (inner_mate p (omega arith) o) (held_mate q (mate b n p) (omega arith) u j (omega arith)))
