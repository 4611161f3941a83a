-- The stack of open brackets, and its top: what every law about brackets rests on. Any word, balanced or not.
--
-- zero_or_more    == a number is 0, or one more than a number
-- stack_zero, stack_opens, stack_closes, stack_neither == the stack at 0, and after a letter
-- Tops b q p      == q is the top of the stack at p, which is q on the stack at q; q lies before p and opens
-- stack_cases     == a stack is empty or has a top
-- inner_top, inner_none == so says inner b p
-- stack_below     == every position in the stack at p lies before p and opens
-- stack_falls     == the stack is strictly decreasing
-- inner_of        == one stack, one inner
-- inner_zero, inner_opens, inner_neither, inner_closes, inner_closes_none == inner at 0, and after a letter
-- inner_opens_at  == where inner b p is q + 1, q opens and lies before p
-- inner_le, inner_below, inner_inner == inner b p is at most p, and its own inner
-- Assumes nothing.
use mathlib.Core.Path.{◌≡◌, refl, sym, ap, ◌∙◌}
use mathlib.Core.Logic.{◌⊎◌, inl, inr, ⊎_elim}
use mathlib.Core.List.{[], ◌∷◌, tail}
use Prim.Native.Nat.{ℕ, zero, suc, ◌+◌, ◌<◌, ◌≤◌}
use native.Mathlib.Numerals.{add-one}
use native.Mathlib.Omega.{arith}
use lib.ListN.{length, get_or}
use Rattle.count.proofs.Logic.{strong}
use Rattle.words.specs.Brackets.{Bracket, opens, closes, neither, push, stack, top, inner}
use Rattle.words.proofs.Letters.{by_bracket}

pub zero_or_more : (x : ℕ) → (x ≡ 0) ⊎ ((y : ℕ) × (x ≡ y + 1))
zero_or_more zero = inl refl
zero_or_more (suc y) = inr (y, omega arith)

module _ (b : ℕ → Bracket) where
  pub stack_opens : (p : ℕ) → b p ≡ opens → stack b (p + 1) ≡ p ∷ stack b p
  unfolding stack
  stack_opens p e = rw add-one (ap (λ x. push x p (stack b p)) e)

  pub stack_closes : (p : ℕ) → b p ≡ closes → stack b (p + 1) ≡ tail (stack b p)
  unfolding stack
  stack_closes p e = rw add-one (ap (λ x. push x p (stack b p)) e)

  pub stack_neither : (p : ℕ) → b p ≡ neither → stack b (p + 1) ≡ stack b p
  unfolding stack
  stack_neither p e = rw add-one (ap (λ x. push x p (stack b p)) e)

  pub stack_zero : stack b 0 ≡ []
  unfolding stack
  stack_zero = refl

  -- q is the top of the stack at p, on the stack at q
  pub record Tops (q p : ℕ) : Type 0 where
    pub shape : stack b p ≡ q ∷ stack b q
    pub below : q < p
    pub opening : b q ≡ opens

  Cased : ℕ → Type 0
  Cased p = (stack b p ≡ []) ⊎ ((q : ℕ) × Tops q p)

  -- positions with one stack have one case
  cased_as : (p r : ℕ) → r < p → stack b p ≡ stack b r → Cased r → Cased p
  unfolding Cased
  cased_as p r l e (inl f) = inl (e ∙ f)
  cased_as p r l e (inr (q, t)) = inr (q, record { shape = e ∙ t.shape; below = omega arith; opening = t.opening })

  pub stack_cases : (p : ℕ) → (stack b p ≡ []) ⊎ ((q : ℕ) × Tops q p)
  unfolding Cased
  stack_cases = strong Cased cased
    where
      closed : (p : ℕ) → ((m : ℕ) → m < p + 1 → Cased m) → b p ≡ closes → Cased p → Cased (p + 1)
      closed p before c (inl e) = inl (stack_closes p c ∙ ap tail e)
      closed p before c (inr (q, t)) = cased_as (p + 1) q (omega arith) (stack_closes p c ∙ ap tail t.shape) (before q (omega arith))

      after : (p : ℕ) → ((m : ℕ) → m < p + 1 → Cased m) → Cased (p + 1)
      after p before = by_bracket (b p)
          (λ o. inr (p, record { shape = stack_opens p o; below = omega arith; opening = o }))
          (λ c. closed p before c (before p (omega arith)))
          (λ k. cased_as (p + 1) p (omega arith) (stack_neither p k) (before p (omega arith)))

      cased : (p : ℕ) → ((m : ℕ) → m < p → Cased m) → Cased p
      cased zero before = inl stack_zero
      cased (suc p) before = rw (← add-one p) (after p (rw (← add-one p) at before))

  pub inner_zero : inner b 0 ≡ 0
  unfolding inner stack
  inner_zero = refl

  pub inner_top : (p q : ℕ) → inner b p ≡ q + 1 → Tops q p
  unfolding inner
  inner_top p q e = ⊎_elim
      (λ f. absurd (let z : top (stack b p) ≡ 0 = ap top f in omega arith))
      (λ t. let z : top (stack b p) ≡ t.0 + 1 = ap top t.1.shape ∙ sym (add-one t.0) in
      let g : t.0 ≡ q = omega arith in rw g at t.1)
      (stack_cases p)

  pub inner_none : (p : ℕ) → inner b p ≡ 0 → stack b p ≡ []
  unfolding inner
  inner_none p e = ⊎_elim (λ f. f)
      (λ t. absurd (let z : top (stack b p) ≡ t.0 + 1 = ap top t.1.shape ∙ sym (add-one t.0) in omega arith))
      (stack_cases p)

  pub inner_of : (p q : ℕ) → stack b p ≡ stack b q → inner b p ≡ inner b q
  unfolding inner
  inner_of p q e = ap top e

  pub inner_opens : (p : ℕ) → b p ≡ opens → inner b (p + 1) ≡ p + 1
  unfolding inner
  inner_opens p o = ap top (stack_opens p o) ∙ sym (add-one p)

  pub inner_neither : (p : ℕ) → b p ≡ neither → inner b (p + 1) ≡ inner b p
  inner_neither p k = inner_of (p + 1) p (stack_neither p k)

  pub inner_closes : (p q : ℕ) → b p ≡ closes → inner b p ≡ q + 1 → inner b (p + 1) ≡ inner b q
  inner_closes p q c e = inner_of (p + 1) q (stack_closes p c ∙ ap tail (inner_top p q e).shape)

  pub inner_closes_none : (p : ℕ) → b p ≡ closes → inner b p ≡ 0 → inner b (p + 1) ≡ 0
  unfolding inner
  inner_closes_none p c e = ap top (stack_closes p c ∙ ap tail (inner_none p e))

  pub inner_opens_at : (p q : ℕ) → inner b p ≡ q + 1 → (b q ≡ opens) × (q < p)
  inner_opens_at p q e = ((inner_top p q e).opening, (inner_top p q e).below)

  pub inner_le : (p : ℕ) → inner b p ≤ p
  inner_le p = ⊎_elim
      (λ e. omega arith)
      (λ t. let h : t.0 < p = (inner_top p t.0 t.1).below in
      let e : inner b p ≡ t.0 + 1 = t.1 in omega arith)
      (zero_or_more (inner b p))

  pub inner_below : (n p : ℕ) → p < n → inner b p < n
  inner_below n p l = omega (arith, inner_le p)

  pub inner_inner : (p : ℕ) → inner b (inner b p) ≡ inner b p
  inner_inner p = ⊎_elim
      (λ e. rw e inner_zero)
      (λ t. rw t.1 (inner_opens t.0 (inner_top p t.0 t.1).opening))
      (zero_or_more (inner b p))

  pub stack_below : (p i : ℕ) → i < length (stack b p) → (get_or (stack b p) i 0 < p) × (b (get_or (stack b p) i 0) ≡ opens)
  stack_below = strong (λ p. (i : ℕ) → i < length (stack b p) → (get_or (stack b p) i 0 < p) × (b (get_or (stack b p) i 0) ≡ opens))
      (λ p before i l. ⊎_elim
      (λ e. absurd (let h : i < length {A = ℕ} [] = rw e at l in omega arith))
      (λ t. rw t.1.shape (go p t.0 t.1 (before t.0 t.1.below) i (rw t.1.shape at l)))
      (stack_cases p))
    where
      go : (p q : ℕ) → Tops q p
          → ((i : ℕ) → i < length (stack b q) → (get_or (stack b q) i 0 < q) × (b (get_or (stack b q) i 0) ≡ opens))
          → (i : ℕ) → i < length (q ∷ stack b q) → (get_or (q ∷ stack b q) i 0 < p) × (b (get_or (q ∷ stack b q) i 0) ≡ opens)
      go p q t before zero l = (t.below, t.opening)
      go p q t before (suc i) l =
          let h = before i (omega arith) in
          let k : get_or (stack b q) i 0 < q = h.0 in
          (omega arith, h.1)

  pub stack_falls : (p i j : ℕ) → i < j → j < length (stack b p) → get_or (stack b p) j 0 < get_or (stack b p) i 0
  stack_falls = strong (λ p. (i j : ℕ) → i < j → j < length (stack b p) → get_or (stack b p) j 0 < get_or (stack b p) i 0)
      (λ p before i j k l. ⊎_elim
      (λ e. absurd (let h : j < length {A = ℕ} [] = rw e at l in omega arith))
      (λ t. rw t.1.shape (go t.0 (before t.0 t.1.below) i j k (rw t.1.shape at l)))
      (stack_cases p))
    where
      go : (q : ℕ)
          → ((i j : ℕ) → i < j → j < length (stack b q) → get_or (stack b q) j 0 < get_or (stack b q) i 0)
          → (i j : ℕ) → i < j → j < length (q ∷ stack b q) → get_or (q ∷ stack b q) j 0 < get_or (q ∷ stack b q) i 0
      go q before i zero k l = absurd (omega arith)
      go q before zero (suc j) k l = (stack_below q j (omega arith)).0
      go q before (suc i) (suc j) k l = before i j (omega arith) (omega arith)
