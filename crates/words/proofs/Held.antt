-- Which openings a stack holds, without lists.
--
-- Held b q p      == q is in the stack at p: its top, or in the stack where the top opens
-- held_stack      == then the stack at p ends in q and the stack at q
-- held_below, held_opens == such a q lies before p and opens
-- held_as         == positions with one top hold the same
-- held_under      == what is held is the top, or held where the top opens
-- held_nothing    == without a top nothing is held
-- held_next, held_until == q stays held over letters that do not close it
-- held_back, held_since == only the opening at q makes q held
-- Takes b p q     == p closes, and q is its top
-- takes_once      == no two positions take one opening
-- Assumes nothing.
use mathlib.Core.Path.{◌≡◌, sym, ap, ◌∙◌}
use mathlib.Core.Logic.{◌⊎◌, inl, inr, ◌≢◌, ⊎_elim}
use mathlib.Core.List.{List, [], ◌∷◌, ◌++◌}
use Prim.Native.Nat.{ℕ, zero, suc, ◌+◌, ◌<◌, ◌≤◌}
use native.Mathlib.Numerals.{add-one}
use native.Mathlib.Omega.{arith}
use Rattle.count.proofs.Logic.{same_or_not, lt_or_ge}
use Rattle.words.specs.Brackets.{Bracket, opens, closes, stack, inner}
use Rattle.words.proofs.Letters.{by_bracket}
use Rattle.words.proofs.Stack.{zero_or_more, inner_top, inner_opens, inner_neither, inner_closes, inner_closes_none}

module _ (b : ℕ → Bracket) where
  pub data Held (q : ℕ) : ℕ → Type 0 where
    at_top : {p : ℕ} → inner b p ≡ q + 1 → Held q p
    under : {p r : ℕ} → inner b p ≡ r + 1 → Held q r → Held q p

  pub held_stack : (q p : ℕ) → Held q p → (s : List ℕ) × (stack b p ≡ s ++ (q ∷ stack b q))
  held_stack q p (at_top e) = ([], (inner_top b p q e).shape)
  held_stack q p (under {r = r} e h) =
      let t = held_stack q r h in (r ∷ t.0, (inner_top b p r e).shape ∙ ap (λ s. r ∷ s) t.1)

  pub held_below : (q p : ℕ) → Held q p → q < p
  held_below q p (at_top e) = (inner_top b p q e).below
  held_below q p (under {r = r} e h) =
      let k : q < r = held_below q r h in
      let l : r < p = (inner_top b p r e).below in omega arith

  pub held_opens : (q p : ℕ) → Held q p → b q ≡ opens
  held_opens q p (at_top e) = (inner_top b p q e).opening
  held_opens q p (under {r = r} e h) = held_opens q r h

  -- positions with one top hold the same
  pub held_as : (q p r : ℕ) → inner b p ≡ inner b r → Held q r → Held q p
  held_as q p r e (at_top f) = at_top (e ∙ f)
  held_as q p r e (under f h) = under (e ∙ f) h

  -- what is held under a top, and is not that top, is held where the top opens
  pub held_under : (q p r : ℕ) → inner b p ≡ r + 1 → Held q p → (q ≡ r) ⊎ Held q r
  held_under q p r e (at_top f) = inl (omega arith)
  held_under q p r e (under {r = s} f h) = inr (let g : s ≡ r = omega arith in rw g at h)

  pub held_nothing : (q p : ℕ) → inner b p ≡ 0 → Held q p → ⊥
  held_nothing q p e (at_top f) = omega arith
  held_nothing q p e (under f h) = omega arith

  pub held_next : (q p : ℕ) → Held q p → (b p ≡ closes → inner b p ≡ q + 1 → ⊥) → Held q (p + 1)
  held_next q p h unclosed = by_bracket (b p)
      (λ o. under (inner_opens b p o) h)
      (λ c. go c h)
      (λ k. held_as q (p + 1) p (inner_neither b p k) h)
    where
      go : b p ≡ closes → Held q p → Held q (p + 1)
      go c (at_top e) = absurd (unclosed c e)
      go c (under {r = r} e h) = held_as q (p + 1) r (inner_closes b p r c e) h

  pub held_back : (q p : ℕ) → q ≢ p → Held q (p + 1) → Held q p
  held_back q p n h = by_bracket (b p)
      (λ o. ⊎_elim (λ e. absurd (n e)) (λ k. k) (held_under q (p + 1) p (inner_opens b p o) h))
      (λ c. ⊎_elim
      (λ e. absurd (held_nothing q (p + 1) (inner_closes_none b p c e) h))
      (λ t. under t.1 (held_as q t.0 (p + 1) (sym (inner_closes b p t.0 c t.1)) h))
      (zero_or_more (inner b p)))
      (λ k. held_as q p (p + 1) (sym (inner_neither b p k)) h)

  pub held_until : (q p : ℕ) → b q ≡ opens → ((x : ℕ) → x < p → b x ≡ closes → inner b x ≡ q + 1 → ⊥) → q < p → Held q p
  held_until q zero o unclosed l = absurd (omega arith)
  held_until q (suc p) o unclosed l = rw (← add-one p) (elim (same_or_not q p) [
    | inl e ↦ rw (← e) (at_top (inner_opens b q o))
    | inr n ↦ held_next q p (held_until q p o (λ x k. unclosed x (omega arith)) (omega arith)) (unclosed p (omega arith))
  ])

  pub held_since : (q p r : ℕ) → Held q r → q < p → p ≤ r → Held q p
  held_since q p zero h l k = absurd (omega arith)
  held_since q p (suc r) h l k = elim (same_or_not p (suc r)) [
    | inl e ↦ rw e h
    | inr n ↦ held_since q p r (held_back q r (omega arith) (rw (← add-one r) at h)) l (omega arith)
  ]

  -- the closing at p takes q from the stack
  pub record Takes (p q : ℕ) : Type 0 where
    pub closing : b p ≡ closes
    pub top : inner b p ≡ q + 1

  pub takes_once : (x y q : ℕ) → Takes x q → Takes y q → x ≡ y
  takes_once x y q s t =
      elim (lt_or_ge x y) [
        | inl l ↦ absurd (go x y s t l)
        | inr k ↦ elim (lt_or_ge y x) [ inl l ↦ absurd (go y x t s l) | inr l ↦ omega arith ]
      ]
    where
      go : (x y : ℕ) → Takes x q → Takes y q → x < y → ⊥
      go x y s t l =
          let k : q < x = (inner_top b x q s.top).below in
          let h : Held q (x + 1) = held_since q (x + 1) y (at_top t.top) (omega arith) (omega arith) in
          let m : q < q = held_below q q (held_as q q (x + 1) (sym (inner_closes b x q s.closing s.top)) h) in
          omega arith
