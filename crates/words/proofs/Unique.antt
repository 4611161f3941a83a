-- A word with a pairing that never alternates is balanced, and that pairing gives the partners.
--
-- Pairing b n μ    == μ pairs the brackets below n: each opening with a later closing, and no two pairs alternate
-- pairing_balanced == then the word is balanced
-- mate_unique      == and the partner of each position is what μ gives
-- Assumes nothing.
use mathlib.Core.Path.{◌≡◌, sym, ap, ◌∙◌}
use mathlib.Core.Logic.{◌≢◌, ◌↔◌, ⊎_elim}
use Prim.Native.Nat.{ℕ, zero, suc, ◌+◌, ◌<◌, ◌≤◌}
use native.Mathlib.Numerals.{add-one}
use native.Mathlib.Omega.{arith}
use Rattle.count.proofs.Logic.{same_or_not, lt_or_ge}
use Rattle.words.specs.Brackets.{Bracket, opens, closes, neither, inner, Balanced, mate}
use Rattle.words.proofs.Letters.{by_bracket, opens_not_closes, opens_not_neither, closes_not_neither}
use Rattle.words.proofs.Stack.{zero_or_more, inner_zero, inner_opens, inner_closes}
use Rattle.words.proofs.Held.{Held, at_top, held_below, held_opens, held_as, held_under, held_nothing, held_next, held_back}
use Rattle.words.proofs.Mate.{inner_closing, mate_neither, mate_involutive}

pub record Pairing (b : ℕ → Bracket) (n : ℕ) (μ : ℕ → ℕ) : Type 0 where
  pub below : (p : ℕ) → p < n → μ p < n
  pub involutive : (p : ℕ) → p < n → μ (μ p) ≡ p
  pub stays : (p : ℕ) → p < n → b p ≡ neither → μ p ≡ p
  pub moves : (p : ℕ) → p < n → b p ≢ neither → μ p ≢ p
  pub keeps : (p : ℕ) → p < n → b p ≢ neither → b (μ p) ≢ neither
  pub opening : (p : ℕ) → p < n → (b p ≡ opens) ↔ ((b p ≢ neither) × (p < μ p))
  pub nested : (p q : ℕ) → p < n → q < n → b p ≢ neither → b q ≢ neither → p < q → q < μ p → μ p < μ q → ⊥

module _ (b : ℕ → Bracket) (n : ℕ) (μ : ℕ → ℕ) (pair : Pairing b n μ) where
  before_mate : (p : ℕ) → p < n → b p ≡ opens → p < μ p
  before_mate p l o = ((pair.opening p l).0 o).1

  after_mate : (p : ℕ) → p < n → b p ≡ closes → (μ p < p) × (b (μ p) ≡ opens)
  after_mate p l c =
      let k : b p ≢ neither = closes_not_neither c in
      let m : μ p ≢ p = pair.moves p l k in
      let i : μ (μ p) ≡ p = pair.involutive p l in
      let h : μ p < p = ⊎_elim (λ h. absurd (opens_not_closes ((pair.opening p l).1 (k, h)) c)) (λ h. omega arith) (lt_or_ge p (μ p)) in
      (h, (pair.opening (μ p) (pair.below p l)).1 (pair.keeps p l k, rw i h))

  -- what the stack at p holds: the openings before p whose partner is not before p
  record Holds (p : ℕ) : Type 0 where
    late : (q : ℕ) → Held b q p → p ≤ μ q
    full : (q : ℕ) → q < p → b q ≡ opens → p ≤ μ q → Held b q p

  -- pairs are read from either side
  paired : (p q : ℕ) → q < n → p ≡ μ q → μ p ≡ q
  paired p q l e = ap μ e ∙ pair.involutive q l

  -- at a closing the top is its partner
  top_at : (p : ℕ) → p < n → Holds p → b p ≡ closes → inner b p ≡ μ p + 1
  top_at p l holds c = ⊎_elim
      (λ e. absurd (held_nothing b (μ p) p e held))
      (λ t. ⊎_elim (λ e. t.1 ∙ ap (λ x. x + 1) (sym e)) (λ h. absurd (deeper t.0 t.1 h)) (held_under b (μ p) p t.0 t.1 held))
      (zero_or_more (inner b p))
    where
      back : μ (μ p) ≡ p
      back = pair.involutive p l

      held : Held b (μ p) p
      held = holds.full (μ p) (after_mate p l c).0 (after_mate p l c).1 (let e : μ (μ p) ≡ p = back in omega arith)

      deeper : (r : ℕ) → inner b p ≡ r + 1 → Held b (μ p) r → ⊥
      deeper r e h =
          let i : μ p < r = held_below b (μ p) r h in
          let j : r < p = held_below b r p (at_top e) in
          let k : p ≤ μ r = holds.late r (at_top e) in
          let f : μ (μ p) ≡ p = back in
          let o : b r ≡ opens = held_opens b r p (at_top e) in
          let u : b (μ p) ≡ opens = (after_mate p l c).1 in
          let m : p ≢ μ r = λ g. (let z : μ p ≡ r = paired p r (omega arith) g in omega arith) in
          pair.nested (μ p) r (omega arith) (omega arith) (opens_not_neither u) (opens_not_neither o) i (omega arith) (omega arith)

  holds_next : (p : ℕ) → p < n → Holds p → Holds (p + 1)
  holds_next p l holds = record {
    late = λ q h. ⊎_elim
        (λ e. rw (← e) (let o : b q ≡ opens = held_opens b q (p + 1) h in let k : q < μ q = before_mate q (rw e l) o in omega arith))
        (λ m. later q m (held_back b q p m h) h)
        (same_or_not q p);
    full = λ q k o m. ⊎_elim
        (λ e. at_top (rw (← e) (inner_opens b q o)))
        (λ d. held_next b q p (holds.full q (omega arith) o (omega arith))
        (λ c e. let t : inner b p ≡ μ p + 1 = top_at p l holds c in
        let f : μ (μ p) ≡ p = pair.involutive p l in
        let g : q ≡ μ p = omega arith in
        let i : μ q ≡ p = ap μ g ∙ f in omega arith))
        (same_or_not q p);
  }
    where
      -- the partner of what stays in the stack over p is not p
      later : (q : ℕ) → q ≢ p → Held b q p → Held b q (p + 1) → p + 1 ≤ μ q
      later q m h g =
          let i : p ≤ μ q = holds.late q h in
          let j : q < p = held_below b q p h in
          let o : b q ≡ opens = held_opens b q p h in
          let d : p ≢ μ q = (λ e. by_bracket (b p)
          (λ u. let z : p < μ p = before_mate p l u in
          let y : μ p ≡ q = paired p q (omega arith) e in omega arith)
          (λ c. let y : μ p ≡ q = paired p q (omega arith) e in
          let t : inner b p ≡ q + 1 = top_at p l holds c ∙ ap (λ x. x + 1) y in
          let z : q < q = held_below b q q (held_as b q q (p + 1) (sym (inner_closes b p q c t)) g) in omega arith)
          (λ k. pair.keeps q (omega arith) (opens_not_neither o) (ap b (sym e) ∙ k))) in
          omega arith

  holds : (p : ℕ) → p ≤ n → Holds p
  holds zero l = record {
    late = λ q h. absurd (held_nothing b q 0 (inner_zero b) h);
    full = λ q k o m. absurd (omega arith);
  }
  holds (suc p) l = rw (← add-one p) (holds_next p (omega arith) (holds p (omega arith)))

  pub pairing_balanced : Balanced b n
  pairing_balanced = record {
    closing = λ p l c e. (let t : inner b p ≡ μ p + 1 = top_at p l (holds p (omega arith)) c in omega arith);
    end = ⊎_elim (λ e. e)
        (λ t. let l : t.0 < n = held_below b t.0 n (at_top t.1) in
        let k : n ≤ μ t.0 = (holds n (omega arith)).late t.0 (at_top t.1) in
        let m : μ t.0 < n = pair.below t.0 l in absurd (omega arith))
        (zero_or_more (inner b n));
  }

  mate_closing : (p : ℕ) → p < n → b p ≡ closes → mate b n p ≡ μ p
  mate_closing p l c =
      let e : inner b p ≡ mate b n p + 1 = inner_closing b n pairing_balanced p l c in
      let t : inner b p ≡ μ p + 1 = top_at p l (holds p (omega arith)) c in omega arith

  pub mate_unique : (p : ℕ) → p < n → mate b n p ≡ μ p
  mate_unique p l = by_bracket (b p)
      (λ o. let i : μ (μ p) ≡ p = pair.involutive p l in
      let k : p < μ p = before_mate p l o in
      let m : μ p < n = pair.below p l in
      let c : b (μ p) ≡ closes = by_bracket (b (μ p))
      (λ u. absurd (let z : μ p < μ (μ p) = before_mate (μ p) m u in omega arith))
      (λ c. c)
      (λ e. absurd (pair.keeps p l (opens_not_neither o) e)) in
      let e : mate b n (μ p) ≡ p = mate_closing (μ p) m c ∙ i in
      sym (ap (mate b n) e) ∙ mate_involutive b n pairing_balanced (μ p) m)
      (λ c. mate_closing p l c)
      (λ k. mate_neither b n p k ∙ sym (pair.stays p l k))
