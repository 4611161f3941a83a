-- To cross one border more is to exchange a walk's values at the border's two ends.
--
-- ends_of_border == two ends of one border are one end or each other's other end
-- over_agree     == sets that agree at an end's border are crossed alike there
-- over_rest      == to cross all borders but those of S, then those of S, is to cross all
-- over_permutes  == a permutation after crossing a set of borders permutes
-- exchange_at    == sets that differ at x's border alone: the walks are exchanged at x and its other end
-- exchange_over  == the same, at the ends 2e and 2e + 1 of border e
-- up_to A S i     == the set that is S at the borders below i, and A from i on
-- added A S      == the borders that S has and A has not
-- over_chain     == from A to S, border by border: a chain of exchanges
-- over_moves     == to cross S and not A: at most one cycle more for each border added
-- over_joins     == if each border added joins two cycles, one cycle less for each
-- Assumes nothing.
use mathlib.Core.Path.{◌≡◌, refl, sym, ap, ◌∙◌}
use mathlib.Core.Logic.{◌≢◌, ◌⊎◌, inl, inr}
use mathlib.Core.Bool.{Bool, true, false, not, ◌&&◌, true≢false}
use Prim.Native.Nat.{ℕ, ◌+◌, ◌*◌, ◌/◌, ◌%◌, ◌≤◌, ◌<◌}
use native.Mathlib.Omega.{arith}
use lib.Dec.{ltb}
use borrow.Author.Tests.{ltb-true, lt-ltb}
use Rattle.count.specs.Below.{pick, count}
use Rattle.count.proofs.Logic.{same_or_not, lt_or_ge, true_or_false, pick_yes, pick_no, both_left}
use Rattle.orbits.specs.Cycles.{Permutes, SameCycle, cycles}
use Rattle.orbits.proofs.Iter.{permutes_involution, permutes_compose}
use Rattle.orbits.proofs.Classes.{cycles_same}
use Rattle.orbits.proofs.Exchange.{Exchanged}
use Rattle.orbits.proofs.Chain.{Chain, chain_moves, chain_joins}
use Rattle.drawing.specs.Drawing.{border, other, over}
use Rattle.drawing.proofs.Ends.{across, other_even, other_border, other_other, other_moves, other_below, border_below, over_yes, over_no, over_below, over_over}

pub ends_of_border : (x y : ℕ) → border x ≡ border y → (y ≡ x) ⊎ (y ≡ other x)
unfolding border
ends_of_border x y e =
    elim (same_or_not y x) [
      | inl q ↦ inl q
      | inr d ↦
          inr (elim (same_or_not (x % 2) 0) [
            | inl h ↦ omega (arith, (across x).even h)
            | inr h ↦ let o : x % 2 ≡ 1 = omega arith in omega (arith, (across x).odd o)
          ])
    ]

pub over_agree : (S T : ℕ → Bool) (h : ℕ) → S (border h) ≡ T (border h) → over S h ≡ over T h
unfolding over
over_agree S T h e = ap (λ t. pick t (other h) h) e

pub over_permutes : (m : ℕ) (f : ℕ → ℕ) (S : ℕ → Bool) → Permutes (2 * m) f → Permutes (2 * m) (λ h. f (over S h))
over_permutes m f S p =
    permutes_compose p (permutes_involution (2 * m) (over S) (over_below S m) (λ x b. over_over S x))

pub over_rest : (S : ℕ → Bool) (h : ℕ) → over S (over (λ e. not (S e)) h) ≡ over (λ e. true) h
over_rest S h =
    let N : ℕ → Bool = λ e. not (S e) in
    elim (true_or_false (S (border h))) [
      | inl t ↦
          let f : N (border h) ≡ false = rw t in
          ap (over S) (over_no N h f) ∙ over_yes S h t ∙ sym (over_yes (λ e. true) h refl)
      | inr f ↦
          let t : N (border h) ≡ true = rw f in
          ap (over S) (over_yes N h t) ∙ over_no S (other h) (ap S (other_border h) ∙ f) ∙ sym (over_yes (λ e. true) h refl)
    ]

pub exchange_at : (m : ℕ) (f : ℕ → ℕ) (S T : ℕ → Bool) (x : ℕ) → x < 2 * m → S (border x) ≡ false → T (border x) ≡ true
    → ((e : ℕ) → e < m → e ≢ border x → S e ≡ T e)
    → Exchanged (2 * m) (λ h. f (over S h)) (λ h. f (over T h)) x (other x)
exchange_at m f S T x l out is_in same =
    let there : border (other x) ≡ border x = other_border x in
    record {
      x_below = l;
      y_below = other_below m x l;
      apart = λ e. other_moves x (sym e);
      at_x = ap f (over_yes T x is_in ∙ sym (over_no S (other x) (ap S there ∙ out)));
      at_y = ap f (over_yes T (other x) (ap T there ∙ is_in) ∙ other_other x ∙ sym (over_no S x out));
      off = λ z b nx ny.
          ap f (over_agree T S z (sym (same (border z) (border_below m z b)
          (λ e. elim (ends_of_border x z (sym e)) [ inl q ↦ nx q | inr q ↦ ny q ]))));
    }

pub exchange_over : (m : ℕ) (f : ℕ → ℕ) (S T : ℕ → Bool) (e : ℕ) → e < m → S e ≡ false → T e ≡ true
    → ((i : ℕ) → i < m → i ≢ e → S i ≡ T i)
    → Exchanged (2 * m) (λ h. f (over S h)) (λ h. f (over T h)) (2 * e) (2 * e + 1)
unfolding border
exchange_over m f S T e l out is_in same =
    let q : 2 * e / 2 ≡ e = omega arith in
    rw (other_even e) at (exchange_at m f S T (2 * e) (omega arith) (ap S q ∙ out) (ap T q ∙ is_in) (λ i b d. same i b (λ s. d (s ∙ sym q))))

abbrev pub up_to : (ℕ → Bool) → (ℕ → Bool) → ℕ → ℕ → Bool
up_to A S i e = pick (ltb e i) (S e) (A e)

abbrev pub added : (ℕ → Bool) → (ℕ → Bool) → ℕ → Bool
added A S e = S e && not (A e)

pub up_to_below : (A S : ℕ → Bool) (i e : ℕ) → e < i → up_to A S i e ≡ S e
up_to_below A S i e l = pick_yes (ltb e i) (S e) (A e) (lt-ltb e i l)

pub up_to_from : (A S : ℕ → Bool) (i e : ℕ) → i ≤ e → up_to A S i e ≡ A e
up_to_from A S i e l =
    elim (true_or_false (ltb e i)) [
      | inl t ↦ absurd (omega (arith, ltb-true e i t))
      | inr t ↦ pick_no (ltb e i) (S e) (A e) t
    ]

-- one border more changes nothing at the others
up_to_next : (A S : ℕ → Bool) (i e : ℕ) → e ≢ i → up_to A S i e ≡ up_to A S (i + 1) e
up_to_next A S i e d =
    elim (lt_or_ge e i) [
      | inl l ↦ up_to_below A S i e l ∙ sym (up_to_below A S (i + 1) e (omega arith))
      | inr g ↦ up_to_from A S i e g ∙ sym (up_to_from A S (i + 1) e (omega arith))
    ]

added_not : (s t : Bool) → s && not t ≡ true → t ≡ false
added_not true true h = sym h
added_not true false h = refl
added_not false t h = absurd (true≢false (sym h))

-- where nothing is added and A is within S, they agree
added_none : (s t : Bool) → (t ≡ true → s ≡ true) → s && not t ≡ false → t ≡ s
added_none true true f h = refl
added_none true false f h = sym h
added_none false true f h = sym (f refl)
added_none false false f h = refl

module _ (m : ℕ) (f : ℕ → ℕ) (p : Permutes (2 * m) f) (A S : ℕ → Bool) (within : (e : ℕ) → e < m → A e ≡ true → S e ≡ true) where
  pub over_chain : Chain (2 * m) (λ i h. f (over (up_to A S i) h)) (added A S) (λ i. 2 * i) (λ i. 2 * i + 1) m
  over_chain =
      record {
        starts = over_permutes m f (up_to A S 0) p;
        rests = λ i l t x b.
            ap f (over_agree (up_to A S i) (up_to A S (i + 1)) x
            (elim (same_or_not (border x) i) [
              | inl e ↦
                  rw e (up_to_from A S i i (omega arith) ∙ added_none (S i) (A i) (within i l) t ∙ sym (up_to_below A S (i + 1) i (omega arith)))
              | inr d ↦ up_to_next A S i (border x) d
            ]));
        exchanges = λ i l t.
            exchange_over m f (up_to A S i) (up_to A S (i + 1)) i l
            (up_to_from A S i i (omega arith) ∙ added_not (S i) (A i) t)
            (up_to_below A S (i + 1) i (omega arith) ∙ both_left (S i) (not (A i)) t)
            (λ e b d. up_to_next A S i e d);
      }

  -- the chain's first and last walk
  chain_first : cycles (2 * m) (λ h. f (over (up_to A S 0) h)) ≡ cycles (2 * m) (λ h. f (over A h))
  chain_first =
      cycles_same (over_permutes m f (up_to A S 0) p)
      (λ x b. ap f (over_agree (up_to A S 0) A x (up_to_from A S 0 (border x) (omega arith))))

  chain_last : cycles (2 * m) (λ h. f (over (up_to A S m) h)) ≡ cycles (2 * m) (λ h. f (over S h))
  chain_last =
      cycles_same (over_permutes m f (up_to A S m) p)
      (λ x b. ap f (over_agree (up_to A S m) S x (up_to_below A S m (border x) (border_below m x b))))

  pub over_moves : cycles (2 * m) (λ h. f (over S h)) ≤ cycles (2 * m) (λ h. f (over A h)) + count (added A S) m
  over_moves = omega (arith, chain_first, chain_last, (chain_moves m over_chain).0)

  pub over_joins : ((i : ℕ) → i < m → added A S i ≡ true → SameCycle (λ h. f (over (up_to A S i) h)) (2 * i) (2 * i + 1) → ⊥)
      → cycles (2 * m) (λ h. f (over S h)) + count (added A S) m ≡ cycles (2 * m) (λ h. f (over A h))
  over_joins apart = omega (arith, chain_first, chain_last, chain_joins m over_chain apart)
