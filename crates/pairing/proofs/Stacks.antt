-- The open brackets of one family on the way, as a stack in a list. Any word.
--
-- height os a d   == of the stack that begins at a in os: 1 + the position that stands d entries above its bottom, and 0 for the bottom
-- Stacked K w a p t r os ls == just before position p of w, the open brackets of family K stand in os, the innermost at t, each above the
--                    one that was innermost before it; ls has beside each the number that it opened, and 1 at the bottom; r many are
--                    reached
-- stacked_start   == before the first position
-- stacked_number  == the label of the innermost is the number
-- stacked_inner   == where one is open, the innermost stands at t
-- stacked_aside   == what is stored elsewhere changes nothing
-- stacked_stays   == nor does a bracket of the other family
-- stacked_opens, stacked_closes == an opening stands above the stack; after a closing the stack ends one entry before
-- stacked_passes  == by the bit that tells them, after position and label were put above the stack
-- Assumes nothing.
use mathlib.Core.Path.{◌≡◌, refl, sym, ap, ◌∙◌}
use mathlib.Core.Logic.{◌≢◌, ⊎_elim, inl, inr}
use mathlib.Core.List.{List}
use Prim.Native.Nat.{ℕ, zero, suc, ◌+◌, ◌-◌, ◌<◌, ◌≤◌}
use native.Mathlib.Numerals.{add-one}
use native.Mathlib.Omega.{arith}
use lib.ListN.{length, get_or, set}
use lib.Seq.{get_or-set_same, get_or-set_other}
use Rattle.count.proofs.Below.{count_zero, count_no}
use Rattle.count.proofs.Logic.{same_or_not}
use Rattle.words.specs.Brackets.{opens, closes, neither, is_opens, inner, number}
use Rattle.words.specs.declared.family.Family.{Family}
use Rattle.words.specs.Word.{Word, seen}
use Rattle.words.proofs.Stack.{zero_or_more, inner_zero, inner_opens, inner_neither, inner_closes}
use Rattle.words.proofs.Numbers.{openings, openings_more, number_is}

unfoldable pub height : List ℕ → ℕ → ℕ → ℕ
height os a zero = 0
height os a (suc d) = get_or os (a + suc d) 0 + 1

module _ (os : List ℕ) (a : ℕ) where
  height_zero : height os a 0 ≡ 0
  unfolding height
  height_zero = refl

  height_more : (d : ℕ) → height os a (d + 1) ≡ get_or os (a + (d + 1)) 0 + 1
  unfolding height
  height_more d = rw (add-one d) refl

  height_aside : (j y d : ℕ) → j ≢ a + d → height (set os j y) a d ≡ height os a d
  unfolding height
  height_aside j y zero n = refl
  height_aside j y (suc d) n = ap (λ x. x + 1) (get_or-set_other os j (a + suc d) y 0 (λ e. n (sym e)))

pub record Stacked (K : Family) (w : Word) (a p t r : ℕ) (os ls : List ℕ) : Type 0 where
  pub deep : ℕ
  pub ends : t ≡ a + deep
  pub few : deep ≤ openings (seen K w) p
  pub reached : r ≡ openings (seen K w) p + 1
  pub top : height os a deep ≡ inner (seen K w) p
  pub below : (d : ℕ) → d < deep → height os a d ≡ inner (seen K w) (get_or os (a + (d + 1)) 0)
  pub labels : (d : ℕ) → d ≤ deep → get_or ls (a + d) 0 ≡ openings (seen K w) (height os a d) + 1

module _ (K : Family) (w : Word) (a : ℕ) where
  pub stacked_start : (t r : ℕ) (os ls : List ℕ) → t ≡ a → r ≡ 1 → get_or ls a 0 ≡ 1 → Stacked K w a 0 t r os ls
  stacked_start t r os ls ht hr hl =
      let b = seen K w in
      let none : openings b 0 ≡ 0 = count_zero (λ q. is_opens (b q)) in
      record {
        deep = 0;
        ends = omega arith;
        few = omega arith;
        reached = omega arith;
        top = height_zero os a ∙ sym (inner_zero b);
        below = λ d l. absurd (omega arith);
        labels = λ d l.
            let z : d ≡ 0 = omega arith in
            let at_bottom : a + d ≡ a = omega arith in
            ap (λ i. get_or ls i 0) at_bottom ∙ hl ∙ ap (λ x. x + 1) (sym none)
            ∙ ap (λ h. openings b h + 1) (sym (ap (height os a) z ∙ height_zero os a));
      }

  module _ (p t r : ℕ) (os ls : List ℕ) (S : Stacked K w a p t r os ls) where
    pub stacked_number : get_or ls t 0 ≡ number (seen K w) p
    stacked_number =
        let b = seen K w in
        ap (λ i. get_or ls i 0) S.ends ∙ S.labels S.deep (omega arith) ∙ ap (λ h. openings b h + 1) S.top
        ∙ sym (number_is b p)

    -- where one is open, the stack is not empty
    lower : inner (seen K w) p ≢ 0 → (d : ℕ) × (S.deep ≡ d + 1)
    lower n =
        ⊎_elim
        (λ z. absurd (n (sym S.top ∙ ap (height os a) z ∙ height_zero os a)))
        (λ t. t)
        (zero_or_more S.deep)

    pub stacked_inner : inner (seen K w) p ≢ 0 → (a < t) × (inner (seen K w) p ≡ get_or os t 0 + 1)
    stacked_inner n =
        let d : ℕ = (lower n).0 in
        let e : S.deep ≡ d + 1 = (lower n).1 in
        let f : a + (d + 1) ≡ t = omega (arith, S.ends) in (
          omega (arith, S.ends),
          sym S.top ∙ ap (height os a) e ∙ height_more os a d ∙ ap (λ i. get_or os i 0 + 1) f,
        )

    pub stacked_aside : (j y z : ℕ) → ((d : ℕ) → d ≤ S.deep → j ≢ a + d) → Stacked K w a p t r (set os j y) (set ls j z)
    stacked_aside j y z n =
        let b = seen K w in
        record {
          deep = S.deep;
          ends = S.ends;
          few = S.few;
          reached = S.reached;
          top = height_aside os a j y S.deep (n S.deep (omega arith)) ∙ S.top;
          below = λ d l.
              height_aside os a j y d (n d (omega arith)) ∙ S.below d l
              ∙ ap (inner b) (sym (get_or-set_other os j (a + (d + 1)) y 0 (λ e. n (d + 1) (omega arith) (sym e))));
          labels = λ d l.
              get_or-set_other ls j (a + d) z 0 (λ e. n d l (sym e)) ∙ S.labels d l
              ∙ ap (λ h. openings b h + 1) (sym (height_aside os a j y d (n d l)));
        }

    pub stacked_stays : seen K w p ≡ neither → Stacked K w a (p + 1) t r os ls
    stacked_stays e =
        let b = seen K w in
        let same : openings b (p + 1) ≡ openings b p = count_no (λ q. is_opens (b q)) p (ap is_opens e) in
        record {
          deep = S.deep;
          ends = S.ends;
          few = omega (arith, S.few);
          reached = omega (arith, S.reached);
          top = S.top ∙ sym (inner_neither b p e);
          below = S.below;
          labels = S.labels;
        }

    pub stacked_opens : (t' r' : ℕ) → t' ≡ t + 1 → r' ≡ r + 1 → seen K w p ≡ opens → get_or os (t + 1) 0 ≡ p → get_or ls (t + 1) 0 ≡ r + 1
        → Stacked K w a (p + 1) t' r' os ls
    stacked_opens t' r' ht hr o ho hl =
        let b = seen K w in
        let c : ℕ = S.deep in
        let more : openings b (p + 1) ≡ openings b p + 1 = openings_more b p o in
        let place : a + (c + 1) ≡ t + 1 = omega (arith, S.ends) in
        let entry : get_or os (a + (c + 1)) 0 ≡ p = ap (λ i. get_or os i 0) place ∙ ho in
        let high : height os a (c + 1) ≡ p + 1 = height_more os a c ∙ ap (λ x. x + 1) entry in
        record {
          deep = c + 1;
          ends = omega (arith, S.ends);
          few = omega (arith, S.few);
          reached = omega (arith, S.reached);
          top = high ∙ sym (inner_opens b p o);
          below = λ d l.
              elim (same_or_not d c) [
                | inl e ↦
                    ap (height os a) e ∙ S.top ∙ ap (inner b) (sym entry) ∙ ap (λ x. inner b (get_or os (a + (x + 1)) 0)) (sym e)
                | inr n ↦ S.below d (omega arith)
              ];
          labels = λ d l.
              elim (same_or_not d (c + 1)) [
                | inl e ↦
                    let g : r + 1 ≡ openings b (p + 1) + 1 = omega (arith, S.reached) in
                    ap (λ x. get_or ls (a + x) 0) e ∙ ap (λ i. get_or ls i 0) place ∙ hl ∙ g
                    ∙ ap (λ h. openings b h + 1) (sym (ap (height os a) e ∙ high))
                | inr n ↦ S.labels d (omega arith)
              ];
        }

    pub stacked_closes : (t' r' : ℕ) → t' + 1 ≡ t → r' ≡ r → seen K w p ≡ closes → inner (seen K w) p ≢ 0 → Stacked K w a (p + 1) t' r' os ls
    stacked_closes t' r' ht hr e n =
        let b = seen K w in
        let c : ℕ = (lower n).0 in
        let f : S.deep ≡ c + 1 = (lower n).1 in
        let q : ℕ = get_or os (a + (c + 1)) 0 in
        let same : openings b (p + 1) ≡ openings b p = count_no (λ x. is_opens (b x)) p (ap is_opens e) in
        let h : inner b p ≡ q + 1 = sym S.top ∙ ap (height os a) f ∙ height_more os a c in
        record {
          deep = c;
          ends = omega (arith, S.ends);
          few = omega (arith, S.few);
          reached = omega (arith, S.reached);
          top = S.below c (omega arith) ∙ sym (inner_closes b p q e h);
          below = λ d l. S.below d (omega arith);
          labels = λ d l. S.labels d (omega arith);
        }

  module _ (p t r : ℕ) (os ls : List ℕ) (S : Stacked K w a p t r os ls) (v : ℕ) (one : v < 2) where
    pub stacked_passes : t + 1 < length os → t + 1 < length ls → (v ≡ 0 → seen K w p ≡ opens) → ((v ≡ 0 → ⊥) → seen K w p ≡ closes)
        → (seen K w p ≡ closes → inner (seen K w) p ≢ 0) → Stacked K w a (p + 1) (t + 1 - v - v) (r + 1 - v) (set os (t + 1) p) (set ls (t + 1) (r + 1))
    stacked_passes lo ll o c n =
        let os' = set os (t + 1) p in
        let ls' = set ls (t + 1) (r + 1) in
        let S' : Stacked K w a p t r os' ls' = stacked_aside p t r os ls S (t + 1) p (r + 1) (λ d l e. omega (arith, S.ends)) in
        elim (same_or_not v 0) [
          | inl z ↦
              stacked_opens p t r os' ls' S' (t + 1 - v - v) (r + 1 - v) (omega arith) (omega arith) (o z)
              (get_or-set_same os (t + 1) p 0 lo) (get_or-set_same ls (t + 1) (r + 1) 0 ll)
          | inr m ↦
              let open_before = stacked_inner p t r os ls S (n (c m)) in
              stacked_closes p t r os' ls' S' (t + 1 - v - v) (r + 1 - v) (omega (arith, open_before.0)) (omega arith) (c m) (n (c m))
        ]
