-- Counting the places of one point (area) in one scan from its first position, by depth. Any balanced word.
--
-- count_stays     == a test that fails from i on counts no more
-- size_inner      == the size of a point counts the positions whose innermost open bracket is its first position
-- Scan b n f k d p == from f on, d more brackets are open at p, and k of the positions before p have f for their innermost open bracket
-- scan_start, scan_opens, scan_closes, scan_neither == from one position to the next; one more is counted at depth 0
-- scan_leaves, scan_end == the size: at the closing at depth 0, and at the end of the word
-- Assumes nothing.
use mathlib.Core.Path.{◌≡◌, refl, sym, ap, ◌∙◌}
use mathlib.Core.Logic.{◌≢◌, ⊎_elim, inl, inr}
use mathlib.Core.Bool.{Bool, false}
use mathlib.Core.List.{tail, ◌∷◌}
use Prim.Native.Nat.{ℕ, zero, suc, ◌+◌, ◌-◌, ◌<◌, ◌≤◌}
use native.Mathlib.Numerals.{add-one}
use native.Mathlib.Omega.{arith}
use lib.Dec.{eqb}
use lib.ListN.{length, drop}
use borrow.Author.Tests.{eqb-true, eq-eqb, ne_eqb}
use Rattle.count.specs.Below.{pick, count}
use Rattle.count.proofs.Logic.{same_or_not, bool_same, pick_yes, pick_no}
use Rattle.count.proofs.Below.{count_yes, count_no, count_none, count_same}
use Rattle.words.specs.Brackets.{Bracket, opens, closes, neither, stack, inner, Balanced, mate, number, size}
use Rattle.words.proofs.Stack.{zero_or_more, stack_opens, stack_closes, stack_neither, inner_top, inner_none, inner_of, inner_le}
use Rattle.words.proofs.Held.{at_top}
use Rattle.words.proofs.Mate.{inner_closing, mate_involutive, held_to_mate}
use Rattle.words.proofs.Numbers.{inner_number, number_inner}

pub count_stays : (P : ℕ → Bool) (i n : ℕ) → i ≤ n → ((x : ℕ) → i ≤ x → x < n → P x ≡ false) → count P n ≡ count P i
count_stays P i zero l fails =
    let e : 0 ≡ i = omega arith in
    ap (count P) e
count_stays P i (suc n) l fails =
    elim (same_or_not i (suc n)) [
      | inl e ↦ ap (count P) (sym e)
      | inr m ↦
          ap (count P) (sym (add-one n)) ∙ count_no P n (fails n (omega arith) (omega arith))
          ∙ count_stays P i n (omega arith) (λ x k h. fails x k (omega arith))
    ]

module _ (b : ℕ → Bracket) where
  -- whether the innermost open bracket at x is the one before f
  abbrev pub stands : ℕ → ℕ → Bool
  stands f x = eqb (inner b x) f

  pub size_inner : (n f : ℕ) → inner b f ≡ f → size b n (number b f) ≡ count (stands f) n
  unfolding size
  size_inner n f e =
      count_same (λ p. eqb (number b p) (number b f)) (stands f) n
      (λ p l. bool_same (eqb (number b p) (number b f)) (stands f p)
      (λ h. eq-eqb (inner b p) f (number_inner b p f (eqb-true (number b p) (number b f) h) ∙ e))
      (λ h. eq-eqb (number b p) (number b f) (inner_number b p f (eqb-true (inner b p) f h ∙ sym e))))

  -- one innermost open bracket, one stack
  stack_of : (p q : ℕ) → inner b p ≡ inner b q → stack b p ≡ stack b q
  stack_of p q e =
      ⊎_elim
      (λ z. inner_none b p (e ∙ z) ∙ sym (inner_none b q z))
      (λ t. (inner_top b p t.0 (e ∙ t.1)).shape ∙ sym (inner_top b q t.0 t.1).shape)
      (zero_or_more (inner b q))

  pub record Scan (n f k d p : ℕ) : Type 0 where
    pub within : p ≤ n
    pub few : k ≤ p
    pub room : f + d ≤ p
    pub rest : drop d (stack b p) ≡ stack b f
    pub height : length (stack b p) ≡ d + length (stack b f)
    pub so_far : k ≡ count (stands f) p

  module _ (n f : ℕ) (first : inner b f ≡ f) where
    pub scan_start : f ≤ n → Scan n f 0 0 f
    scan_start l =
        record {
          within = l;
          few = omega arith;
          room = omega arith;
          rest = refl;
          height = omega arith;
          so_far = sym (count_none (stands f) f (λ x h. ne_eqb (inner b x) f (λ e. omega (arith, inner_le b x))));
        }

    at_first : (k d p : ℕ) → Scan n f k d p → d ≡ 0 → inner b p ≡ f
    at_first k d p S z = inner_of b p f (rw z at S.rest) ∙ first

    off_first : (k d p : ℕ) → Scan n f k d p → d ≢ 0 → inner b p ≢ f
    off_first k d p S m e = m (omega (arith, ap length (stack_of p f (e ∙ sym first)), S.height))

    -- one more where nothing more is open
    one_more : (k d p r g : ℕ) → Scan n f k d p → r ≡ pick (eqb d 0) 1 0 → g ≡ k + r → (g ≡ count (stands f) (p + 1)) × (g ≤ p + 1)
    one_more k d p r g S h e =
        elim (same_or_not d 0) [
          | inl z ↦
              let o : r ≡ 1 = h ∙ pick_yes (eqb d 0) 1 0 (eq-eqb d 0 z) in
              let c = count_yes (stands f) p (eq-eqb (inner b p) f (at_first k d p S z)) in
              (omega (arith, S.so_far), omega (arith, S.few))
          | inr m ↦
              let o : r ≡ 0 = h ∙ pick_no (eqb d 0) 1 0 (ne_eqb d 0 m) in
              let c = count_no (stands f) p (ne_eqb (inner b p) f (off_first k d p S m)) in
              (omega (arith, S.so_far), omega (arith, S.few))
        ]

    pub scan_opens : (k d p r g e : ℕ) → Scan n f k d p → p < n → r ≡ pick (eqb d 0) 1 0 → g ≡ k + r → b p ≡ opens → e ≡ d + 1 → Scan n f g e (p + 1)
    scan_opens k d p r g e S l h q o i =
        let c = one_more k d p r g S h q in
        record {
          within = omega arith;
          few = c.1;
          room = omega (arith, S.room);
          rest = rw (i, stack_opens b p o, add-one d) S.rest;
          height = ap length (stack_opens b p o) ∙ omega (arith, S.height);
          so_far = c.0;
        }

    pub scan_neither : (k d p r g : ℕ) → Scan n f k d p → p < n → r ≡ pick (eqb d 0) 1 0 → g ≡ k + r → b p ≡ neither → Scan n f g d (p + 1)
    scan_neither k d p r g S l h q o =
        let c = one_more k d p r g S h q in
        record {
          within = omega arith;
          few = c.1;
          room = omega (arith, S.room);
          rest = rw (stack_neither b p o) S.rest;
          height = rw (stack_neither b p o) S.height;
          so_far = c.0;
        }

    module _ (bal : Balanced b n) where
      pub scan_closes : (k d p r g e : ℕ) → Scan n f k d p → p < n → r ≡ pick (eqb d 0) 1 0 → g ≡ k + r → b p ≡ closes
          → (d ≡ 0 → ⊥) → e ≡ d - 1 → Scan n f g e (p + 1)
      scan_closes k d p r g e S l h q o m i =
          let c = one_more k d p r g S h q in
          let x = mate b n p in
          let shape : stack b p ≡ x ∷ stack b x = (inner_top b p x (inner_closing b n bal p l o)).shape in
          let after : stack b (p + 1) ≡ stack b x = stack_closes b p o ∙ ap tail shape in
          let deep : suc e ≡ d = omega arith in
          record {
            within = omega arith;
            few = c.1;
            room = omega (arith, S.room);
            rest = ap (drop e) after ∙ ap (λ y. drop y (x ∷ stack b x)) deep ∙ ap (drop d) (sym shape) ∙ S.rest;
            height = omega (arith, S.height, ap length shape, ap length after);
            so_far = c.0;
          }

      -- after the closing of the bracket before f nothing stands at f
      closed : (p x : ℕ) → p < n → b p ≡ closes → inner b p ≡ f → p + 1 ≤ x → x < n → inner b x ≢ f
      closed p x l o e h k i =
          let q = mate b n p in
          let j : inner b p ≡ q + 1 = inner_closing b n bal p l o in
          let m : mate b n q ≡ p = mate_involutive b n bal p l in
          omega (arith, held_to_mate b n bal q x (omega arith) (at_top (i ∙ sym e ∙ j)))

      pub scan_leaves : (k d p r g : ℕ) → Scan n f k d p → p < n → r ≡ pick (eqb d 0) 1 0 → g ≡ k + r → b p ≡ closes → d ≡ 0
          → g ≡ size b n (number b f)
      scan_leaves k d p r g S l h q o z =
          (one_more k d p r g S h q).0
          ∙ sym (count_stays (stands f) (p + 1) n (omega arith)
          (λ x i j. ne_eqb (inner b x) f (closed p x l o (at_first k d p S z) i j)))
          ∙ sym (size_inner n f first)

    pub scan_end : (k d p : ℕ) → Scan n f k d p → n ≤ p → k ≡ size b n (number b f)
    scan_end k d p S l =
        let e : p ≡ n = omega (arith, S.within) in
        S.so_far ∙ ap (count (stands f)) e ∙ sym (size_inner n f first)
