-- The walk about a point (along an area) meets its positions in rising order, from the first on: the forward pass, filtered by number.
--
-- held_inner   == what is held at p opens before the innermost open bracket, or is it
-- inside       == between an opening and its partner the innermost open bracket is another
-- walk_rises   == a step to a higher position passes over none of the same point (area)
-- walk_returns == any other step leads to the first position, and from the last
-- walk_more, walk_last == the same by how many positions of the point (area) come before: one more, or all but this one
-- none_before  == no position of the point (area) comes before its first one
-- walk_order   == from the first position of a point (area) the i-th step leads to its i-th position, and after all of them back
-- walk_gather  == so what the walk meets, of any kind, is what a pass over all positions gathers from those with the number
-- about_cell   == the same of any number: the walk begins at its first position, and meets nothing where no position has it
-- Assumes nothing.
use mathlib.Core.Path.{◌≡◌, refl, sym, ap, ◌∙◌}
use mathlib.Core.Logic.{◌≢◌, inl, inr}
use mathlib.Core.Bool.{Bool, false}
use Prim.Native.Nat.{ℕ, zero, suc, ◌+◌, ◌-◌, ◌<◌, ◌≤◌}
use native.Mathlib.Numerals.{add-one}
use native.Mathlib.Omega.{arith}
use lib.Dec.{eqb}
use lib.ListN.{length}
use borrow.Author.Tests.{eq-eqb, ne_eqb, eqb-true}
use lib.Seq.{ext_get_or}
use Rattle.count.specs.Below.{count, nth, table, gather}
use Rattle.count.proofs.Logic.{same_or_not, lt_or_ge}
use Rattle.count.proofs.Below.{count_none, count_next, count_before, nth_of_count, find_has}
use Rattle.count.proofs.Lists.{table_length, table_get_d, gather_length, gather_get_d}
use Rattle.orbits.specs.Cycles.{iter}
use Rattle.orbits.proofs.Iter.{iter_next}
use Rattle.words.specs.Brackets.{Bracket, opens, inner, Balanced, mate, next, step, number, first, size}
use Rattle.words.proofs.Letters.{by_bracket}
use Rattle.words.proofs.Stack.{inner_zero, inner_le}
use Rattle.words.proofs.Held.{Held, at_top, under, held_below}
use Rattle.words.proofs.Mate.{mate_neither, mate_opens, mate_closes, mate_involutive, inner_closing, held_mate, held_to_mate}
use Rattle.words.proofs.Step.{next_plain, next_last, step_below, inner_step}
use Rattle.words.proofs.Numbers.{inner_number, number_inner, first_inner}
use Rattle.words.proofs.Sizes.{first_below}

module _ (b : ℕ → Bracket) where
  held_inner : (q p : ℕ) → Held b q p → q < inner b p
  held_inner q p (at_top e) = omega arith
  held_inner q p (under {r = r} e h) = omega (arith, held_below b q r h)

  module _ (n : ℕ) (bal : Balanced b n) (p : ℕ) (l : p < n) where
    -- the step, once the partner is known
    stepped : (m : ℕ) → mate b n p ≡ m → step b n p ≡ next n m
    unfolding step
    stepped m e = ap (next n) e

    inside : (q : ℕ) → b p ≡ opens → p < q → q ≤ mate b n p → inner b q ≢ inner b p
    inside q o i j e = omega (arith, held_inner p q (held_mate b n bal p q l o i j), inner_le b p)

    -- a step to 0 is one to the first position
    to_zero : step b n p ≡ 0 → step b n p ≡ inner b p
    to_zero e = e ∙ sym (inner_zero b) ∙ ap (inner b) (sym e) ∙ inner_step b n bal p l

    pub walk_rises : (q : ℕ) → p < step b n p → p < q → q < step b n p → inner b q ≢ inner b p
    walk_rises q h i j = by_bracket (b p)
        (λ o.
        let k = (mate_opens b n bal p l o).0 in
        elim (same_or_not (mate b n p + 1) n) [
          | inl z ↦ absurd (omega (arith, stepped (mate b n p) refl, next_last n (mate b n p) z))
          | inr z ↦ inside q o i (omega (arith, stepped (mate b n p) refl, next_plain n (mate b n p) z))
        ])
        (λ c.
        let k = (mate_closes b n bal p l c).0 in
        absurd (omega (arith, stepped (mate b n p) refl, next_plain n (mate b n p) (λ z. omega arith))))
        (λ e.
        let m : step b n p ≡ next n p = stepped p (mate_neither b n p e) in
        elim (same_or_not (p + 1) n) [
          | inl z ↦ absurd (omega (arith, next_last n p z))
          | inr z ↦ absurd (omega (arith, next_plain n p z))
        ])

    pub walk_returns : step b n p ≤ p → (step b n p ≡ inner b p) × ((q : ℕ) → p < q → q < n → inner b q ≢ inner b p)
    walk_returns h = by_bracket (b p)
        (λ o.
        let k = (mate_opens b n bal p l o).0 in
        elim (same_or_not (mate b n p + 1) n) [
          | inl z ↦ (
            to_zero (stepped (mate b n p) refl ∙ next_last n (mate b n p) z),
            λ q i j. inside q o i (omega arith),
          )
          | inr z ↦ absurd (omega (arith, stepped (mate b n p) refl, next_plain n (mate b n p) z))
        ])
        (λ c.
        let k = (mate_closes b n bal p l c).0 in
        let t : inner b p ≡ mate b n p + 1 = inner_closing b n bal p l c in (
          omega (arith, stepped (mate b n p) refl, next_plain n (mate b n p) (λ z. omega arith)),
          λ q i j e.
              omega (arith, held_to_mate b n bal (mate b n p) q (omega arith) (at_top (e ∙ t)), mate_involutive b n bal p l),
        ))
        (λ e.
        let m : step b n p ≡ next n p = stepped p (mate_neither b n p e) in
        elim (same_or_not (p + 1) n) [
          | inl z ↦ (to_zero (m ∙ next_last n p z), λ q i j. absurd (omega arith))
          | inr z ↦ absurd (omega (arith, next_plain n p z))
        ])

  -- ---- by how many positions of the same point (area) come before
  abbrev on : ℕ → ℕ → Bool
  on k q = eqb (number b q) k

  module _ (n : ℕ) (bal : Balanced b n) (k : ℕ) where
    module _ (p : ℕ) (l : p < n) (e : number b p ≡ k) where
      other : (q : ℕ) → inner b q ≢ inner b p → on k q ≡ false
      other q d = ne_eqb (number b q) k (λ f. d (number_inner b q p (f ∙ sym e)))

      pub walk_more : p < step b n p → count (on k) (step b n p) ≡ count (on k) p + 1
      walk_more h =
          count_next (on k) p (step b n p) h (eq-eqb (number b p) k e) (λ q i j. other q (walk_rises n bal p l q h i j))

      pub walk_last : step b n p ≤ p → size b n k ≡ count (on k) p + 1
      unfolding size
      walk_last h =
          count_next (on k) p n l (eq-eqb (number b p) k e) (λ q i j. other q ((walk_returns n bal p l h).1 q i j))

    module _ (f : ℕ) (l : f < n) (first : inner b f ≡ f) (e : number b f ≡ k) where
      pub none_before : count (on k) f ≡ 0
      none_before =
          count_none (on k) f
          (λ q i. ne_eqb (number b q) k (λ g. omega (arith, number_inner b q f (g ∙ sym e), inner_le b q)))

      -- the i-th step: a position of the same point (area), with i of them before it
      record Reached (i p : ℕ) : Type 0 where
        pub below : p < n
        pub same : number b p ≡ k
        pub before : count (on k) p ≡ i

      reached : (i : ℕ) → i < size b n k → Reached i (iter (step b n) i f)
      unfolding iter
      reached zero h = record { below = l; same = e; before = none_before }
      reached (suc i) h =
          let p : ℕ = iter (step b n) i f in
          let R : Reached i p = reached i (omega arith) in
          elim (lt_or_ge p (step b n p)) [
            | inl r ↦ record {
              below = step_below b n bal p R.below;
              same = inner_number b (step b n p) p (inner_step b n bal p R.below) ∙ R.same;
              before = walk_more p R.below R.same r ∙ ap (λ x. x + 1) R.before ∙ add-one i;
            }
            | inr r ↦ absurd (omega (arith, walk_last p R.below R.same r, R.before))
          ]

      before_end : (q : ℕ) → q < n → number b q ≡ k → count (on k) q < size b n k
      unfolding size
      before_end q i g = count_before (on k) q n i (eq-eqb (number b q) k g)

      comes_back : (i : ℕ) → size b n k ≡ i + 1 → iter (step b n) (i + 1) f ≡ f
      comes_back i h =
          let p : ℕ = iter (step b n) i f in
          let R : Reached i p = reached i (omega arith) in
          elim (lt_or_ge p (step b n p)) [
            | inl r ↦
                let c : count (on k) (step b n p) < size b n k = before_end (step b n p) (step_below b n bal p R.below)
                (inner_number b (step b n p) p (inner_step b n bal p R.below) ∙ R.same) in
                absurd (omega (arith, walk_more p R.below R.same r, R.before))
            | inr r ↦
                iter_next (step b n) i f ∙ (walk_returns n bal p R.below r).0
                ∙ number_inner b p f (R.same ∙ sym e) ∙ first
          ]

      pub walk_order : ((i : ℕ) → i < size b n k → iter (step b n) i f ≡ nth (on k) i n) × (iter (step b n) (size b n k) f ≡ f)
      walk_order = (
        λ i h.
            let R : Reached i (iter (step b n) i f) = reached i h in
            sym (nth_of_count (on k) (iter (step b n) i f) n R.below (eq-eqb (number b (iter (step b n) i f)) k R.same))
            ∙ ap (λ x. nth (on k) x n) R.before,
        let one : size b n k ≡ (size b n k - 1) + 1 = omega (arith, before_end f l e) in
            ap (λ d. iter (step b n) d f) one ∙ comes_back (size b n k - 1) one,
      )

      walk_gather : (g : ℕ → ℕ) → table (λ i. g (iter (step b n) i f)) (size b n k) ≡ gather (on k) g n
      unfolding size
      walk_gather g =
          let met : ℕ → ℕ = λ i. g (iter (step b n) i f) in
          let d : ℕ = size b n k in
          let t : length (table met d) ≡ d = table_length met d in
          ext_get_or 0 (table met d) (gather (on k) g n) (t ∙ sym (gather_length (on k) g n))
          (λ i h.
          let l : i < d = omega arith in
          table_get_d met d i 0 l ∙ ap g (walk_order.0 i l) ∙ sym (gather_get_d (on k) g n i 0 l))

  pub about_cell : (n : ℕ) → Balanced b n → (k : ℕ) (g : ℕ → ℕ) → table (λ i. g (iter (step b n) i (first b n k))) (size b n k) ≡ gather (on k) g n
  unfolding first size
  about_cell n bal k g =
      let f : ℕ = first b n k in
      let met : ℕ → ℕ = λ i. g (iter (step b n) i f) in
      elim (same_or_not (size b n k) 0) [
        | inl z ↦
            let l : length (table met (size b n k)) ≡ 0 = table_length met (size b n k) ∙ z in
            ext_get_or 0 (table met (size b n k)) (gather (on k) g n) (l ∙ sym z ∙ sym (gather_length (on k) g n)) (λ i h. absurd (omega arith))
        | inr d ↦
            let below : f < n = first_below b n k (omega arith) in
            let e : number b f ≡ k = eqb-true (number b f) k (find_has (on k) n below) in
            walk_gather n bal k f below (sym (first_inner b n f below) ∙ ap (first b n) e) e g
      ]
