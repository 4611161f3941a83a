-- What a run of letters does to a count: letter by letter, over two runs, and at once.
--
-- run_end, run_neither, run_opens, run_closes, run_leaves == one letter
-- run_depth, run_found == each letter adds at most one, and to the depth only one of the family
-- run_on, run_off  == a run of w + u letters is one of w and, where that does not end the count, one of u from there on
-- run_none         == at once where no letter is of the family
-- run_deep         == at once where fewer letters are of the family than brackets are open: the depth is that of a scan over its brackets
-- Assumes nothing.
use mathlib.Core.Path.{◌≡◌, refl, sym, ap, ◌∙◌}
use mathlib.Core.Logic.{◌≢◌, ◌⊎◌, inl, inr}
use mathlib.Core.Bool.{Bool, true, false}
use mathlib.Core.List.{List}
use Prim.Native.Nat.{ℕ, zero, suc, ◌+◌, ◌-◌, ◌<◌, ◌≤◌}
use native.Mathlib.Nat.{add-zero}
use native.Mathlib.Omega.{arith}
use borrow.Author.Tests.{eq-eqb, ne_eqb}
use lib.Dec.{eqb}
use Rattle.count.specs.Below.{pick, count}
use Rattle.count.proofs.Logic.{same_or_not, true_or_false, true_not_false, pick_yes, pick_no}
use Rattle.count.proofs.Below.{count_yes, count_no, count_mono}
use Rattle.bits.specs.Strings.{bit, is_bit}
use Rattle.bits.proofs.Laws.{bit_cases}
use Rattle.matching.specs.Scans.{ahead}
use Rattle.matching.proofs.Laws.{opens_at, closes_at, ahead_opens, ahead_closes, ahead_end}
use Rattle.sizing.specs.Runs.{Stand, flat, run}

abbrev pub stand : ℕ → ℕ → Stand
stand d k = record { depth = d; found = k; left = false }

abbrev pub gone : ℕ → ℕ → Stand
gone d k = record { depth = d; found = k; left = true }

pub flat_yes : (d w : ℕ) → d ≡ 0 → flat d w ≡ w
flat_yes d w e = pick_yes (eqb d 0) w 0 (eq-eqb d 0 e)

pub flat_no : (d w : ℕ) → d ≢ 0 → flat d w ≡ 0
flat_no d w m = pick_no (eqb d 0) w 0 (ne_eqb d 0 m)

flat_le : (t : Bool) (w : ℕ) → pick t w 0 ≤ w
flat_le true w = omega arith
flat_le false w = omega arith

flat_more : (t : Bool) (k w : ℕ) → k + pick t 1 0 + pick t w 0 ≡ k + pick t (suc w) 0
flat_more true k w = omega arith
flat_more false k w = omega arith

module _ (P Q : ℕ → Bool) where
  pub run_end : (p j d k : ℕ) → run P Q 0 p j d k ≡ stand d k
  unfolding run
  run_end p j d k = refl

  pub run_neither : (w p j d k : ℕ) → P p ≡ false → run P Q (suc w) p j d k ≡ run P Q w (p + 1) j d (k + flat d 1)
  unfolding run
  run_neither w p j d k e = rw (e, run)

  pub run_opens : (w p j d k : ℕ) → P p ≡ true → Q j ≡ true → run P Q (suc w) p j d k ≡ run P Q w (p + 1) (j + 1) (d + 1) (k + flat d 1)
  unfolding run
  run_opens w p j d k e o = rw (e, o, run)

  pub run_closes : (w p j d k : ℕ) → P p ≡ true → Q j ≡ false → d ≢ 0
      → run P Q (suc w) p j d k ≡ run P Q w (p + 1) (j + 1) (d - 1) (k + flat d 1)
  unfolding run
  run_closes w p j zero k e o m = absurd (m refl)
  run_closes w p j (suc d) k e o m =
      let x : d ≡ suc d - 1 = omega arith in
      let y : k ≡ k + flat (suc d) 1 = omega (arith, flat_no (suc d) 1 m) in
      rw (e, o, run) (ap (λ i. run P Q w (p + 1) (j + 1) i k) x ∙ ap (run P Q w (p + 1) (j + 1) (suc d - 1)) y)

  pub run_leaves : (w p j d k : ℕ) → P p ≡ true → Q j ≡ false → d ≡ 0 → run P Q (suc w) p j d k ≡ gone d (k + flat d 1)
  unfolding run
  run_leaves w p j zero k e o z = rw (e, o, run)
  run_leaves w p j (suc d) k e o z = absurd (omega arith)

  -- over one letter the count goes on, however many are to come
  record Goes (p j d k : ℕ) : Type 0 where
    index : ℕ
    depth : ℕ
    taken : count P p + index ≡ count P (p + 1) + j
    most : depth + j ≤ d + index
    goes : (w : ℕ) → run P Q (suc w) p j d k ≡ run P Q w (p + 1) index depth (k + flat d 1)

  -- or it ends
  letter : (p j d k : ℕ) → ((w : ℕ) → run P Q (suc w) p j d k ≡ gone d (k + flat d 1)) ⊎ Goes p j d k
  letter p j d k =
      elim (true_or_false (P p)) [
        | inl t ↦
            elim (true_or_false (Q j)) [
              | inl r ↦
                  inr (record { index = j + 1; depth = d + 1; taken = omega (arith, count_yes P p t); most = omega arith; goes = λ w. run_opens w p j d k t r })
              | inr r ↦
                  elim (same_or_not d 0) [
                    | inl z ↦ inl (λ w. run_leaves w p j d k t r z)
                    | inr m ↦
                        inr (record { index = j + 1; depth = d - 1; taken = omega (arith, count_yes P p t); most = omega arith; goes = λ w. run_closes w p j d k t r m })
                  ]
            ]
        | inr t ↦ inr (record { index = j; depth = d; taken = omega (arith, count_no P p t); most = omega arith; goes = λ w. run_neither w p j d k t })
      ]

  pub run_depth : (w p j d k : ℕ) → (run P Q w p j d k).depth + count P p ≤ d + count P (p + w)
  run_depth zero p j d k = rw (run_end p j d k, add-zero p) (omega arith)
  run_depth (suc w) p j d k =
      let q : p + suc w ≡ p + 1 + w = omega arith in
      let l = count_mono P p (p + suc w) (omega arith) in
      elim (letter p j d k) [
        | inl e ↦ rw (e w) (omega arith)
        | inr g ↦ rw (g.goes w, q) (omega (arith, run_depth w (p + 1) g.index g.depth (k + flat d 1), g.most, g.taken))
      ]

  pub run_found : (w p j d k : ℕ) → (run P Q w p j d k).found ≤ k + w
  run_found zero p j d k = rw (run_end p j d k) (omega arith)
  run_found (suc w) p j d k =
      let l = flat_le (eqb d 0) 1 in
      elim (letter p j d k) [
        | inl e ↦ rw (e w) (omega arith)
        | inr g ↦ rw (g.goes w) (omega (arith, run_found w (p + 1) g.index g.depth (k + flat d 1)))
      ]

  -- w letters, to q and the index i, and then u letters
  pub run_on : (u w p j d k q i t : ℕ) → t ≡ w + u → q ≡ p + w → count P p + i ≡ count P q + j → (run P Q w p j d k).left ≡ false
      → run P Q t p j d k ≡ run P Q u q i (run P Q w p j d k).depth (run P Q w p j d k).found
  run_on u zero p j d k q i t e f c h =
      let x : t ≡ u = omega arith in
      let y : q ≡ p = omega arith in
      let z : i ≡ j = omega (arith, ap (count P) y) in
      rw (run_end p j d k, x, y, z)
  run_on u (suc w) p j d k q i t e f c h =
      let x : t ≡ suc (w + u) = omega arith in
      elim (letter p j d k) [
        | inl o ↦ absurd (true_not_false true refl (rw (o w) at h))
        | inr g ↦
            rw (x, g.goes (w + u), g.goes w)
            (run_on u w (p + 1) g.index g.depth (k + flat d 1) q i (w + u) refl (omega arith) (omega (arith, g.taken)) (rw (g.goes w) at h))
      ]

  pub run_off : (u w p j d k t : ℕ) → t ≡ w + u → (run P Q w p j d k).left ≡ true → run P Q t p j d k ≡ run P Q w p j d k
  run_off u zero p j d k t e h = absurd (true_not_false true refl (sym (rw (run_end p j d k) at h)))
  run_off u (suc w) p j d k t e h =
      let x : t ≡ suc (w + u) = omega arith in
      elim (letter p j d k) [
        | inl o ↦ rw (x, o (w + u), o w)
        | inr g ↦
            rw (x, g.goes (w + u), g.goes w)
            (run_off u w (p + 1) g.index g.depth (k + flat d 1) (w + u) refl (rw (g.goes w) at h))
      ]

  pub run_none : (w p j d k : ℕ) → count P p ≡ count P (p + w) → run P Q w p j d k ≡ stand d (k + flat d w)
  run_none zero p j d k h =
      let e : k ≡ k + flat d 0 = omega (arith, flat_le (eqb d 0) 0) in
      run_end p j d k ∙ ap (stand d) e
  run_none (suc w) p j d k h =
      let q : p + suc w ≡ p + 1 + w = omega arith in
      let l = count_mono P (p + 1) (p + suc w) (omega arith) in
      elim (true_or_false (P p)) [
        | inl t ↦ absurd (omega (arith, count_yes P p t))
        | inr t ↦
            run_neither w p j d k t
            ∙ run_none w (p + 1) j d (k + flat d 1) (count_no P p t ∙ h ∙ ap (count P) q)
            ∙ ap (stand d) (flat_more (eqb d 0) k w)
      ]

-- m letters of the family, with the brackets of b from j on
module _ (P : ℕ → Bool) (b : List ℕ) where
  pub run_deep : (w p j d k m n : ℕ) → n ≡ j + m → count P p + m ≡ count P (p + w) → m < d
      → run P (is_bit 0 b) w p j d k ≡ stand (ahead b n j d).depth k
  run_deep zero p j d k m n e h l =
      let z : m ≡ 0 = omega (arith, ap (count P) (add-zero p)) in
      run_end P (is_bit 0 b) p j d k ∙ ap (λ r. stand r.depth k) (sym (ahead_end b n j d (omega arith)))
  run_deep (suc w) p j d k m n e h l =
      let i : p + suc w ≡ p + 1 + w = omega arith in
      let c : count P p + m ≡ count P (p + 1 + w) = h ∙ ap (count P) i in
      let u = count_mono P (p + 1) (p + 1 + w) (omega arith) in
      let f : k + flat d 1 ≡ k = omega (arith, flat_no d 1 (omega arith)) in
      let x : suc j ≡ j + 1 = omega arith in
      elim (true_or_false (P p)) [
        | inl t ↦
            let v = count_yes P p t in
            bit_cases b j
            (λ z.
            let y : suc d ≡ d + 1 = omega arith in
            run_opens P (is_bit 0 b) w p j d k t (eq-eqb (bit b j) 0 z)
            ∙ ap (run P (is_bit 0 b) w (p + 1) (j + 1) (d + 1)) f
            ∙ run_deep w (p + 1) (j + 1) (d + 1) k (m - 1) n (omega arith) (omega arith) (omega arith)
            ∙ ap (λ r. stand r.depth k) (sym (rw (x, y) at (ahead_opens b n j d (omega arith) (opens_at b j 0 (sym z) refl)))))
            (λ o.
            let y : suc (d - 1) ≡ d = omega arith in
            run_closes P (is_bit 0 b) w p j d k t (ne_eqb (bit b j) 0 (omega arith)) (omega arith)
            ∙ ap (run P (is_bit 0 b) w (p + 1) (j + 1) (d - 1)) f
            ∙ run_deep w (p + 1) (j + 1) (d - 1) k (m - 1) n (omega arith) (omega arith) (omega arith)
            ∙ ap (λ r. stand r.depth k) (sym (rw (x, y) at (ahead_closes b n j (d - 1) (omega arith) (closes_at b j 1 (sym o) (omega arith))))))
        | inr t ↦
            run_neither P (is_bit 0 b) w p j d k t
            ∙ ap (run P (is_bit 0 b) w (p + 1) j d) f
            ∙ run_deep w (p + 1) j d k m n e (omega (arith, count_no P p t)) l
      ]
