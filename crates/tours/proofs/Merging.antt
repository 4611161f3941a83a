-- The labels of check 5, counted, over a set S of borders: each border of S takes one away or none.
--
-- label_below    == a label is below 2m
-- present D S e l == whether l is some end's label after the first e borders
-- parted D S e   == whether the two ends of border e had different labels when its turn came
-- merges D S e   == whether border e is in S, and parted
-- labels_fall    == labels present and borders that merged are as many as the points
-- labels_one     == at the last one label is present, if the borders of S join all points
-- points_merged  == then there is one point more than there are borders that merged
-- marks_at_least == and so at least n - 1 borders are marked, if the marked ones do
-- marks_merge    == if no more are marked, each of them merged
-- merges_label, merges_join == the borders of S that merged leave the same labels, and so join what S joins
-- Assumes nothing.
use mathlib.Core.Path.{◌≡◌, refl, sym, ◌∙◌}
use mathlib.Core.Logic.{◌≢◌, inl, inr}
use mathlib.Core.Bool.{Bool, true, false, not, ◌&&◌}
use Prim.Native.Nat.{ℕ, zero, suc, ◌+◌, ◌*◌, ◌≤◌, ◌<◌}
use native.Mathlib.Numerals.{add-one}
use native.Mathlib.Omega.{arith}
use lib.Dec.{eqb}
use borrow.Author.Tests.{eqb-true, eq-eqb, ne_eqb}
use Rattle.count.specs.Below.{count, any}
use Rattle.count.proofs.Logic.{same_or_not, lt_or_ge, true_or_false, true_not_false, both, both_left, both_right, bool_same}
use Rattle.count.proofs.Below.{any_has, any_from, count_zero, count_yes, count_no, count_before, count_same, count_implies, count_split, count_none, count_one_less}
use Rattle.answers.specs.Answer.{Kind}
use Rattle.orbits.specs.Cycles.{Permutes, low, leads, cycles}
use Rattle.orbits.proofs.Low.{low_below, leads_is, leads_low}
use Rattle.drawing.specs.Drawing.{Drawing, borders, ends, turn, is_marked, cells}
use Rattle.drawing.specs.Checks.{InRange, Distinct, Joins, Joined, mark_count}
use Rattle.drawing.proofs.Ends.{turn_permutes}
use Rattle.drawing.proofs.Labels.{label, label_start, label_out, label_at, label_off, label_same, linked_label, label_linked}
use Rattle.drawing.proofs.Cells.{cells_none, points_are}

abbrev pub present : Drawing → (ℕ → Bool) → ℕ → ℕ → Bool
present D S e l = any (λ h. eqb (label D S e h) l) (ends D)

abbrev pub parted : Drawing → (ℕ → Bool) → ℕ → Bool
parted D S e = not (eqb (label D S e (2 * e)) (label D S e (2 * e + 1)))

abbrev pub merges : Drawing → (ℕ → Bool) → ℕ → Bool
merges D S e = S e && parted D S e

module _ (D : Drawing) (S : ℕ → Bool) where
  present_has : (e l : ℕ) → present D S e l ≡ true → (h : ℕ) × (h < ends D) × (label D S e h ≡ l)
  present_has e l t =
      let r = any_has (λ h. eqb (label D S e h) l) (ends D) t in
      (r.0, r.1, eqb-true (label D S e r.0) l r.2)

  present_from : (e l h : ℕ) → h < ends D → label D S e h ≡ l → present D S e l ≡ true
  present_from e l h b q = any_from (λ x. eqb (label D S e x) l) (ends D) h b (eq-eqb (label D S e h) l q)

  -- tests that hold of the same labels
  present_same : (e i l : ℕ) → ((h : ℕ) → h < ends D → label D S e h ≡ label D S i h) → present D S e l ≡ present D S i l
  present_same e i l same =
      bool_same (present D S e l) (present D S i l)
      (λ t. let r = present_has e l t in present_from i l r.0 r.1 (sym (same r.0 r.1) ∙ r.2))
      (λ t. let r = present_has i l t in present_from e l r.0 r.1 (same r.0 r.1 ∙ r.2))

  pub label_below : (e : ℕ) → e ≤ borders D → (h : ℕ) → h < ends D → label D S e h < ends D
  unfolding ends
  label_below zero l h b = rw (label_start D S h b) (low_below (ends D) (turn D) h b)
  label_below (suc e) l h b =
      let before : (h : ℕ) → h < ends D → label D S e h < ends D = label_below e (omega arith) in
      rw (← add-one e) (elim (true_or_false (S e)) [
        | inl t ↦
            elim (same_or_not (label D S e h) (label D S e (2 * e))) [
              | inl q ↦ rw (label_at D S e t h b q) (before (2 * e + 1) (omega arith))
              | inr d ↦ rw (label_off D S e t h b d) (before h b)
            ]
        | inr f ↦ rw (label_out D S e h f) (before h b)
      ])

  -- one label less after a border that merged
  merge_less : (e : ℕ) → e < borders D → S e ≡ true → label D S e (2 * e) ≢ label D S e (2 * e + 1)
      → count (present D S (e + 1)) (ends D) + 1 ≡ count (present D S e) (ends D)
  unfolding ends
  merge_less e l t d =
      let be : 2 * e < ends D = omega arith in
      let bo : 2 * e + 1 < ends D = omega arith in
      let a : ℕ = label D S e (2 * e) in
      let gone : (h : ℕ) → h < ends D → label D S (e + 1) h ≢ a = λ h b q.
      (elim (same_or_not (label D S e h) a) [
        | inl s ↦ d (sym q ∙ label_at D S e t h b s)
        | inr n ↦ n (sym (label_off D S e t h b n) ∙ q)
      ]) in
      count_one_less (present D S e) (present D S (e + 1)) (ends D) a (label_below e (omega arith) (2 * e) be)
      (present_from e a (2 * e) be refl)
      (elim (true_or_false (present D S (e + 1) a)) [
        | inl p ↦ let r = present_has (e + 1) a p in absurd (gone r.0 r.1 r.2)
        | inr p ↦ p
      ])
      (λ x b n. bool_same (present D S e x) (present D S (e + 1) x)
      (λ p.
      let r = present_has e x p in
      present_from (e + 1) x r.0 r.1 (label_off D S e t r.0 r.1 (λ q. n (sym r.2 ∙ q)) ∙ r.2))
      (λ p.
      let r = present_has (e + 1) x p in
      elim (same_or_not (label D S e r.0) a) [
        | inl s ↦ present_from e x (2 * e + 1) bo (sym (label_at D S e t r.0 r.1 s) ∙ r.2)
        | inr s ↦ present_from e x r.0 r.1 (sym (label_off D S e t r.0 r.1 s) ∙ r.2)
      ]))

  -- any other border keeps all labels, and so as many
  pub merge_keeps : (e : ℕ) → merges D S e ≡ false → (h : ℕ) → h < ends D → label D S (e + 1) h ≡ label D S e h
  merge_keeps e f h b =
      elim (true_or_false (S e)) [
        | inl t ↦
            elim (same_or_not (label D S e (2 * e)) (label D S e (2 * e + 1))) [
              | inl s ↦ label_same D S e t s h b
              | inr d ↦
                  let p : parted D S e ≡ true = rw (ne_eqb (label D S e (2 * e)) (label D S e (2 * e + 1)) d) in
                  absurd (true_not_false (merges D S e) (both (S e) (parted D S e) t p) f)
            ]
        | inr g ↦ label_out D S e h g
      ]

  merge_none : (e : ℕ) → merges D S e ≡ false → count (present D S (e + 1)) (ends D) ≡ count (present D S e) (ends D)
  merge_none e f = count_same (present D S (e + 1)) (present D S e) (ends D) (λ l b. present_same (e + 1) e l (merge_keeps e f))

  parted_not : (e : ℕ) → parted D S e ≡ true → label D S e (2 * e) ≢ label D S e (2 * e + 1)
  parted_not e t s =
      let f : parted D S e ≡ false = rw (eq-eqb (label D S e (2 * e)) (label D S e (2 * e + 1)) s) in
      true_not_false (parted D S e) t f

  module _ (p : Permutes (ends D) (turn D)) where
    labels_start : count (present D S 0) (ends D) ≡ cycles (ends D) (turn D)
    unfolding cycles
    labels_start =
        count_same (present D S 0) (leads (ends D) (turn D)) (ends D)
        (λ l b. bool_same (present D S 0 l) (leads (ends D) (turn D) l)
        (λ t.
        let r = present_has 0 l t in
        let q : low (ends D) (turn D) r.0 ≡ l = sym (label_start D S r.0 r.1) ∙ r.2 in
        rw q at (leads_low p r.0 r.1))
        (λ t. present_from 0 l l b (label_start D S l b ∙ leads_is (ends D) (turn D) l t)))

    pub labels_fall : (e : ℕ) → e ≤ borders D → count (present D S e) (ends D) + count (merges D S) e ≡ cycles (ends D) (turn D)
    labels_fall zero l = omega (arith, labels_start, count_zero (merges D S))
    labels_fall (suc e) l =
        let before = labels_fall e (omega arith) in
        rw (← add-one e) (elim (true_or_false (merges D S e)) [
          | inl t ↦
              omega (
                arith,
                before,
                count_yes (merges D S) e t,
                merge_less e l (both_left (S e) (parted D S e) t) (parted_not e (both_right (S e) (parted D S e) t)),
              )
          | inr f ↦ omega (arith, before, count_no (merges D S) e f, merge_none e f)
        ])

    pub labels_one : Joins D S → 0 < borders D → count (present D S (borders D)) (ends D) ≡ 1
    unfolding ends
    labels_one j pos =
        let m : ℕ = borders D in
        let z : 0 < ends D = omega arith in
        let one : count (λ x. false) (ends D) + 1 ≡ count (present D S m) (ends D)
        = count_one_less (present D S m) (λ x. false) (ends D) (label D S m 0) (label_below m (omega arith) 0 z)
        (present_from m (label D S m 0) 0 z refl) refl
        (λ x b n. elim (true_or_false (present D S m x)) [
          | inl t ↦
              let r = present_has m x t in
              absurd (n (sym r.2 ∙ sym (linked_label D S p 0 r.0 z (j.link 0 r.0 z r.1))))
          | inr f ↦ f
        ]) in
        omega (arith, one, count_none (λ x. false) (ends D) (λ x b. refl))

    pub points_merged : Joins D S → 0 < borders D → cycles (ends D) (turn D) ≡ count (merges D S) (borders D) + 1
    points_merged j pos = omega (arith, labels_fall (borders D) (omega arith), labels_one j pos)

pub marks_at_least : (D : Drawing) → InRange D → Distinct D → Joined D → cells D Kind.point ≤ mark_count D + 1
unfolding mark_count
marks_at_least D r d j =
    elim (lt_or_ge 0 (borders D)) [
      | inl pos ↦
          omega (
            arith,
            points_are D pos,
            points_merged D (is_marked D) (turn_permutes D r d) j pos,
            count_implies (merges D (is_marked D)) (is_marked D) (borders D) (λ e l. both_left (is_marked D e) (parted D (is_marked D) e)),
          )
      | inr z ↦ omega (arith, cells_none D Kind.point (let q : borders D ≡ 0 = omega arith in q))
    ]

pub marks_merge : (D : Drawing) → InRange D → Distinct D → Joined D → mark_count D < cells D Kind.point
    → (e : ℕ) → e < borders D → is_marked D e ≡ true → label D (is_marked D) e (2 * e) ≢ label D (is_marked D) e (2 * e + 1)
unfolding mark_count
marks_merge D r d j few e l t s =
    let M : ℕ → Bool = is_marked D in
    let idle : ℕ → Bool = λ i. M i && not (parted D M i) in
    let f : parted D M e ≡ false = rw (eq-eqb (label D M e (2 * e)) (label D M e (2 * e + 1)) s) in
    let h : idle e ≡ true = rw (t, f) in
    omega (
      arith,
      few,
      points_are D (omega arith),
      points_merged D M (turn_permutes D r d) j (omega arith),
      count_split M (parted D M) (borders D),
      count_before idle e (borders D) l h,
    )

module _ (D : Drawing) (S : ℕ → Bool) where
  pub merges_label : (e : ℕ) → e ≤ borders D → (h : ℕ) → h < ends D → label D (merges D S) e h ≡ label D S e h
  unfolding ends
  merges_label zero l h b = label_start D (merges D S) h b ∙ sym (label_start D S h b)
  merges_label (suc e) l h b =
      let M : ℕ → Bool = merges D S in
      let before : (h : ℕ) → h < ends D → label D M e h ≡ label D S e h = merges_label e (omega arith) in
      rw (← add-one e) (elim (true_or_false (merges D S e)) [
        | inl t ↦
            let first : label D M e (2 * e) ≡ label D S e (2 * e) = before (2 * e) (omega arith) in
            let second : label D M e (2 * e + 1) ≡ label D S e (2 * e + 1) = before (2 * e + 1) (omega arith) in
            let inside : S e ≡ true = both_left (S e) (parted D S e) t in
            elim (same_or_not (label D S e h) (label D S e (2 * e))) [
              | inl q ↦ label_at D M e t h b (before h b ∙ q ∙ sym first) ∙ second ∙ sym (label_at D S e inside h b q)
              | inr d ↦ label_off D M e t h b (λ q. d (sym (before h b) ∙ q ∙ first)) ∙ before h b ∙ sym (label_off D S e inside h b d)
            ]
        | inr f ↦ label_out D M e h f ∙ before h b ∙ sym (merge_keeps D S e f h b)
      ])

  pub merges_join : Permutes (ends D) (turn D) → Joins D S → Joins D (merges D S)
  merges_join p j =
      let m : ℕ = borders D in
      record {
        link = λ g h bg bh.
            label_linked D (merges D S) p m (omega arith) g h bg bh
            (merges_label m (omega arith) g bg ∙ linked_label D S p g h bg (j.link g h bg bh) ∙ sym (merges_label m (omega arith) h bh));
      }
