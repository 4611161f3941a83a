-- The exchange law: to exchange the values of a permutation at two numbers joins their two cycles, or parts their one cycle.
--
-- exchange_joins == x and y in different cycles of f are in one of g, and there is one cycle less
-- exchange_parts == x and y in one cycle of f are in different ones of g, and there is one cycle more
-- exchange_moves == in either case the number of cycles moves by at most one
-- Besides, the laws of Exchanged. Assumes nothing.
use mathlib.Core.Path.{◌≡◌, refl, sym, ◌∙◌}
use mathlib.Core.Logic.{inl, inr, ◌≢◌}
use mathlib.Core.Bool.{false}
use Prim.Native.Nat.{ℕ, ◌+◌, ◌<◌, ◌≤◌}
use native.Mathlib.Omega.{arith}
use lib.Dec.{eqb}
use borrow.Author.Tests.{eq-eqb, ne_eqb}
use Rattle.count.specs.Below.{pick}
use Rattle.count.proofs.Logic.{lt_or_ge, same_or_not, bool_same, pick_yes, pick_no}
use Rattle.count.proofs.Below.{count_one_less}
use Rattle.orbits.specs.Cycles.{Permutes, SameCycle, low, leads, cycles}
use Rattle.orbits.specs.Exchange.{OneLess, OneMore}
use Rattle.orbits.proofs.Same.{same_cycle_trans, same_cycle_sym, same_cycle_induct, same_cycle_decided}
use Rattle.orbits.proofs.Low.{low_same, low_le, low_below, low_is, low_step, low_low, leads_is, leads_from, leads_not, same_cycle_low, low_same_cycle}
pub use Rattle.orbits.proofs.Exchanged.{Exchanged, exchange_sym, exchange_turn, exchange_permutes, exchange_meets, exchange_keeps, exchange_severs, Touched, exchange_new}

-- a where z is b, else z
merge : ℕ → ℕ → ℕ → ℕ
merge a b z = pick (eqb z b) a z

merge_at_lem : (a b z : ℕ) → z ≡ b → merge a b z ≡ a
unfolding merge
merge_at_lem a b z e = pick_yes (eqb z b) a z (eq-eqb z b e)

merge_off : (a b z : ℕ) → z ≢ b → merge a b z ≡ z
unfolding merge
merge_off a b z d = pick_no (eqb z b) a z (ne_eqb z b d)

-- The cycle of y, joined to that of x, takes its least: b turns into a.
module _ {n : ℕ} {f g : ℕ → ℕ} {x y a b : ℕ} (p : Permutes n f) (E : Exchanged n f g x y) (low_x : low n f x ≡ a) (low_y : low n f y ≡ b) (less : a < b) where
  different : SameCycle f x y → ⊥
  different s = omega (arith, same_cycle_low p E.x_below s)

  merge_le : (z : ℕ) → merge a b z ≤ z
  merge_le z =
      elim (same_or_not z b) [ inl e ↦ omega (arith, merge_at_lem a b z e) | inr d ↦ omega (arith, merge_off a b z d) ]

  merge_step : (z : ℕ) → z < n → merge a b (low n f (g z)) ≡ merge a b (low n f z)
  merge_step z l =
      let at_x = merge_off a b a (omega arith) in
      let at_y = merge_at_lem a b b refl in
      elim (same_or_not z x) [
        | inl e ↦ rw (e, E.at_x, low_step p y E.y_below, low_x, low_y) (at_y ∙ sym at_x)
        | inr d ↦
            elim (same_or_not z y) [
              | inl e ↦ rw (e, E.at_y, low_step p x E.x_below, low_x, low_y) (at_x ∙ sym at_y)
              | inr c ↦ rw (E.off z l d c, low_step p z l)
            ]
      ]

  old_low : (z : ℕ) → z < n → SameCycle g z (low n f z)
  old_low z l = exchange_keeps p E different l (low_same n f z)

  new_low : (z : ℕ) → z < n → SameCycle g z (merge a b (low n f z))
  new_low z l =
      let q : Permutes n g = exchange_permutes p E in
      elim (same_or_not (low n f z) b) [
        | inl e ↦
            let z_b : SameCycle g z b = rw e at (old_low z l) in
            let y_b : SameCycle g y b = rw low_y at (old_low y E.y_below) in
            let x_a : SameCycle g x a = rw low_x at (old_low x E.x_below) in
            let y_x : SameCycle g y x = same_cycle_sym q E.x_below (exchange_meets p E different) in
            rw (merge_at_lem a b (low n f z) e) (same_cycle_trans z_b (same_cycle_trans (same_cycle_sym q E.y_below y_b) (same_cycle_trans y_x x_a)))
        | inr d ↦ rw (merge_off a b (low n f z) d) (old_low z l)
      ]

  low_merged : (z : ℕ) → z < n → low n g z ≡ merge a b (low n f z)
  low_merged z l =
      let q : Permutes n g = exchange_permutes p E in
      low_is q z (merge a b (low n f z)) l (new_low z l)
      (λ v s.
      let k : merge a b (low n f v) ≡ merge a b (low n f z)
      = same_cycle_induct q (λ w. merge a b (low n f w) ≡ merge a b (low n f z)) z v (λ w h e. merge_step w h ∙ e) l refl s in
      omega (arith, merge_le (low n f v), low_le n f v))

  b_led : low n f b ≡ b
  b_led = rw low_y at (low_low p y E.y_below)

  b_leads_no_more : leads n g b ≡ false
  b_leads_no_more =
      let e : low n g b ≡ a = low_merged b (omega (arith, low_below n f y E.y_below)) ∙ merge_at_lem a b (low n f b) b_led in
      leads_not n g b (omega arith)

  leads_kept : (z : ℕ) → z < n → z ≢ b → leads n f z ≡ leads n g z
  leads_kept z l d =
      let m = low_merged z l in
      bool_same (leads n f z) (leads n g z)
      (λ h.
      let e = leads_is n f z h in
      leads_from n g z (m ∙ merge_off a b (low n f z) (omega arith) ∙ e))
      (λ h.
      let e = leads_is n g z h in
      elim (same_or_not (low n f z) b) [
        | inl s ↦
            let za : z ≡ a = omega (arith, merge_at_lem a b (low n f z) s) in
            let t : low n f a ≡ a = rw low_x at (low_low p x E.x_below) in
            let u : low n f a ≡ b = rw za at s in
            absurd (omega arith)
        | inr t ↦ leads_from n f z (omega (arith, merge_off a b (low n f z) t))
      ])

  fewer : cycles n g + 1 ≡ cycles n f
  unfolding cycles
  fewer =
      count_one_less (leads n f) (leads n g) n b (omega (arith, low_below n f y E.y_below)) (leads_from n f b b_led) b_leads_no_more leads_kept

module _ {n : ℕ} {f g : ℕ → ℕ} {x y : ℕ} (p : Permutes n f) (E : Exchanged n f g x y) where
  pub exchange_joins : (SameCycle f x y → ⊥) → OneLess n f g x y
  exchange_joins no_way =
      record {
        together = exchange_meets p E no_way;
        less =
            elim (lt_or_ge (low n f x) (low n f y)) [
              | inl h ↦ fewer p E refl refl h
              | inr h ↦
                  elim (same_or_not (low n f x) (low n f y)) [
                    | inl e ↦ absurd (no_way (low_same_cycle p x y E.x_below E.y_below e))
                    | inr d ↦ fewer p (exchange_turn E) refl refl (omega arith)
                  ]
            ];
      }

module _ {n : ℕ} {f g : ℕ → ℕ} {x y : ℕ} (p : Permutes n f) (E : Exchanged n f g x y) where
  pub exchange_parts : SameCycle f x y → OneMore n f g x y
  exchange_parts s =
      let no_way = exchange_severs p E s in
      let r = exchange_joins (exchange_permutes p E) (exchange_sym E) no_way in
      record { separate = no_way; more = sym r.less }

  pub exchange_moves : (cycles n g ≤ cycles n f + 1) × (cycles n f ≤ cycles n g + 1)
  exchange_moves =
      elim (same_cycle_decided p x y E.x_below) [
        | inl s ↦ let r = exchange_parts s in omega arith
        | inr d ↦ let r = exchange_joins p E d in omega arith
      ]
