-- Ends of borders: the other end, and the walks that cross a set of borders.
--
-- other_even, other_odd == the other end of 2e is 2e + 1, and the reverse
-- other_other, other_border, other_below, other_moves == the other end's other end is the end itself; it is of the same border,
--                       below 2m with it, and another end
-- border_below       == the border of an end below 2m is below m
-- border_two         == an end of h's border is h or its other end
-- two_places         == where each end stands at one place, a border has two places and no third
-- other_end          == the other end of an end is an end
-- count_borders      == of the 2m ends, twice as many as of the m borders have a test of the border
-- entries_permute    == entries in range and distinct: the turning list is a permutation
-- turn_permutes      == so where checks 3 and 4 are passed
-- over_over, over_below, walk_permutes == crossing the borders of a set is an involution, and so each walk is a permutation
-- end_zero, end_after == the tour begins at the start, and goes on by the tour's step
-- Assumes nothing.
use mathlib.Core.Path.{◌≡◌, refl, sym, ap, ◌∙◌}
use mathlib.Core.Logic.{◌≢◌, ◌⊎◌, inl, inr}
use mathlib.Core.Bool.{Bool, true, false}
use Prim.Native.Nat.{ℕ, zero, suc, pred, ◌+◌, ◌*◌, ◌/◌, ◌%◌, ◌<◌}
use native.Mathlib.Omega.{arith}
use native.Mathlib.Numerals.{add-one}
use lib.Dec.{eqb}
use borrow.Author.Tests.{eq-eqb, ne_eqb}
use Rattle.count.specs.Below.{count}
use Rattle.count.proofs.Logic.{same_or_not, pick_yes, pick_no, true_or_false}
use Rattle.orbits.specs.Cycles.{Permutes}
use Rattle.orbits.proofs.Iter.{iter_zero, iter_next, permutes_differ, permutes_involution, permutes_compose}
use Rattle.drawing.specs.Drawing.{Drawing, borders, ends, border, other, turn, is_marked, over, walk, end_at}
use Rattle.drawing.specs.Checks.{EntriesFit, InRange, Distinct}

-- by the last binary digit of h
other_at_even : (h : ℕ) → h % 2 ≡ 0 → other h ≡ h + 1
unfolding other
other_at_even h e = pick_yes (eqb (h % 2) 0) (suc h) (pred h) (eq-eqb (h % 2) 0 e) ∙ sym (add-one h)

other_at_odd : (h : ℕ) → h % 2 ≢ 0 → other h + 1 ≡ h
unfolding other
other_at_odd h e =
    let f : other h ≡ pred h = pick_no (eqb (h % 2) 0) (suc h) (pred h) (ne_eqb (h % 2) 0 e) in
    omega (arith, f)

pub other_even : (e : ℕ) → other (2 * e) ≡ 2 * e + 1
other_even e = other_at_even (2 * e) (omega arith)

pub other_odd : (e : ℕ) → other (2 * e + 1) ≡ 2 * e
other_odd e =
    let z : (2 * e + 1) % 2 ≢ 0 = omega arith in
    omega (arith, other_at_odd (2 * e + 1) z)

-- what is known of the other end, by whether h is even
pub record Across (h o : ℕ) : Type 0 where
  pub even : h % 2 ≡ 0 → o ≡ h + 1
  pub odd : h % 2 ≡ 1 → o + 1 ≡ h

pub across : (h : ℕ) → Across h (other h)
across h =
    record {
      even = other_at_even h;
      odd = λ e. other_at_odd h (let z : h % 2 ≢ 0 = omega arith in z);
    }

-- every number is even or odd
parity : (h : ℕ) → (h % 2 ≡ 0) ⊎ (h % 2 ≡ 1)
parity h = elim (same_or_not (h % 2) 0) [ inl e ↦ inl e | inr n ↦ inr (omega arith) ]

pub other_border : (h : ℕ) → border (other h) ≡ border h
unfolding border
other_border h =
    elim (parity h) [
      | inl e ↦ omega (arith, (across h).even e)
      | inr o ↦ omega (arith, (across h).odd o)
    ]

pub other_other : (h : ℕ) → other (other h) ≡ h
other_other h =
    elim (parity h) [
      | inl e ↦
          let a : other h ≡ h + 1 = (across h).even e in
          let o : other h % 2 ≡ 1 = omega arith in
          omega (arith, (across (other h)).odd o)
      | inr o ↦
          let a : other h + 1 ≡ h = (across h).odd o in
          let e : other h % 2 ≡ 0 = omega arith in
          omega (arith, (across (other h)).even e)
    ]

pub other_moves : (h : ℕ) → other h ≢ h
other_moves h =
    elim (parity h) [
      | inl e ↦ λ q. omega (arith, (across h).even e)
      | inr o ↦ λ q. omega (arith, (across h).odd o)
    ]

pub other_below : (m h : ℕ) → h < 2 * m → other h < 2 * m
other_below m h b =
    elim (parity h) [
      | inl e ↦ omega (arith, (across h).even e)
      | inr o ↦ omega (arith, (across h).odd o)
    ]

pub border_below : (m h : ℕ) → h < 2 * m → border h < m
unfolding border
border_below m h b = omega arith

pub border_two : (g h : ℕ) → border g ≡ border h → (g ≡ h) ⊎ (g ≡ other h)
unfolding border
border_two g h e =
    elim (same_or_not g h) [
      | inl s ↦ inl s
      | inr d ↦
          elim (parity h) [
            | inl z ↦ inr (omega (arith, (across h).even z))
            | inr o ↦ inr (omega (arith, (across h).odd o))
          ]
    ]

-- t says which end stands at each of the places
pub two_places : (places : ℕ) (t : ℕ → ℕ) → Permutes places t → (f g h : ℕ) → f < places → g < places → h < places
    → border (t f) ≡ border (t h) → border (t g) ≡ border (t h) → f ≢ h → g ≢ h → f ≡ g
two_places places t P f g h bf bg bh p q d e =
    elim (border_two (t f) (t h) p) [
      | inl a ↦ absurd (d (P.injective f h bf bh a))
      | inr a ↦
          elim (border_two (t g) (t h) q) [
            | inl b ↦ absurd (e (P.injective g h bg bh b))
            | inr b ↦ P.injective f g bf bg (a ∙ sym b)
          ]
    ]

pub other_end : (D : Drawing) (h : ℕ) → h < ends D → other h < ends D
unfolding ends
other_end D h l = other_below (borders D) h l

pub count_borders : (S : ℕ → Bool) (m : ℕ) → count (λ h. S (border h)) (2 * m) ≡ 2 * count S m
unfolding count border
count_borders S zero = refl
count_borders S (suc m) =
    let two : 2 * suc m ≡ suc (suc (2 * m)) = omega arith in
    let even : 2 * m / 2 ≡ m = omega arith in
    let odd : suc (2 * m) / 2 ≡ m = omega arith in
    let rest = count_borders S m in
    rw (two, even, odd) (elim (true_or_false (S m)) [ inl t ↦ rw t (omega arith) | inr f ↦ rw f rest ])

pub entries_permute : (D : Drawing) → EntriesFit D → Distinct D → Permutes (ends D) (turn D)
entries_permute D f d = permutes_differ (ends D) (turn D) f d.differ

pub turn_permutes : (D : Drawing) → InRange D → Distinct D → Permutes (ends D) (turn D)
turn_permutes D r d = entries_permute D r.entries d

pub over_yes : (S : ℕ → Bool) (h : ℕ) → S (border h) ≡ true → over S h ≡ other h
unfolding over
over_yes S h e = pick_yes (S (border h)) (other h) h e

pub over_no : (S : ℕ → Bool) (h : ℕ) → S (border h) ≡ false → over S h ≡ h
unfolding over
over_no S h e = pick_no (S (border h)) (other h) h e

pub over_below : (S : ℕ → Bool) (m h : ℕ) → h < 2 * m → over S h < 2 * m
over_below S m h b =
    elim (true_or_false (S (border h))) [
      | inl e ↦ rw (over_yes S h e) (other_below m h b)
      | inr e ↦ rw (over_no S h e) b
    ]

pub over_over : (S : ℕ → Bool) (h : ℕ) → over S (over S h) ≡ h
over_over S h =
    elim (true_or_false (S (border h))) [
      | inl e ↦ ap (over S) (over_yes S h e) ∙ over_yes S (other h) (ap S (other_border h) ∙ e) ∙ other_other h
      | inr e ↦ ap (over S) (over_no S h e) ∙ over_no S h e
    ]

pub walk_permutes : (D : Drawing) (S : ℕ → Bool) → Permutes (ends D) (turn D) → Permutes (ends D) (walk D S)
unfolding walk ends
walk_permutes D S p =
    permutes_compose p (permutes_involution (ends D) (over S) (over_below S (borders D)) (λ x b. over_over S x))

pub end_zero : (D : Drawing) → end_at D 0 ≡ D.start
unfolding end_at
end_zero D = iter_zero (walk D (is_marked D)) D.start

pub end_after : (D : Drawing) (p : ℕ) → end_at D (p + 1) ≡ walk D (is_marked D) (end_at D p)
unfolding end_at
end_after D p = iter_next (walk D (is_marked D)) p D.start
