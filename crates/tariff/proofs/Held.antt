-- Floats in order: a number held between a floor and a ceiling lies between them.
--
-- is_true, holds     == a test that computes to a type, and one that equals true
-- le_not_lt          == what is at most another isn't above it
-- not_lt_le          == of two positive numbers one is at most the other, unless it's above it
-- le_same            == a positive number is at most itself
-- least_positive, most_positive, within_positive == the bounds are finite and above 0, and so is a number within them
-- held_fits          == what is allowed of a held factor
-- held_cases         == it is its floor, its ceiling or itself
-- held_inside        == a number that lies between its floor and its ceiling is held as it is
-- held_between       == a held number lies between them
-- held_within        == and within the bounds
-- Assumes nothing.
use mathlib.Core.Path.{◌≡◌, refl, sym, ◌∙◌, subst}
use mathlib.Core.Logic.{inl, inr}
use mathlib.Core.Bool.{Bool, true, false, not, ◌&&◌, ◌||◌, true≢false}
use Prim.Native.Nat.{ℕ, ◌+◌, ◌*◌, ◌≤◌}
use native.Mathlib.Omega.{arith}
use lib.Dec.{T, eqb, ltb}
use borrow.Author.Tests.{ltb-true, ltb-false, eqb-true, le-ltb, not-true}
use lib.Ieee.{Float, nan, inf, fin, up, down, below, level, of_bits, lt, le}
use lib.Ieee.Positive.{positive, num, den, cross→le, between}
use Rattle.count.specs.Below.{pick}
use Rattle.count.proofs.Logic.{true_or_false, both_left, both_right, one_of, pick_yes, pick_no}
use Rattle.tariff.specs.declared.factor.Factor.{Factor}
use Rattle.tariff.specs.Tariff.{least, most, within, held, allowed}

pub is_true : {t : Bool} → T t → t ≡ true
is_true {t = true} h = refl
is_true {t = false} h = absurd h

pub holds : {t : Bool} → t ≡ true → T t
holds e = subst T (sym e) tt

never : {X : Type 0} → false ≡ true → X
never e = absurd (true≢false (sym e))

-- ---- two numbers by their sizes over one denominator
sizes_ordered : (s t : Bool) (a b : ℕ) → below s a t b || level s a t b ≡ true → below t b s a ≡ false
sizes_ordered false false a b e =
    le-ltb b a (elim (one_of (ltb a b) (level false a false b) e) [
      | inl h ↦ omega (arith, ltb-true a b h)
      | inr h ↦ omega (arith, eqb-true a b (both_left (eqb a b) true h))
    ])
sizes_ordered false true a b e =
    let p = eqb-true a b (both_left (eqb a b) (eqb a 0) e) in
    let q = eqb-true a 0 (both_right (eqb a b) (eqb a 0) e) in
    le-ltb 0 (b + a) (omega arith)
sizes_ordered true false a b e = refl
sizes_ordered true true a b e =
    le-ltb a b (elim (one_of (ltb b a) (level true a true b) e) [
      | inl h ↦ omega (arith, ltb-true b a h)
      | inr h ↦ omega (arith, eqb-true a b (both_left (eqb a b) true h))
    ])

pub le_not_lt : (x y : Float) → le x y ≡ true → lt y x ≡ false
unfolding le
le_not_lt nan y e = never e
le_not_lt (inf s) nan e = never e
le_not_lt (inf true) (inf true) e = refl
le_not_lt (inf true) (inf false) e = refl
le_not_lt (inf false) (inf true) e = never e
le_not_lt (inf false) (inf false) e = refl
le_not_lt (inf true) (fin t n d) e = refl
le_not_lt (inf false) (fin t n d) e = never e
le_not_lt (fin s m e) nan h = never h
le_not_lt (fin s m e) (inf true) h = never h
le_not_lt (fin s m e) (inf false) h = refl
le_not_lt (fin s m e) (fin t n d) h = sizes_ordered s t (m * up e * down d) (n * up d * down e) h

lt_false : (x y : Float) → T (positive x) → T (positive y) → lt y x ≡ false → num x * den y ≤ num y * den x
unfolding lt
lt_false nan y p q e = absurd p
lt_false (inf s) y p q e = absurd p
lt_false (fin true m d) y p q e = absurd p
lt_false (fin false m d) nan p q e = absurd q
lt_false (fin false m d) (inf t) p q e = absurd q
lt_false (fin false m d) (fin true n f) p q e = absurd q
lt_false (fin false m d) (fin false n f) p q e = ltb-false (n * up f * down d) (m * up d * down f) e

pub not_lt_le : (x y : Float) → T (positive x) → T (positive y) → lt y x ≡ false → le x y ≡ true
not_lt_le x y p q e = is_true (cross→le x y p q (lt_false x y p q e))

le_same : (x : Float) → T (positive x) → le x x ≡ true
le_same x p = is_true (cross→le x x p p (omega arith))

-- ---- within the bounds
pub least_positive : T (positive least)
unfolding of_bits
least_positive = tt

pub most_positive : T (positive most)
unfolding of_bits
most_positive = tt

pub within_positive : (x : Float) → within x ≡ true → T (positive x)
unfolding within
within_positive x e =
    let l = both_left (le least x) (le x most) e in
    let h = both_right (le least x) (le x most) e in
    between least x most least_positive most_positive (holds l) (holds h)

-- ---- held
pub held_inside : (x low high : Float) → le low x ≡ true → le x high ≡ true → held x low high ≡ x
unfolding held
held_inside x low high l h =
    pick_no (lt x low) low (pick (lt high x) high x) (le_not_lt low x l) ∙ pick_no (lt high x) high x (le_not_lt x high h)

record HeldFits (x low high : Float) : Type 0 where
  fits : within x ≡ true
  floor : within low ≡ true
  ceiling : within high ≡ true
  ordered : lt high low ≡ false

held_fits : (x low high : Float) → allowed (Factor.Held x low high) ≡ true → HeldFits x low high
unfolding allowed
held_fits x low high e =
    let abc : Bool = within x && within low && within high in
    let h = both_left abc (not (lt high low)) e in
    let g = both_left (within x && within low) (within high) h in
    record {
      fits = both_left (within x) (within low) g;
      floor = both_right (within x) (within low) g;
      ceiling = both_right (within x && within low) (within high) h;
      ordered = not-true (lt high low) (both_right abc (not (lt high low)) e);
    }

held_cases : (P : Float → Type 0) (x low high : Float) → P low → P high → (lt x low ≡ false → lt high x ≡ false → P x)
    → P (held x low high)
unfolding held
held_cases P x low high l h i =
    elim (true_or_false (lt x low)) [
      | inl a ↦ subst P (sym (pick_yes (lt x low) low (pick (lt high x) high x) a)) l
      | inr a ↦
          subst P (sym (pick_no (lt x low) low (pick (lt high x) high x) a))
          (elim (true_or_false (lt high x)) [
            | inl b ↦ subst P (sym (pick_yes (lt high x) high x b)) h
            | inr b ↦ subst P (sym (pick_no (lt high x) high x b)) (i a b)
          ])
    ]

pub held_between : (x low high : Float) → allowed (Factor.Held x low high) ≡ true
    → (le low (held x low high) ≡ true) × (le (held x low high) high ≡ true)
held_between x low high e =
    let f = held_fits x low high e in
    let p = within_positive x f.fits in
    let l = within_positive low f.floor in
    let h = within_positive high f.ceiling in
    let o = not_lt_le low high l h f.ordered in
    held_cases (λ y. (le low y ≡ true) × (le y high ≡ true)) x low high (le_same low l, o) (o, le_same high h)
    (λ a b. (not_lt_le low x l p a, not_lt_le x high p h b))

pub held_within : (x low high : Float) → allowed (Factor.Held x low high) ≡ true → within (held x low high) ≡ true
held_within x low high e =
    let f = held_fits x low high e in
    held_cases (λ y. within y ≡ true) x low high f.floor f.ceiling (λ a b. f.fits)
