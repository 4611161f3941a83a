-- To exchange the values of a permutation at two numbers: what becomes of the cycles.
--
-- Exchanged n f g x y == below n, g is f with the values at x and y exchanged
-- exchange_sym, exchange_turn == so is f of g; and so it is at y and x
-- exchange_permutes == g permutes
-- exchange_meets    == x and y in different cycles of f are in one of g
-- exchange_keeps    == then numbers in one cycle of f are in one of g
-- exchange_severs   == x and y in one cycle of f are not in one of g
-- Touched f x y u   == u is in the cycle of x or in that of y
-- exchange_new      == numbers in one cycle of g are in one of f, or both are touched
-- Assumes nothing.
use mathlib.Core.Path.{◌≡◌, refl, sym, ◌∙◌, ap}
use mathlib.Core.Logic.{◌⊎◌, inl, inr, ◌≢◌}
use mathlib.Core.Bool.{Bool}
use Prim.Native.Nat.{ℕ, ◌+◌, ◌-◌, ◌<◌, ◌≤◌}
use native.Mathlib.Omega.{arith}
use lib.Dec.{eqb}
use borrow.Author.Tests.{eqb-true, eqb-false, eq-eqb}
use Rattle.count.specs.Below.{find}
use Rattle.count.proofs.Logic.{same_or_not}
use Rattle.count.proofs.Below.{find_has, find_not, find_at_most}
use Rattle.orbits.specs.Cycles.{iter, Permutes, SameCycle}
use Rattle.orbits.proofs.Iter.{iter_one, iter_next, iter_add, iter_zero}
use Rattle.orbits.proofs.Same.{same_cycle_refl, same_cycle_is, same_cycle_step, same_cycle_trans, same_cycle_sym, same_cycle_below}
use Rattle.orbits.proofs.Same.{same_cycle_back, same_cycle_until, same_cycle_induct, same_cycle_into, same_cycle_bounded}

pub record Exchanged (n : ℕ) (f g : ℕ → ℕ) (x y : ℕ) : Type 0 where
  pub x_below : x < n
  pub y_below : y < n
  pub apart : x ≢ y
  pub at_x : g x ≡ f y
  pub at_y : g y ≡ f x
  pub off : (z : ℕ) → z < n → z ≢ x → z ≢ y → g z ≡ f z

pub exchange_sym : {n : ℕ} {f g : ℕ → ℕ} {x y : ℕ} → Exchanged n f g x y → Exchanged n g f x y
exchange_sym E =
    record {
      x_below = E.x_below;
      y_below = E.y_below;
      apart = E.apart;
      at_x = sym E.at_y;
      at_y = sym E.at_x;
      off = λ z l d e. sym (E.off z l d e);
    }

pub exchange_turn : {n : ℕ} {f g : ℕ → ℕ} {x y : ℕ} → Exchanged n f g x y → Exchanged n f g y x
exchange_turn E =
    record {
      x_below = E.y_below;
      y_below = E.x_below;
      apart = λ e. E.apart (sym e);
      at_x = E.at_y;
      at_y = E.at_x;
      off = λ z l d e. E.off z l e d;
    }

-- where the value of g at z comes from
record Source (n : ℕ) (f g : ℕ → ℕ) (x y z : ℕ) : Type 0 where
  from : ℕ
  from_below : from < n
  value : g z ≡ f from
  is : (((z ≡ x) × (from ≡ y)) ⊎ ((z ≡ y) × (from ≡ x))) ⊎ ((z ≢ x) × (z ≢ y) × (from ≡ z))

source : {n : ℕ} {f g : ℕ → ℕ} {x y : ℕ} → Exchanged n f g x y → (z : ℕ) → z < n → Source n f g x y z
source {n} {f} {g} {x} {y} E z l =
    elim (same_or_not z x) [
      | inl e ↦ record { from = y; from_below = E.y_below; value = ap g e ∙ E.at_x; is = inl (inl (e, refl)) }
      | inr d ↦
          elim (same_or_not z y) [
            | inl e ↦ record { from = x; from_below = E.x_below; value = ap g e ∙ E.at_y; is = inl (inr (e, refl)) }
            | inr c ↦ record { from = z; from_below = l; value = E.off z l d c; is = inr (d, c, refl) }
          ]
    ]

source_apart : {n : ℕ} {f g : ℕ → ℕ} {x y z w : ℕ} → x ≢ y → (s : Source n f g x y z) (t : Source n f g x y w) → s.from ≡ t.from → z ≡ w
source_apart {n} {f} {g} {x} {y} {z} {w} d s t e = go s.is t.is
  where
    go : (((z ≡ x) × (s.from ≡ y)) ⊎ ((z ≡ y) × (s.from ≡ x))) ⊎ ((z ≢ x) × (z ≢ y) × (s.from ≡ z))
        → (((w ≡ x) × (t.from ≡ y)) ⊎ ((w ≡ y) × (t.from ≡ x))) ⊎ ((w ≢ x) × (w ≢ y) × (t.from ≡ w)) → z ≡ w
    go (inl (inl a)) (inl (inl b)) = omega arith
    go (inl (inl a)) (inl (inr b)) = omega arith
    go (inl (inl a)) (inr b) = omega arith
    go (inl (inr a)) (inl (inl b)) = omega arith
    go (inl (inr a)) (inl (inr b)) = omega arith
    go (inl (inr a)) (inr b) = omega arith
    go (inr a) (inl (inl b)) = omega arith
    go (inr a) (inl (inr b)) = omega arith
    go (inr a) (inr b) = omega arith

-- a steps of f from x meet y, and fewer (but 0) do not
record Meets (f : ℕ → ℕ) (x y a : ℕ) : Type 0 where
  pos : 0 < a
  meets : iter f a x ≡ y
  before : (i : ℕ) → 0 < i → i < a → iter f i x ≢ y

-- z is met by 1 to a steps of f from x
record OnWalk (f : ℕ → ℕ) (x a z : ℕ) : Type 0 where
  at : ℕ
  pos : 0 < at
  upto : at ≤ a
  here : iter f at x ≡ z

module _ {n : ℕ} {f g : ℕ → ℕ} {x y : ℕ} (p : Permutes n f) (E : Exchanged n f g x y) where
  pub exchange_permutes : Permutes n g
  exchange_permutes =
      record {
        below = λ z l. let s = source E z l in rw s.value (p.below s.from s.from_below);
        injective = λ z w l k e.
            let s = source E z l in
            let t = source E w k in
            source_apart E.apart s t (p.injective s.from t.from s.from_below t.from_below (sym s.value ∙ e ∙ t.value));
      }

  pub exchange_meets : (SameCycle f x y → ⊥) → SameCycle g x y
  exchange_meets no_way =
      let start : SameCycle g x (f y) = rw E.at_x at (same_cycle_step g x) in
      same_cycle_until f (λ z. SameCycle g x z) (f y) y
      (λ z s d t.
      let s' : SameCycle f y z = same_cycle_trans (same_cycle_step f y) s in
      let l : z < n = same_cycle_below p s' E.y_below in
      let e : g z ≡ f z = E.off z l (λ q. no_way (same_cycle_sym p E.y_below (rw q at s'))) d in
      same_cycle_trans t (rw e at (same_cycle_step g z)))
      start (same_cycle_back p y E.y_below)

  pub exchange_keeps : (SameCycle f x y → ⊥) → {u v : ℕ} → u < n → SameCycle f u v → SameCycle g u v
  exchange_keeps no_way =
      let q : Permutes n g = exchange_permutes in
      let there : SameCycle g x y = exchange_meets no_way in
      let back : SameCycle g y x = same_cycle_sym q E.x_below there in
      let along : (z : ℕ) → z < n → SameCycle g z (f z) = λ z l.
      elim (same_or_not z x) [
        | inl e ↦ rw (e, ← E.at_y) (same_cycle_trans there (same_cycle_step g y))
        | inr d ↦
            elim (same_or_not z y) [
              | inl e ↦ rw (e, ← E.at_x) (same_cycle_trans back (same_cycle_step g x))
              | inr c ↦ rw (← E.off z l d c) (same_cycle_step g z)
            ]
      ] in
      λ l s. same_cycle_into p along l s

  first_meeting : SameCycle f x y → (a : ℕ) × Meets f x y a
  first_meeting s =
      let hits : ℕ → Bool = λ i. eqb (iter f (i + 1) x) y in
      let r = same_cycle_bounded p E.x_below s in
      let pos : r.0 ≢ 0 = λ e. E.apart (sym (iter_zero f x) ∙ rw e at r.2) in
      let k : r.0 - 1 + 1 ≡ r.0 = omega arith in
      let hit : iter f (r.0 - 1 + 1) x ≡ y = rw k r.2 in
      let b : find hits n < n = omega (arith, find_at_most hits n (r.0 - 1) (omega (arith, r.1)) (eq-eqb (iter f (r.0 - 1 + 1) x) y hit)) in (
        find hits n + 1,
        record {
          pos = omega arith;
          meets = eqb-true (iter f (find hits n + 1) x) y (find_has hits n b);
          before = λ i h l. let e : i - 1 + 1 ≡ i = omega arith in rw e at (eqb-false (iter f (i - 1 + 1) x) y (find_not hits n (i - 1) (omega arith)));
        },
      )

  -- the walk does not come back to x before it meets y
  not_back : (a : ℕ) → Meets f x y a → (i : ℕ) → 0 < i → i ≤ a → iter f i x ≢ x
  not_back a m i h l e =
      let k : a - i + i ≡ a = omega arith in
      let rest : iter f (a - i) x ≡ y = ap (iter f (a - i)) (sym e) ∙ sym (iter_add f (a - i) i x) ∙ rw k m.meets in
      elim (same_or_not i a) [
        | inl q ↦ E.apart (sym e ∙ rw (← q) at m.meets)
        | inr d ↦ m.before (a - i) (omega arith) (omega arith) rest
      ]

  -- g keeps to the numbers of the walk
  walk_kept : (a : ℕ) → Meets f x y a → (z : ℕ) → z < n → OnWalk f x a z → OnWalk f x a (g z)
  walk_kept a m z l w =
      elim (same_or_not w.at a) [
        | inl e ↦
            let q : z ≡ y = sym w.here ∙ rw e m.meets in
            record { at = 1; pos = omega arith; upto = m.pos; here = iter_one f x ∙ sym E.at_y ∙ ap g (sym q) }
        | inr d ↦
            let not_y : z ≢ y = λ e. m.before w.at w.pos (omega arith) (w.here ∙ e) in
            let not_x : z ≢ x = λ e. not_back a m w.at w.pos w.upto (w.here ∙ e) in
            record { at = w.at + 1; pos = omega arith; upto = omega arith; here = iter_next f w.at x ∙ ap f w.here ∙ sym (E.off z l not_x not_y) }
      ]

  pub exchange_severs : SameCycle f x y → SameCycle g x y → ⊥
  exchange_severs s t =
      let q : Permutes n g = exchange_permutes in
      let r = first_meeting s in
      let start : OnWalk f x r.0 y = record { at = r.0; pos = r.1.pos; upto = omega arith; here = r.1.meets } in
      let end : OnWalk f x r.0 x = same_cycle_induct q (OnWalk f x r.0) y x (walk_kept r.0 r.1) E.y_below start (same_cycle_sym q E.x_below t) in
      not_back r.0 r.1 end.at end.pos end.upto end.here

-- u is in the cycle of x or in that of y
abbrev pub Touched : (ℕ → ℕ) → ℕ → ℕ → ℕ → Type 0
Touched f x y u = SameCycle f x u ⊎ SameCycle f y u

touched_step : {f : ℕ → ℕ} {x y : ℕ} (u : ℕ) → Touched f x y u → Touched f x y (f u)
touched_step {f} u (inl s) = inl (same_cycle_trans s (same_cycle_step f u))
touched_step {f} u (inr s) = inr (same_cycle_trans s (same_cycle_step f u))

module _ {n : ℕ} {f g : ℕ → ℕ} {x y : ℕ} (p : Permutes n f) (E : Exchanged n f g x y) where
  -- where u's cycle has touched x or y, so has u
  reaches : {u z : ℕ} → u < n → Touched f x y z → SameCycle f u z ⊎ (Touched f x y u × Touched f x y z) → Touched f x y u
  reaches l (inl t) (inl s) = inl (same_cycle_trans t (same_cycle_sym p l s))
  reaches l (inr t) (inl s) = inr (same_cycle_trans t (same_cycle_sym p l s))
  reaches l t (inr w) = w.0

  pub exchange_new : {u v : ℕ} → u < n → SameCycle g u v → SameCycle f u v ⊎ (Touched f x y u × Touched f x y v)
  exchange_new {u} {v} l =
      same_cycle_induct (exchange_permutes p E) (λ z. SameCycle f u z ⊎ (Touched f x y u × Touched f x y z)) u v
      (λ z k w.
      elim (same_or_not z x) [
        | inl e ↦ inr (reaches l (inl (same_cycle_is f x z (sym e))) w, rw (e, E.at_x) (inr (same_cycle_step f y)))
        | inr d ↦
            elim (same_or_not z y) [
              | inl e ↦ inr (reaches l (inr (same_cycle_is f y z (sym e))) w, rw (e, E.at_y) (inl (same_cycle_step f x)))
              | inr c ↦
                  rw (E.off z k d c) (elim w [
                    | inl s ↦ inl (same_cycle_trans s (same_cycle_step f z))
                    | inr t ↦ inr (t.0, touched_step z t.1)
                  ])
            ]
      ])
      l (inl (same_cycle_refl f u))
