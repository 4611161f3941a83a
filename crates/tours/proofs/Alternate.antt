-- Two borders of a set that alternate in a tour: crossing the set then makes few cycles.
--
-- Alternates m f s a b == on the walk of f from s, borders a and b come in the order a, b, a, b within the first 2m steps
-- alternate_apart  == the two borders are different
-- alternate_severs == once a is crossed, b's two ends are in different cycles
-- alternate_one    == once both are crossed, there is one cycle again
-- alternate_few    == there are fewer cycles, once all of S are crossed, than S has borders
-- count_two        == a set with two members counts two at least
-- Assumes nothing.
use mathlib.Core.Path.{◌≡◌, refl, sym, ap, ◌∙◌}
use mathlib.Core.Logic.{◌≢◌, inl, inr}
use mathlib.Core.Bool.{Bool, true, false, ◌&&◌, ◌||◌}
use Prim.Native.Nat.{ℕ, ◌+◌, ◌*◌, ◌≤◌, ◌<◌}
use native.Mathlib.Omega.{arith}
use lib.Dec.{eqb}
use borrow.Author.Tests.{eqb-true, eq-eqb, ne_eqb}
use Rattle.count.specs.Below.{count}
use Rattle.count.proofs.Logic.{same_or_not, lt_or_ge, both, one_of, either_left, either_right}
use Rattle.count.proofs.Below.{count_before, count_split}
use Rattle.orbits.specs.Cycles.{iter, Permutes, SameCycle, cycles}
use Rattle.orbits.proofs.Iter.{iter_next, iter_below}
use Rattle.orbits.proofs.Same.{same_cycle_induct}
use Rattle.orbits.proofs.Classes.{one_cycle, cycles_same}
use Rattle.orbits.proofs.Exchange.{Exchanged, exchange_joins, exchange_parts}
use Rattle.drawing.specs.Drawing.{border, other, over}
use Rattle.drawing.proofs.Ends.{other_other, other_below, border_below, over_yes, over_no}
use Rattle.tours.proofs.Exchange.{ends_of_border, over_permutes, exchange_at, over_moves}
use Rattle.orbits.proofs.Steps.{steps_once}

pub record Alternates (m : ℕ) (f : ℕ → ℕ) (s a b : ℕ) : Type 0 where
  pub p : ℕ
  pub q : ℕ
  pub r : ℕ
  pub t : ℕ
  pub p_q : p < q
  pub q_r : q < r
  pub r_t : r < t
  pub t_end : t < 2 * m
  pub at_p : border (iter f p s) ≡ a
  pub at_q : border (iter f q s) ≡ b
  pub at_r : border (iter f r s) ≡ a
  pub at_t : border (iter f t s) ≡ b

-- the sets of one border and of two
abbrev only : ℕ → ℕ → Bool
only a e = eqb e a

abbrev pair : ℕ → ℕ → ℕ → Bool
pair a b e = eqb e b || eqb e a

-- z is met on the walk after step p and by step r
record Between (f : ℕ → ℕ) (s p r z : ℕ) : Type 0 where
  at : ℕ
  after : p < at
  upto : at ≤ r
  here : iter f at s ≡ z

pub count_two : (P : ℕ → Bool) (a b n : ℕ) → a ≢ b → a < n → b < n → P a ≡ true → P b ≡ true → 2 ≤ count P n
count_two P a b n d la lb ha hb =
    elim (lt_or_ge a b) [
      | inl h ↦ omega (arith, count_before P a b h ha, count_before P b n lb hb)
      | inr g ↦ omega (arith, count_before P b a (omega arith) hb, count_before P a n la ha)
    ]

module _ (m : ℕ) (f : ℕ → ℕ) (perm : Permutes (2 * m) f) (one : cycles (2 * m) f ≡ 1) (s : ℕ) (l : s < 2 * m) where
  -- no three places are of one border
  at_most_two : (i j k : ℕ) → i < j → j < k → k < 2 * m → border (iter f i s) ≡ border (iter f j s) → border (iter f i s) ≡ border (iter f k s) → ⊥
  at_most_two i j k h g b e d =
      elim (ends_of_border (iter f i s) (iter f j s) e) [
        | inl q ↦ omega (arith, steps_once perm one s l j i (omega arith) (omega arith) q)
        | inr q ↦
            elim (ends_of_border (iter f i s) (iter f k s) d) [
              | inl w ↦ omega (arith, steps_once perm one s l k i (omega arith) (omega arith) w)
              | inr w ↦ omega (arith, steps_once perm one s l j k (omega arith) (omega arith) (q ∙ sym w))
            ]
      ]

  -- of two places of one border, the later has the other end
  later_other : (i j : ℕ) → i < j → j < 2 * m → border (iter f i s) ≡ border (iter f j s) → iter f j s ≡ other (iter f i s)
  later_other i j h b e =
      elim (ends_of_border (iter f i s) (iter f j s) e) [
        | inl q ↦ absurd (omega (arith, steps_once perm one s l j i b (omega arith) q))
        | inr q ↦ q
      ]

  module _ {a b : ℕ} (A : Alternates m f s a b) where
    pub alternate_apart : a ≢ b
    alternate_apart e =
        at_most_two A.p A.q A.r A.p_q A.q_r (omega arith)
        (A.at_p ∙ e ∙ sym A.at_q) (A.at_p ∙ sym A.at_r)

    -- Crossing a closes the walk from after a's first place to its second.
    between_kept : (z : ℕ) → z < 2 * m → Between f s A.p A.r z → Between f s A.p A.r (f (over (only a) z))
    between_kept z bz w =
        elim (same_or_not w.at A.r) [
          | inl e ↦
              let q : z ≡ iter f A.r s = sym w.here ∙ ap (λ k. iter f k s) e in
              let is_in : only a (border z) ≡ true = eq-eqb (border z) a (ap border q ∙ A.at_r) in
              let o : other z ≡ iter f A.p s
              = ap other (q ∙ later_other A.p A.r (omega arith) (omega arith) (A.at_p ∙ sym A.at_r)) ∙ other_other (iter f A.p s) in
              record {
                at = A.p + 1;
                after = omega arith;
                upto = omega arith;
                here = iter_next f A.p s ∙ ap f (sym (over_yes (only a) z is_in ∙ o));
              }
          | inr d ↦
              let out : only a (border z) ≡ false
              = ne_eqb (border z) a (λ e. at_most_two A.p w.at A.r w.after (omega (arith, w.upto)) (omega arith)
              (A.at_p ∙ sym e ∙ ap border (sym w.here)) (A.at_p ∙ sym A.at_r)) in
              record {
                at = w.at + 1;
                after = omega (arith, w.after);
                upto = omega (arith, w.upto);
                here = iter_next f w.at s ∙ ap f (w.here ∙ sym (over_no (only a) z out));
              }
        ]

    pub alternate_severs : SameCycle (λ h. f (over (only a) h)) (iter f A.q s) (iter f A.t s) → ⊥
    alternate_severs c =
        let start : Between f s A.p A.r (iter f A.q s) = record { at = A.q; after = A.p_q; upto = omega arith; here = refl } in
        let w : Between f s A.p A.r (iter f A.t s)
        = same_cycle_induct (over_permutes m f (only a) perm) (Between f s A.p A.r) (iter f A.q s) (iter f A.t s)
        between_kept (iter_below perm A.q s l) start c in
        omega (arith, w.upto, A.r_t, steps_once perm one s l w.at A.t (omega (arith, w.upto)) A.t_end w.here)

    -- crossing a alone parts the cycle in two
    only_two : cycles (2 * m) (λ h. f (over (only a) h)) ≡ 2
    only_two =
        let none : ℕ → Bool = λ e. false in
        let x : ℕ = iter f A.p s in
        let bx : x < 2 * m = iter_below perm A.p s l in
        let pn : Permutes (2 * m) (λ h. f (over none h)) = over_permutes m f none perm in
        let on : cycles (2 * m) (λ h. f (over none h)) ≡ 1 = cycles_same pn (λ h b. ap f (over_no none h refl)) ∙ one in
        let E : Exchanged (2 * m) (λ h. f (over none h)) (λ h. f (over (only a) h)) x (other x)
        = exchange_at m f none (only a) x bx refl (eq-eqb (border x) a A.at_p)
        (λ e b d. sym (ne_eqb e a (λ q. d (q ∙ sym A.at_p)))) in
        omega (arith, on, (exchange_parts pn E (one_cycle pn on x (other x) bx (other_below m x bx))).more)

    pub alternate_one : cycles (2 * m) (λ h. f (over (pair a b) h)) ≡ 1
    alternate_one =
        let y : ℕ = iter f A.q s in
        let o : iter f A.t s ≡ other y = later_other A.q A.t (omega arith) A.t_end (A.at_q ∙ sym A.at_t) in
        let E : Exchanged (2 * m) (λ h. f (over (only a) h)) (λ h. f (over (pair a b) h)) y (other y)
        = exchange_at m f (only a) (pair a b) y (iter_below perm A.q s l)
        (ne_eqb (border y) a (λ e. alternate_apart (sym e ∙ A.at_q)))
        (either_left (eqb (border y) b) (eqb (border y) a) (eq-eqb (border y) b A.at_q))
        (λ e k d. sym (ap (λ t. t || eqb e a) (ne_eqb e b (λ q. d (q ∙ sym A.at_q))))) in
        omega (arith, only_two, (exchange_joins (over_permutes m f (only a) perm) E (λ c. alternate_severs (rw o c))).less)

    pub alternate_few : (S : ℕ → Bool) → S a ≡ true → S b ≡ true → cycles (2 * m) (λ h. f (over S h)) + 1 ≤ count S m
    alternate_few S sa sb =
        let la : a < m = rw A.at_p at (border_below m (iter f A.p s) (iter_below perm A.p s l)) in
        let lb : b < m = rw A.at_q at (border_below m (iter f A.q s) (iter_below perm A.q s l)) in
        let within : (e : ℕ) → e < m → pair a b e ≡ true → S e ≡ true = λ e k t.
        (elim (one_of (eqb e b) (eqb e a) t) [
          | inl h ↦ ap S (eqb-true e b h) ∙ sb
          | inr h ↦ ap S (eqb-true e a h) ∙ sa
        ]) in
        omega (
          arith,
          alternate_one,
          over_moves m f perm (pair a b) S within,
          count_split S (pair a b) m,
          count_two (λ e. S e && pair a b e) a b m alternate_apart la lb
              (both (S a) (pair a b a) sa (either_right (eqb a b) (eqb a a) (eq-eqb a a refl)))
              (both (S b) (pair a b b) sb (either_left (eqb b b) (eqb b a) (eq-eqb b b refl))),
        )
