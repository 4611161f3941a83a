-- Once round a point (an area): where a step goes round, and that as many steps as there are positions lead back.
--
-- last_falls    == a step leads to no higher position exactly from the last one
-- first_rises   == a step back leads to no lower position exactly from the first one
-- first_step    == a step arrives at the first position exactly from the last one
-- met f t k p   == how many of the k positions p, f p, f (f p), .. have the test t
-- Circle P f t c d == f leads from one of the d numbers with P to the next, and from the last, which alone has t, to the first
-- circle_closes == d times f leads back, and t is met once
-- step_circle, back_circle == a step and a step back are such walks
-- step_closes, back_closes == as many of them as the point (area) has positions lead back, and one of them goes round
-- Assumes nothing.
use mathlib.Core.Path.{◌≡◌, refl, sym, ap, ◌∙◌, subst}
use mathlib.Core.Logic.{inl, inr}
use mathlib.Core.Bool.{Bool, true, false}
use Prim.Native.Nat.{ℕ, zero, suc, ◌+◌, ◌-◌, ◌<◌, ◌≤◌}
use native.Mathlib.Numerals.{add-one}
use native.Mathlib.Omega.{arith}
use lib.Dec.{eqb, leb}
use borrow.Author.Tests.{eq-eqb, leb-true, le-leb}
use Rattle.count.specs.Below.{tick, count, nth}
use Rattle.count.proofs.Logic.{same_or_not, lt_or_ge, true_or_false, true_not_false, bool_same}
use Rattle.count.proofs.Below.{count_before, nth_of_count}
use Rattle.orbits.specs.Cycles.{iter}
use Rattle.orbits.proofs.Iter.{iter_commute}
use Rattle.words.specs.Brackets.{Bracket, inner, Balanced, step, back, number, is_first, is_last, size}
use Rattle.words.proofs.Stack.{inner_le}
use Rattle.words.proofs.Step.{step_below, back_below, step_back, inner_step, inner_back, back_lower}
use Rattle.words.proofs.Numbers.{inner_number, first_is, last_step}
use Rattle.words.proofs.Order.{walk_returns, walk_more, walk_last, none_before}

module _ (b : ℕ → Bracket) (n : ℕ) (bal : Balanced b n) (p : ℕ) (l : p < n) where
  pub last_falls : is_last b n p ≡ leb (step b n p) p
  last_falls =
      bool_same (is_last b n p) (leb (step b n p) p)
      (λ t. le-leb (step b n p) p (omega (arith, (last_step b n bal p l).0 t, inner_step b n bal p l, inner_le b p)))
      (λ t.
      let e : step b n p ≡ inner b p = (walk_returns b n bal p l (leb-true (step b n p) p t)).0 in
      (last_step b n bal p l).1 (inner_step b n bal p l ∙ sym e))

  pub first_rises : is_first b p ≡ leb p (back b n p)
  first_rises =
      bool_same (is_first b p) (leb p (back b n p))
      (λ t. le-leb p (back b n p) (omega (arith, (first_is b p).0 t, inner_back b n bal p l, inner_le b (back b n p))))
      (λ t.
      elim (same_or_not (inner b p) p) [
        | inl e ↦ (first_is b p).1 e
        | inr d ↦ absurd (omega (arith, leb-true p (back b n p) t, back_lower b n bal p l d))
      ])

  pub first_step : is_first b (step b n p) ≡ is_last b n p
  first_step =
      let last = last_step b n bal p l in
      bool_same (is_first b (step b n p)) (is_last b n p)
      (λ t. last.1 ((first_is b (step b n p)).0 t)) (λ t. (first_is b (step b n p)).1 (last.0 t))

-- ---- walks round a circle
unfoldable pub met : (ℕ → ℕ) → (ℕ → Bool) → ℕ → ℕ → ℕ
met f t zero p = 0
met f t (suc k) p = tick (t p) (met f t k (f p))

tick_no : (s : Bool) (x : ℕ) → s ≡ false → tick s x ≡ x
tick_no true x e = absurd (true_not_false true refl e)
tick_no false x e = refl

tick_yes : (s : Bool) (x : ℕ) → s ≡ true → tick s x ≡ x + 1
tick_yes true x e = sym (add-one x)
tick_yes false x e = absurd (true_not_false false e refl)

-- c is how many come before p on the way
record Circle (P : ℕ → Type 0) (f : ℕ → ℕ) (t : ℕ → Bool) (c : ℕ → ℕ) (d : ℕ) : Type 0 where
  stays : (p : ℕ) → P p → P (f p)
  below : (p : ℕ) → P p → c p < d
  goes : (p : ℕ) → P p → t p ≡ false → c (f p) ≡ c p + 1
  rounds : (p : ℕ) → P p → t p ≡ true → (c p + 1 ≡ d) × (c (f p) ≡ 0)
  one : (p q : ℕ) → P p → P q → c p ≡ c q → p ≡ q

module _ (P : ℕ → Type 0) (f : ℕ → ℕ) (t : ℕ → Bool) (c : ℕ → ℕ) (d : ℕ) (C : Circle P f t c d) where
  -- k times f leads from p to q, once round or not yet
  record Went (k p q : ℕ) : Type 0 where
    on : P q
    short : c p + k < d → (met f t k p ≡ 0) × (c q ≡ c p + k)
    over : d ≤ c p + k → k ≤ d → (met f t k p ≡ 1) × (c q + d ≡ c p + k)

  went : (k p : ℕ) → P p → Went k p (iter f k p)
  unfolding iter met
  went zero p h =
      record {
        on = h;
        short = λ l. (refl, omega arith);
        over = λ g l. absurd (omega (arith, C.below p h));
      }
  went (suc k) p h =
      let q : ℕ = iter f k (f p) in
      let W : Went k (f p) q = went k (f p) (C.stays p h) in
      subst (Went (suc k) p) (iter_commute f k p)
      (elim (true_or_false (t p)) [
        | inl y ↦
            let r = C.rounds p h y in
            let e = tick_yes (t p) (met f t k (f p)) y in
            record {
              on = W.on;
              short = λ l. absurd (omega (arith, r.0));
              over = λ g l.
                  let s = W.short (omega (arith, r.1)) in
                  (omega (arith, e, s.0), omega (arith, s.1, r.0, r.1));
            }
        | inr z ↦
            let r = C.goes p h z in
            let e = tick_no (t p) (met f t k (f p)) z in
            record {
              on = W.on;
              short = λ l. let s = W.short (omega (arith, r)) in (omega (arith, e, s.0), omega (arith, s.1, r));
              over = λ g l. let s = W.over (omega (arith, r)) (omega arith) in (omega (arith, e, s.0), omega (arith, s.1, r));
            }
      ])

  circle_closes : (p : ℕ) → P p → (iter f d p ≡ p) × (met f t d p ≡ 1)
  circle_closes p h =
      let W : Went d p (iter f d p) = went d p h in
      let o = W.over (omega arith) (omega arith) in
      (C.one (iter f d p) p W.on h (omega (arith, o.1)), o.0)

module _ (b : ℕ → Bracket) (n : ℕ) (bal : Balanced b n) (k : ℕ) where
  -- the positions of number k
  abbrev On : ℕ → Type 0
  On p = (p < n) × (number b p ≡ k)

  abbrev before : ℕ → ℕ
  before p = count (λ q. eqb (number b q) k) p

  before_size : (p : ℕ) → On p → before p < size b n k
  unfolding size
  before_size p h = count_before (λ q. eqb (number b q) k) p n h.0 (eq-eqb (number b p) k h.1)

  before_one : (p q : ℕ) → On p → On q → before p ≡ before q → p ≡ q
  before_one p q h g e =
      let on : ℕ → Bool = λ x. eqb (number b x) k in
      sym (nth_of_count on p n h.0 (eq-eqb (number b p) k h.1)) ∙ ap (λ x. nth on x n) e
      ∙ nth_of_count on q n g.0 (eq-eqb (number b q) k g.1)

  goes_on : (p : ℕ) → On p → is_last b n p ≡ false → before (step b n p) ≡ before p + 1
  goes_on p h z =
      elim (lt_or_ge p (step b n p)) [
        | inl r ↦ walk_more b n bal k p h.0 h.1 r
        | inr r ↦ absurd (true_not_false (is_last b n p) (last_falls b n bal p h.0 ∙ le-leb (step b n p) p r) z)
      ]

  goes_round : (p : ℕ) → On p → is_last b n p ≡ true → (before p + 1 ≡ size b n k) × (before (step b n p) ≡ 0)
  goes_round p h y =
      let q : ℕ = step b n p in
      let i : inner b q ≡ q = (last_step b n bal p h.0).0 y in
      let falls : q ≤ p = leb-true q p (sym (last_falls b n bal p h.0) ∙ y) in
      let same : number b q ≡ k = inner_number b q p (inner_step b n bal p h.0) ∙ h.1 in
      (sym (walk_last b n bal k p h.0 h.1 falls), none_before b n bal k q (step_below b n bal p h.0) i same)

  step_circle : Circle On (step b n) (is_last b n) before (size b n k)
  step_circle =
      record {
        stays = λ p h. (step_below b n bal p h.0, inner_number b (step b n p) p (inner_step b n bal p h.0) ∙ h.1);
        below = before_size;
        goes = goes_on;
        rounds = goes_round;
        one = before_one;
      }

  back_on : (p : ℕ) → On p → On (back b n p)
  back_on p h = (back_below b n bal p h.0, inner_number b (back b n p) p (inner_back b n bal p h.0) ∙ h.1)

  -- p is first where the position before it in the walk is last
  back_last : (p : ℕ) → On p → is_last b n (back b n p) ≡ is_first b p
  back_last p h = sym (first_step b n bal (back b n p) (back_on p h).0) ∙ ap (is_first b) (step_back b n bal p h.0)

  -- how many come after p, and so before it on the way back
  abbrev after : ℕ → ℕ
  after p = size b n k - 1 - before p

  back_circle : Circle On (back b n) (is_first b) after (size b n k)
  back_circle =
      record {
        stays = back_on;
        below = λ p h. omega (arith, before_size p h);
        goes = λ p h z.
            let q : ℕ = back b n p in
            let e = goes_on q (back_on p h) (back_last p h ∙ z) in
            let s = ap before (step_back b n bal p h.0) in
            omega (arith, before_size p h, before_size q (back_on p h));
        rounds = λ p h y.
            let q : ℕ = back b n p in
            let e = goes_round q (back_on p h) (back_last p h ∙ y) in
            let s = ap before (step_back b n bal p h.0) in
            (omega (arith, before_size p h, e.1), omega (arith, e.0));
        one = λ p q h g e. before_one p q h g (omega (arith, before_size p h, before_size q g));
      }

  pub step_closes : (p : ℕ) → p < n → number b p ≡ k → (iter (step b n) (size b n k) p ≡ p) × (met (step b n) (is_last b n) (size b n k) p ≡ 1)
  step_closes p l e = circle_closes On (step b n) (is_last b n) before (size b n k) step_circle p (l, e)

  pub back_closes : (p : ℕ) → p < n → number b p ≡ k → (iter (back b n) (size b n k) p ≡ p) × (met (back b n) (is_first b) (size b n k) p ≡ 1)
  back_closes p l e = circle_closes On (back b n) (is_first b) after (size b n k) back_circle p (l, e)
