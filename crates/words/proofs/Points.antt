-- Points (areas) are the cycles of the step.
--
-- step_cycle     == two positions are in one cycle exactly if they have one innermost open bracket
-- number_cycle   == exactly if they have one number
-- low_inner      == the least of p's cycle is inner b p
-- leads_first    == the leaders of cycles are the first positions
-- cycles_step    == there are 1 + the openings many cycles
-- number_leads   == the number is the rank of the cycle among all, from 1, by their least positions
-- Assumes nothing.
use mathlib.Core.Path.{◌≡◌, refl, sym, ap, ◌∙◌}
use mathlib.Core.Logic.{◌↔◌, ⊎_elim}
use mathlib.Core.Bool.{false}
use Prim.Native.Nat.{ℕ, ◌+◌, ◌<◌, ◌≤◌}
use native.Mathlib.Omega.{arith}
use lib.Dec.{eqb}
use Rattle.count.specs.Below.{count}
use Rattle.count.proofs.Logic.{true_or_false}
use Rattle.count.proofs.Below.{count_zero, count_no, count_same}
use Rattle.orbits.specs.Cycles.{SameCycle, low, leads, cycles}
use Rattle.orbits.proofs.Same.{same_cycle_trans, same_cycle_sym, same_cycle_induct}
use Rattle.orbits.proofs.Low.{low_is}
use Rattle.words.specs.Brackets.{Bracket, is_opens, inner, Balanced, step, number, is_first}
use Rattle.words.proofs.Letters.{opens_true}
use Rattle.words.proofs.Stack.{inner_below, zero_or_more, inner_opens_at, inner_le, inner_inner}
use Rattle.words.proofs.Step.{step_permutes, inner_step, inner_reaches}
use Rattle.words.proofs.Numbers.{openings, openings_more, number_is, inner_number, number_inner, first_count, opening_inside}

module _ (b : ℕ → Bracket) (n : ℕ) (bal : Balanced b n) where
  cycle_inner : (p q : ℕ) → p < n → SameCycle (step b n) p q → inner b p ≡ inner b q
  cycle_inner p q l = same_cycle_induct (step_permutes b n bal) (λ z. inner b p ≡ inner b z) p q
      (λ z k e. e ∙ sym (inner_step b n bal z k)) l refl

  inner_cycle : (p q : ℕ) → p < n → q < n → inner b p ≡ inner b q → SameCycle (step b n) p q
  inner_cycle p q l k e =
      let s : SameCycle (step b n) (inner b p) q = rw e (inner_reaches b n bal q k) in
      same_cycle_trans (same_cycle_sym (step_permutes b n bal) (inner_below b n p l) (inner_reaches b n bal p l)) s

  pub step_cycle : (p q : ℕ) → p < n → q < n → SameCycle (step b n) p q ↔ (inner b p ≡ inner b q)
  step_cycle p q l k = (cycle_inner p q l, inner_cycle p q l k)

  pub number_cycle : (p q : ℕ) → p < n → q < n → SameCycle (step b n) p q ↔ (number b p ≡ number b q)
  number_cycle p q l k = (
    (λ s. inner_number b p q (cycle_inner p q l s)),
    (λ e. inner_cycle p q l k (number_inner b p q e)),
  )

  pub low_inner : (p : ℕ) → p < n → low n (step b n) p ≡ inner b p
  low_inner p l = low_is (step_permutes b n bal) p (inner b p) l
      (inner_cycle p (inner b p) l (inner_below b n p l) (sym (inner_inner b p)))
      (λ y s. let e : inner b p ≡ inner b y = cycle_inner p y l s in
      let h : inner b y ≤ y = inner_le b y in omega arith)

  pub leads_first : (p : ℕ) → p < n → leads n (step b n) p ≡ is_first b p
  unfolding leads is_first
  leads_first p l = ap (λ x. eqb x p) (low_inner p l)

  pub cycles_step : 0 < n → cycles n (step b n) ≡ 1 + openings b n
  unfolding cycles
  cycles_step z = ⊎_elim (λ e. absurd (omega arith)) (λ t. go t.0 t.1) (zero_or_more n)
    where
      -- the last letter does not open
      last : (m : ℕ) → n ≡ m + 1 → is_opens (b m) ≡ false
      last m e = ⊎_elim
          (λ o. absurd (omega (arith, opening_inside b n bal m (omega arith) (opens_true (b m) o))))
          (λ f. f)
          (true_or_false (is_opens (b m)))

      go : (m : ℕ) → n ≡ m + 1 → count (leads n (step b n)) n ≡ 1 + openings b n
      go m e =
          let c : count (is_first b) n ≡ openings b m + 1 = ap (count (is_first b)) e ∙ first_count b m in
          let d : openings b n ≡ openings b m = ap (openings b) e ∙ count_no (λ q. is_opens (b q)) m (last m e) in
          omega (arith, count_same (leads n (step b n)) (is_first b) n leads_first)

  pub number_leads : (p : ℕ) → p < n → number b p ≡ 1 + count (leads n (step b n)) (inner b p)
  number_leads p l =
      let i : inner b p < n = inner_below b n p l in
      let c : count (leads n (step b n)) (inner b p) ≡ count (is_first b) (inner b p)
      = count_same (leads n (step b n)) (is_first b) (inner b p) (λ x k. leads_first x (omega arith)) in
      let d : count (is_first b) (inner b p) ≡ openings b (inner b p) = ⊎_elim
      (λ e. rw e (count_zero (is_first b) ∙ sym (count_zero (λ q. is_opens (b q)))))
      (λ t. rw t.1 (first_count b t.0 ∙ sym (openings_more b t.0 (inner_opens_at b p t.0 t.1).0)))
      (zero_or_more (inner b p)) in
      omega (arith, number_is b p)
