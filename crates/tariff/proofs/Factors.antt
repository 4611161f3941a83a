-- The factor of an area of a map: all that is said of it.
--
-- Answered s k kinds values y == what is known where y is answered: the checks passed, and y is the factor
-- factor_answered  == all of that holds
-- area_allowed     == lists that fit say of each area what is allowed
-- worth_own, worth_held, worth_unknown == what an area is given
-- answer_near      == an answer lies between 1/128 and 128
-- factored         == document 02, 4/14, of the factor of an area
-- Assumes nothing.
use mathlib.Core.Path.{◌≡◌, refl, sym, ap, ◌∙◌, subst}
use mathlib.Core.Bool.{true}
use mathlib.Core.List.{List}
use Prim.Native.Nat.{ℕ, zero, suc, ◌≤◌, ◌<◌}
use native.Mathlib.Omega.{arith}
use lib.Dec.{ltb, leb}
use borrow.Author.Tests.{ltb-true, leb-true}
use lib.Ieee.{Float, le}
use lib.ListN.{get_or, drop}
use Rattle.count.proofs.Logic.{both_left, both_right}
use Rattle.answers.specs.Checks.{Check}
use Rattle.answers.proofs.Steps.{Passed, none_append, answered_all, answered_none}
use Rattle.answers.specs.Answer.{answer, Kind}
use Rattle.format.specs.Bytes.{size_in, word_in}
use Rattle.format.specs.Open.{open_checks, open_refusal}
use Rattle.format.specs.Calls.{cells_in, landings_in}
use Rattle.format.proofs.Passes.{opened}
use Rattle.tariff.specs.declared.factor.Factor.{Factor}
use Rattle.tariff.specs.declared.factor.Running.{Running}
use Rattle.tariff.specs.Tariff.{factor_at, held, allowed, TariffFits, sum_across, has_factor, mean, worth, rated}
use Rattle.tariff.specs.Maps.{factor_of, factor_checks, factor_in}
use Rattle.tariff.specs.Statements.{Factored}
use Rattle.tariff.proofs.Lists.{tariff_decides}
use Rattle.tariff.proofs.Order.{factor_order}
use Rattle.tariff.proofs.Held.{held_inside, held_between, held_within}
use Rattle.tariff.proofs.Means.{Near, near_within, mean_near, near_bounds}
use Rattle.tariff.proofs.Landings.{landings_areas, landings_few}
use Rattle.tariff.proofs.Unread.{factor_unread}

-- ---- what an area is given
worth_own : (x : Float) (r : Running) → worth (Factor.Own x) r ≡ x
unfolding worth
worth_own x r = refl

worth_held : (x low high : Float) (r : Running) → worth (Factor.Held x low high) r ≡ held x low high
unfolding worth
worth_held x low high r = refl

worth_unknown : (r : Running) → worth Factor.Unknown r ≡ mean r
unfolding worth
worth_unknown r = refl

worth_near : (f : Factor) (r : Running) → allowed f ≡ true → (0 < r.count → Near 1 (mean r)) → has_factor f r ≡ true
    → Near 1 (worth f r)
unfolding worth allowed has_factor
worth_near (Factor.Own x) r a m h = near_within x a
worth_near (Factor.Held x low high) r a m h = near_within (held x low high) (held_within x low high a)
worth_near Factor.Unknown r a m h = m (ltb-true 0 r.count h)

pub area_allowed : (v : ℕ) (kinds : List ℕ) (values : List Float) → TariffFits v kinds values → (j : ℕ) → 1 ≤ j → j ≤ v
    → allowed (factor_at kinds values j) ≡ true
area_allowed v kinds values F zero a b = absurd (omega arith)
area_allowed v kinds values F (suc i) a b = F.each i b

module _ (s : List ℕ) (k : ℕ) (kinds : List ℕ) (values : List Float) where
  abbrev v : ℕ
  v = cells_in (size_in s) Kind.area

  abbrev js : List ℕ
  js = landings_in (word_in s) k

  pub record Answered (y : Float) : Type 0 where
    pub opens : open_refusal s ≡ 0
    pub least : 1 ≤ k
    pub most : k ≤ v
    pub fits : TariffFits v kinds values
    pub has : has_factor (factor_at kinds values k) (sum_across kinds values js) ≡ true
    pub is : worth (factor_at kinds values k) (sum_across kinds values js) ≡ y

  pub factor_answered : (y : Float) → factor_of s k kinds values ≡ answer y → Answered y
  unfolding factor_of opened open_refusal rated
  factor_answered y e =
      let f = factor_at kinds values k in
      let r = sum_across kinds values js in
      let cs : List Check = factor_checks s k kinds values in
      let P = answered_all cs (worth f r) y e in
      let own : Passed (drop 6 cs) 3 = P.0.1.1.1.1.1.1 in
      record {
        opens = (none_append (open_checks s) (drop 6 cs) refl (answered_none cs (worth f r) y e)).0;
        least = ltb-true 0 k (both_left (ltb 0 k) (leb k v) own.0);
        most = leb-true k v (both_right (ltb 0 k) (leb k v) own.0);
        fits = (tariff_decides v kinds values).sound own.1.0;
        has = own.1.1.0;
        is = P.1;
      }

  factor_only : (y : Float) → factor_of s k kinds values ≡ answer y → y ≡ factor_in s k kinds values
  unfolding factor_in
  factor_only y e = sym (factor_answered y e).is

  answer_near : (y : Float) → factor_of s k kinds values ≡ answer y → Near 1 y
  unfolding sum_across
  answer_near y e =
      let A = factor_answered y e in
      let allow = area_allowed v kinds values A.fits in
      let t = factor_at kinds values in
      subst (Near 1) A.is
      (worth_near (t k) (sum_across kinds values js) (allow k A.least A.most)
      (mean_near t js
      (λ i l. let h = landings_areas s k A.opens i l in allow (get_or js i 0) h.0 h.1)
      (landings_few s k A.opens))
      A.has)

  factor_own : (x : Float) → factor_at kinds values k ≡ Factor.Own x → factor_in s k kinds values ≡ x
  unfolding factor_in
  factor_own x e = ap (λ f. worth f (sum_across kinds values js)) e ∙ worth_own x (sum_across kinds values js)

  factor_held : (x low high : Float) → factor_at kinds values k ≡ Factor.Held x low high
      → worth (factor_at kinds values k) (sum_across kinds values js) ≡ held x low high
  factor_held x low high e = ap (λ f. worth f (sum_across kinds values js)) e ∙ worth_held x low high (sum_across kinds values js)

  factor_between : (x low high y : Float) → factor_at kinds values k ≡ Factor.Held x low high → factor_of s k kinds values ≡ answer y
      → (le low y ≡ true) × (le y high ≡ true)
  factor_between x low high y e a =
      let A = factor_answered y a in
      let h = ap allowed (sym e) ∙ area_allowed v kinds values A.fits k A.least A.most in
      subst (λ z. (le low z ≡ true) × (le z high ≡ true)) (sym (factor_held x low high e) ∙ A.is) (held_between x low high h)

  factor_inside : (x low high : Float) → factor_at kinds values k ≡ Factor.Held x low high → le low x ≡ true → le x high ≡ true
      → factor_in s k kinds values ≡ x
  unfolding factor_in
  factor_inside x low high e l h = factor_held x low high e ∙ held_inside x low high l h

  factor_unknown : factor_at kinds values k ≡ Factor.Unknown → factor_in s k kinds values ≡ mean (sum_across kinds values js)
  unfolding factor_in
  factor_unknown e = ap (λ f. worth f (sum_across kinds values js)) e ∙ worth_unknown (sum_across kinds values js)

pub factored : (s : List ℕ) (k : ℕ) (kinds : List ℕ) (values : List Float) → Factored s k kinds values
factored s k kinds values =
    record {
      order = factor_order s k kinds values;
      only = factor_only s k kinds values;
      own = factor_own s k kinds values;
      between = factor_between s k kinds values;
      inside = factor_inside s k kinds values;
      unknown = factor_unknown s k kinds values;
      bounded = λ y e. near_bounds y (answer_near s k kinds values y e);
      unread = factor_unread s k kinds values;
    }
