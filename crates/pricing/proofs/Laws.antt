-- What the lists say of an area, by its kind byte, and of all areas.
--
-- not_is                     == a test, by what its negation is
-- at_own, at_held, at_unknown == what the lists say of an area, by its kind byte
-- entry_allowed              == an entry whose kind byte is 2 at most, by whether the factor is allowed
-- all_below                  == a test of all numbers below a bound, as std has it of their list
-- lists_each                 == lists of the right length, by the test of all their entries
-- Assumes nothing.
use Rattle.std.proofs.Common.{◌≡◌, ℕ, suc, pred, ◌+◌, ◌-◌, ◌*◌, ◌<◌, ◌≤◌, Bool, true, false, not, ◌&&◌, List, length, get_or, sym, ap, ◌∙◌, add-one, arith, eqb, ne_eqb, le-leb}
use Rattle.std.specs.List.{list_all, range_with_len}
use Rattle.std.proofs.lemmas.List.FromFn.{length-range_with_len, get_or-range_with_len}
use Rattle.std.proofs.lemmas.List.Sums.{AllPass-from_list_all, list_all-from_AllPass}
use lib.Ieee.{Float, nan}
use Rattle.count.specs.Below.{all}
use Rattle.count.proofs.Logic.{bool_same}
use Rattle.count.proofs.Below.{all_from, all_has}
use Rattle.tariff.specs.declared.factor.Factor.{Factor}
use Rattle.tariff.specs.Tariff.{of_kind, factor_at, allowed, tariff_fits}
use Rattle.pricing.specs.Lists.{entry_fits}

pub not_is : (a b : Bool) → not a ≡ b → a ≡ not b
not_is true b e = let z : false ≡ b = e in ap not z
not_is false b e = let z : true ≡ b = e in ap not z

-- ---- what the lists say of an area
module _ (kinds : List ℕ) (values : List Float) (k : ℕ) where
  made : factor_at kinds values k
      ≡ of_kind (get_or kinds (k - 1) 0) (get_or values (3 * (k - 1)) nan) (get_or values (3 * (k - 1) + 1) nan) (get_or values (3 * (k - 1) + 2) nan)
  unfolding factor_at
  made = let e : pred k ≡ k - 1 = omega arith in rw e

  pub at_own : get_or kinds (k - 1) 0 ≡ 0 → Factor.Own (get_or values (3 * (k - 1)) nan) ≡ factor_at kinds values k
  unfolding of_kind
  at_own e = sym (made ∙ rw e)

  pub at_held : get_or kinds (k - 1) 0 ≡ 1
      → Factor.Held (get_or values (3 * (k - 1)) nan) (get_or values (3 * (k - 1) + 1) nan) (get_or values (3 * (k - 1) + 2) nan) ≡ factor_at kinds values k
  unfolding of_kind
  at_held e = sym (made ∙ rw e)

  pub at_unknown : (get_or kinds (k - 1) 0 ≡ 0 → ⊥) → (get_or kinds (k - 1) 0 ≡ 1 → ⊥) → Factor.Unknown ≡ factor_at kinds values k
  unfolding of_kind
  at_unknown d e = sym (made ∙ rw (ne_eqb (get_or kinds (k - 1) 0) 0 d, ne_eqb (get_or kinds (k - 1) 0) 1 e))

-- ---- an entry
pub entry_allowed : (kinds : List ℕ) (values : List Float) (i : ℕ) (f : Factor) (r : Bool) → get_or kinds i 0 ≤ 2
    → f ≡ factor_at kinds values (i + 1) → r ≡ allowed f → r ≡ entry_fits kinds values i
unfolding entry_fits
entry_allowed kinds values i f r l e g =
    g ∙ ap allowed e ∙ ap (λ n. allowed (factor_at kinds values n)) (add-one i)
    ∙ sym (ap (λ t. t && allowed (factor_at kinds values (suc i))) (le-leb (get_or kinds i 0) 2 l))

-- ---- all entries
module _ (P : ℕ → Bool) (v : ℕ) where
  abbrev below : List ℕ
  below = range_with_len 0 v

  at : (i d : ℕ) → i < v → P i ≡ P (get_or below i d)
  at i d l = let e : i ≡ get_or below i d = omega (arith, get_or-range_with_len 0 v i d l) in ap P e

  pub all_below : list_all P below ≡ all P v
  all_below =
      bool_same (list_all P below) (all P v)
      (λ t. all_from P v (λ i l. at i 0 l ∙ AllPass-from_list_all P below t i 0 (omega (arith, length-range_with_len 0 v))))
      (λ t.
      list_all-from_AllPass P below (λ i d l.
      let b : i < v = omega (arith, length-range_with_len 0 v) in
      sym (at i d b) ∙ all_has P v t i b))

pub lists_each : (kinds : List ℕ) (values : List Float) (v : ℕ) (r : Bool) → eqb (length kinds) v ≡ true → eqb (length values) (3 * v) ≡ true
    → r ≡ all (entry_fits kinds values) v → r ≡ tariff_fits v kinds values
unfolding tariff_fits entry_fits
lists_each kinds values v r e f h = h ∙ sym (rw (e, f))
