-- The two lists: their test decides what it says, and when a sum has a factor in it.
--
-- tariff_decides   == the test of check 18 decides its proposition
-- knows f          == how many factors f adds: 1, or 0 where it is not known
-- added_count, added_most == a sum with one area more has as many more in it
-- summed_least, summed_most == no factor is taken out of a sum, and no area adds two
-- count_known      == a sum across areas has more in it exactly if some area is known
-- factor_decides   == the test of check 19 decides its proposition
-- Assumes nothing.
use mathlib.Core.Path.{◌≡◌, refl, sym, subst}
use mathlib.Core.Logic.{◌⊎◌, inl, inr, ⊎_elim, ◌↔◌}
use mathlib.Core.Bool.{true, ◌&&◌}
use mathlib.Core.List.{List, [], ◌∷◌}
use Prim.Native.Nat.{ℕ, zero, suc, ◌+◌, ◌*◌, ◌≤◌, ◌<◌}
use native.Mathlib.Omega.{arith}
use lib.Dec.{leb}
use lib.Ieee.{Float}
use lib.ListN.{length, get_or}
use Rattle.count.specs.Below.{Decides}
use Rattle.count.proofs.Logic.{lt_or_ge}
use Rattle.count.proofs.Decides.{decides_true, decides_eq, decides_le, decides_lt, decides_both, decides_all, decides_as}
use Rattle.tariff.specs.declared.factor.Factor.{Factor}
use Rattle.tariff.specs.declared.factor.Running.{Running}
use Rattle.tariff.specs.Tariff.{factor_at, allowed, TariffFits, tariff_fits, begun, added, summed, has_factor, Known, Priced}

pub tariff_decides : (v : ℕ) (kinds : List ℕ) (values : List Float) → Decides (tariff_fits v kinds values) (TariffFits v kinds values)
unfolding tariff_fits
tariff_decides v kinds values =
    decides_as
    (λ t. record { bytes = t.0.0; numbers = t.0.1; kind = λ i l. (t.1 i l).0; each = λ i l. (t.1 i l).1 })
    (λ r. ((r.bytes, r.numbers), λ i l. (r.kind i l, r.each i l)))
    (decides_both
    (decides_both (decides_eq (length kinds) v) (decides_eq (length values) (3 * v)))
    (decides_all (λ i. leb (get_or kinds i 0) 2 && allowed (factor_at kinds values (suc i)))
    (λ i. (get_or kinds i 0 ≤ 2) × (allowed (factor_at kinds values (suc i)) ≡ true)) v
    (λ i l. decides_both (decides_le (get_or kinds i 0) 2) (decides_true (allowed (factor_at kinds values (suc i)))))))

abbrev knows : Factor → ℕ
knows (Factor.Own x) = 1
knows (Factor.Held x low high) = 1
knows Factor.Unknown = 0

known_one : (f : Factor) → Known f → knows f ≡ 1
known_one (Factor.Own x) k = refl
known_one (Factor.Held x low high) k = refl
known_one Factor.Unknown k = absurd (k refl)

one_known : (f : Factor) → knows f ≡ 1 → Known f
one_known f h e = let z : knows f ≡ 0 = subst (λ g. knows g ≡ 0) (sym e) refl in omega arith

knows_most : (f : Factor) → knows f ≤ 1
knows_most (Factor.Own x) = omega arith
knows_most (Factor.Held x low high) = omega arith
knows_most Factor.Unknown = omega arith

added_count : (r : Running) (f : Factor) → (added r f).count ≡ r.count + knows f
unfolding added
added_count r (Factor.Own x) = refl
added_count r (Factor.Held x low high) = refl
added_count r Factor.Unknown = omega arith

-- one of the areas js is known
abbrev SomeKnown : (ℕ → Factor) → List ℕ → Type 0
SomeKnown t js = (i : ℕ) × (i < length js) × Known (t (get_or js i 0))

pub added_most : (r : Running) (f : Factor) → (added r f).count ≤ r.count + 1
added_most r f = omega (arith, added_count r f, knows_most f)

module _ (t : ℕ → Factor) where
  pub summed_least : (js : List ℕ) (r : Running) → r.count ≤ (summed t js r).count
  unfolding summed
  summed_least [] r = omega arith
  summed_least (j ∷ js) r = omega (arith, added_count r (t j), summed_least js (added r (t j)))

  pub summed_most : (js : List ℕ) (r : Running) → (summed t js r).count ≤ r.count + length js
  unfolding summed
  summed_most [] r = omega arith
  summed_most (j ∷ js) r = omega (arith, added_most r (t j), summed_most js (added r (t j)))

  summed_known : (js : List ℕ) (r : Running) (i : ℕ) → i < length js → Known (t (get_or js i 0)) → r.count < (summed t js r).count
  unfolding summed
  summed_known [] r i l k = absurd (omega arith)
  summed_known (j ∷ js) r zero l k = omega (arith, known_one (t j) k, added_count r (t j), summed_least js (added r (t j)))
  summed_known (j ∷ js) r (suc i) l k = omega (arith, added_count r (t j), summed_known js (added r (t j)) i (omega arith) k)

  summed_has : (js : List ℕ) (r : Running) → r.count < (summed t js r).count → SomeKnown t js
  unfolding summed
  summed_has [] r l = absurd (omega arith)
  summed_has (j ∷ js) r l =
      elim (lt_or_ge (added r (t j)).count (summed t js (added r (t j))).count) [
        | inl h ↦ let x = summed_has js (added r (t j)) h in (suc x.0, omega (arith, x.1), x.2)
        | inr g ↦ (0, omega arith, one_known (t j) (omega (arith, added_count r (t j), knows_most (t j))))
      ]

  pub count_known : (js : List ℕ) (r : Running) → (r.count < (summed t js r).count) ↔ SomeKnown t js
  count_known js r = (summed_has js r, λ x. summed_known js r x.0 x.1 x.2)

-- whether f itself is known, or the sum has one
has_decides : (f : Factor) (r : Running) (X : Type 0) → (0 < r.count) ↔ X → Decides (has_factor f r) (Known f ⊎ X)
unfolding has_factor
has_decides (Factor.Own x) r X e = record { sound = λ _. inl (one_known (Factor.Own x) refl); complete = λ _. refl }
has_decides (Factor.Held x low high) r X e = record { sound = λ _. inl (one_known (Factor.Held x low high) refl); complete = λ _. refl }
has_decides Factor.Unknown r X e =
    decides_as (λ h. inr (e.0 h)) (⊎_elim (λ k. absurd (k refl)) e.1) (decides_lt 0 r.count)

pub factor_decides : (t : ℕ → Factor) (k : ℕ) (js : List ℕ) → Decides (has_factor (t k) (summed t js begun)) (Priced t k js)
factor_decides t k js = has_decides (t k) (summed t js begun) (SomeKnown t js) (count_known t js begun)
