-- What the call answers, by the checks that it has made.
--
-- price_none, price_mean == the answer to an area whose factor is not known
-- factor_declines, factor_lists == the call declines before 18, and with it
-- lists_lent, entry_lent == the lists are those of the map, and have an entry for the area
-- factor_own, factor_held, factor_unknown == its answer, by the case of the factor
-- Assumes nothing.
use mathlib.Core.Path.{◌≡◌, sym, ap, ◌∙◌}
use mathlib.Core.Bool.{Bool, true, false, not}
use mathlib.Core.List.{List}
use Prim.Native.Nat.{ℕ, ◌+◌, ◌-◌}
use native.Mathlib.Omega.{arith}
use lib.Ieee.{Float}
use borrow.Author.Tests.{lt-ltb, le-ltb}
use Rattle.count.specs.Below.{pick}
use Rattle.count.proofs.Logic.{pick_yes, pick_no}
use Rattle.answers.specs.Answer.{Answer, answer, refused_with, refused, Kind}
use Rattle.format.specs.Bytes.{size_in, word_in}
use Rattle.format.specs.Calls.{cells_in, landings_in}
use Rattle.opening.specs.Checks.{cell_check}
use Rattle.opening.proofs.Passed.{cell_passes, cell_declines, cell_answers}
use Rattle.tariff.specs.declared.factor.Factor.{Factor}
use Rattle.tariff.specs.declared.factor.Running.{Running}
use Rattle.tariff.specs.Tariff.{held, factor_at, TariffFits, tariff_fits, has_factor, mean, worth, sum_across, rated}
use Rattle.tariff.specs.Maps.{factor_in, factor_of}
use Rattle.tariff.proofs.Lists.{tariff_decides}
use Rattle.pricing.specs.Lists.{InLists}
use Rattle.pricing.proofs.Laws.{not_is}
use Rattle.rating.specs.Summed.{priced}

-- ---- the mean
module _ (r across : Running) (e : r ≡ across) where
  pub price_none : r.count ≡ 0 → refused 19 ≡ priced Factor.Unknown across
  unfolding priced has_factor
  price_none z =
      ap (λ t. pick t (answer (worth Factor.Unknown r)) (refused 19)) (sym (le-ltb 0 r.count (omega arith)))
      ∙ ap (priced Factor.Unknown) e

  pub price_mean : (r.count ≡ 0 → ⊥) → (y : Float) → y ≡ mean r → answer y ≡ priced Factor.Unknown across
  unfolding priced has_factor worth
  price_mean d y h =
      ap answer h ∙ ap (λ t. pick t (answer (mean r)) (refused 19)) (sym (lt-ltb 0 r.count (omega arith)))
      ∙ ap (priced Factor.Unknown) e

-- ---- the call
module _ (s kinds : List ℕ) (values : List Float) (k : ℕ) where
  abbrev Answered : Answer Float
  Answered = factor_of s k kinds values

  abbrev areas_of : ℕ
  areas_of = cells_in (size_in s) Kind.area

  pub factor_declines : (o : ℕ) (xs : List ℕ) → refused_with o xs ≡ cell_check s Kind.area k → refused_with o xs ≡ Answered
  unfolding factor_of factor_in rated
  factor_declines o xs e = cell_declines s Kind.area k (rated areas_of kinds values k (landings_in (word_in s) k)) o xs e

  module _ (e : answer (tt {0}) ≡ cell_check s Kind.area k) (v : ℕ) (hv : v ≡ (size_in s).m + 2 - (size_in s).n) (t : Bool) (ht : t ≡ tariff_fits v kinds values) where
    after_area : rated areas_of kinds values k (landings_in (word_in s) k) ≡ Answered
    unfolding factor_of factor_in rated
    after_area = cell_answers s Kind.area k e (rated areas_of kinds values k (landings_in (word_in s) k))

    fit_test : tariff_fits areas_of kinds values ≡ t
    fit_test = sym (ht ∙ ap (λ x. tariff_fits x kinds values) hv)

    pub factor_lists : not t ≡ true → refused 18 ≡ Answered
    unfolding rated
    factor_lists n =
        sym (pick_no (tariff_fits areas_of kinds values) _ (refused 18) (fit_test ∙ not_is t true n)) ∙ after_area

    module _ (n : not t ≡ false) where
      pub lists_lent : TariffFits areas_of kinds values
      lists_lent = (tariff_decides areas_of kinds values).sound (fit_test ∙ not_is t false n)

      pub entry_lent : InLists kinds values k
      entry_lent =
          let p = cell_passes s Kind.area k e in
          record {
            least = p.1;
            kind = omega (arith, p.2, lists_lent.bytes);
            numbers = omega (arith, p.2, lists_lent.numbers);
          }

      module _ (f : Factor) (hf : f ≡ factor_at kinds values k) where
        abbrev sum : Running
        sum = sum_across kinds values (landings_in (word_in s) k)

        priced_is : priced f sum ≡ Answered
        unfolding rated priced
        priced_is =
            ap (λ x. priced x sum) hf
            ∙ sym (pick_yes (tariff_fits areas_of kinds values) (priced (factor_at kinds values k) sum) (refused 18) (fit_test ∙ not_is t false n))
            ∙ after_area

        pub factor_own : (x : Float) → f ≡ Factor.Own x → answer x ≡ Answered
        unfolding priced has_factor worth
        factor_own x g = sym (ap (λ y. priced y sum) g) ∙ priced_is

        pub factor_held : (x low high y : Float) → f ≡ Factor.Held x low high → y ≡ held x low high → answer y ≡ Answered
        unfolding priced has_factor worth
        factor_held x low high y g h = ap answer h ∙ sym (ap (λ w. priced w sum) g) ∙ priced_is

        pub factor_unknown : f ≡ Factor.Unknown → (a : Answer Float) → a ≡ priced Factor.Unknown sum → a ≡ Answered
        factor_unknown g a h = h ∙ sym (ap (λ y. priced y sum) g) ∙ priced_is
