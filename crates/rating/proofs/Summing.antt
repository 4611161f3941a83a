-- Adding up the factors of the areas in a list, and what that says of an area's sides.
--
-- sum_none, sum_more == the sum before the first entry, and with one entry more
-- sum_few         == it has room for that one
-- summable_all, summed_all == they can be added up, and the sum is theirs
-- Assumes nothing.
use mathlib.Core.Path.{◌≡◌, refl, sym, ap, ◌∙◌}
use mathlib.Core.List.{List, [], ◌∷◌, ◌++◌}
use Prim.Native.Nat.{ℕ, ◌+◌, ◌<◌, ◌≤◌}
use native.Mathlib.Numerals.{add-one}
use native.Mathlib.Omega.{arith}
use lib.Ieee.{Float}
use lib.ListN.{length, get_or, take}
use lib.Seq.{take-suc, length-take-le}
use Rattle.answers.specs.declared.numbers.Area.{Area}
use Rattle.answers.specs.Answer.{Kind}
use Rattle.format.specs.Bytes.{size_in, word_in}
use Rattle.format.specs.Calls.{cells_in, landings_in}
use Rattle.opening.specs.declared.cells.Cell.{Cell}
use Rattle.walking.specs.Positions.{Numbered}
use Rattle.landing.specs.Landed.{Landed}
use Rattle.landing.proofs.Gathering.{landed_range, landed_most, landed_fits, landed_take}
use Rattle.tariff.specs.declared.factor.Factor.{Factor}
use Rattle.tariff.specs.declared.factor.Running.{Running}
use Rattle.tariff.specs.Tariff.{factor_at, TariffFits, begun, added, summed, sum_across}
use Rattle.tariff.proofs.Lists.{summed_most}
use Rattle.rating.specs.Summed.{Summable}

summed_last : (t : ℕ → Factor) (js : List ℕ) (j : ℕ) (r : Running) → summed t (js ++ (j ∷ [])) r ≡ added (summed t js r) (t j)
unfolding summed
summed_last t [] j r = refl
summed_last t (x ∷ js) j r = summed_last t js j (added r (t x))

-- ---- the loop
pub sum_none : (kinds : List ℕ) (values : List Float) → begun ≡ sum_across kinds values []
unfolding sum_across summed
sum_none kinds values = refl

module _ (l kinds : List ℕ) (values : List Float) (i : ℕ) (r : Running) (h : i < length l) (e : r ≡ sum_across kinds values (take i l)) where
  pub sum_few : Summable l (length l) kinds values → r.count < 4096
  unfolding sum_across
  sum_few S =
      omega (arith, ap (λ (x : Running). x.count) e, summed_most (factor_at kinds values) (take i l) begun, length-take-le i l (omega arith), S.few)

  pub sum_more : (j : ℕ) (q : Running) (f : Factor) → j ≡ get_or l i 0 → f ≡ factor_at kinds values j → q ≡ added r f
      → q ≡ sum_across kinds values (take (i + 1) l)
  unfolding sum_across
  sum_more j q f hj hf hq =
      let t : ℕ → Factor = factor_at kinds values in
      hq ∙ ap (added r) (hf ∙ ap t hj) ∙ ap (λ x. added x (t (get_or l i 0))) e ∙ sym (summed_last t (take i l) (get_or l i 0) begun)
      ∙ ap (λ js. summed t js begun) (sym (take-suc l i 0 h)) ∙ ap (λ n. summed t (take n l) begun) (sym (add-one i))

-- ---- the areas across the sides of an area
module _ (s l : List ℕ) (a : Area) (c : ℕ) (L : Landed s a.0 c l) (N : Numbered s (Cell.Area a)) where
  module _ (kinds : List ℕ) (values : List Float) (T : TariffFits (cells_in (size_in s) Kind.area) kinds values) where
    abbrev across : List ℕ
    across = landings_in (word_in s) a.0

    summable : Summable across (length across) kinds values
    summable =
        let itself : Landed s a.0 (length across) across = record { count = refl; each = λ i b. refl } in
        record {
          long = omega arith;
          few = landed_most s a.0 (length across) across N.opens itself;
          each = λ i b.
              let r = landed_range s a.0 (length across) across N.opens itself i b in
              record { least = r.0; kind = omega (arith, r.1, T.bytes); numbers = omega (arith, r.1, T.numbers) };
        }

    pub summable_all : 4096 ≤ length l → Summable (take c l) (length (take c l)) kinds values
    summable_all h = rw (landed_take s a.0 c l L (landed_fits s l a c L N h)) summable

    pub summed_all : 4096 ≤ length l → (r : Running) → r ≡ sum_across kinds values (take c l) → r ≡ sum_across kinds values (landings_in (word_in s) a.0)
    summed_all h r e = e ∙ ap (sum_across kinds values) (landed_take s a.0 c l L (landed_fits s l a c L N h))
