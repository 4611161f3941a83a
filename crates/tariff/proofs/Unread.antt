-- What a kind doesn't use changes nothing.
--
-- made p q x low high == a factor of kind 0 (p), of kind 1 (q) or not known
-- kind_same       == a factor is made of what its kind uses
-- factor_same     == lists that agree in all that is used have the same factors
-- tariff_same     == and both or neither pass check 18
-- sum_same        == areas with the same factors have the same sum
-- factor_unread   == so an area of a map has the same factor by either, or the same refusal
-- Assumes nothing.
use mathlib.Core.Path.{◌≡◌, refl, sym, ap, ◌∙◌}
use mathlib.Core.Bool.{Bool, true, false}
use mathlib.Core.List.{List, [], ◌∷◌}
use Prim.Native.Nat.{ℕ, zero, suc, ◌+◌, ◌*◌, ◌≤◌, ◌<◌}
use native.Mathlib.Omega.{arith}
use lib.Dec.{eqb, ltb, leb}
use borrow.Author.Tests.{ltb-true, leb-true}
use lib.Ieee.{Float, nan}
use lib.ListN.{length, get_or}
use Rattle.count.specs.Below.{pick}
use Rattle.count.proofs.Logic.{both_left, both_right, bool_same}
use Rattle.answers.proofs.Steps.{checked_same}
use Rattle.answers.specs.Answer.{answer, refused, Kind}
use Rattle.format.specs.Bytes.{size_in, word_in}
use Rattle.format.specs.Open.{open_checks, open_refusal}
use Rattle.format.specs.Calls.{cells_in, is_number, landings_in}
use Rattle.tariff.specs.declared.factor.Factor.{Factor}
use Rattle.tariff.specs.declared.factor.Running.{Running}
use Rattle.tariff.specs.Tariff.{factor_at, allowed, TariffFits, tariff_fits, begun, added, summed, sum_across, has_factor, worth, rated}
use Rattle.tariff.specs.Maps.{factor_in, factor_of}
use Rattle.tariff.specs.Statements.{SameUsed}
use Rattle.tariff.proofs.Lists.{tariff_decides}
use Rattle.tariff.proofs.Landings.{landings_areas}

abbrev made : Bool → Bool → Float → Float → Float → Factor
made p q x low high = pick p (Factor.Own x) (pick q (Factor.Held x low high) Factor.Unknown)

kind_same : (p q : Bool) (x x' low low' high high' : Float)
    → (pick p true q ≡ true → x ≡ x') → (pick p false q ≡ true → low ≡ low') → (pick p false q ≡ true → high ≡ high')
    → made p q x low high ≡ made p q x' low' high'
kind_same true q x x' low low' high high' a b c = ap Factor.Own (a refl)
kind_same false true x x' low low' high high' a b c = cc (a refl, b refl, c refl)
kind_same false false x x' low low' high high' a b c = refl

module _ (kinds : List ℕ) (values others : List Float) (S : SameUsed kinds values others) where
  index_same : (i : ℕ) → i < length kinds → factor_at kinds others (suc i) ≡ factor_at kinds values (suc i)
  unfolding factor_at
  index_same i l =
      let b = get_or kinds i 0 in
      let z : 3 * i + 0 ≡ 3 * i = omega arith in
      kind_same (eqb b 0) (eqb b 1) (get_or others (3 * i) nan) (get_or values (3 * i) nan) (get_or others (3 * i + 1) nan) (get_or values (3 * i + 1) nan)
      (get_or others (3 * i + 2) nan) (get_or values (3 * i + 2) nan)
      (λ u. rw z at (S.used i 0 l (omega arith) u))
      (λ u. S.used i 1 l (omega arith) u)
      (λ u. S.used i 2 l (omega arith) u)

  pub factor_same : (j : ℕ) → 1 ≤ j → j ≤ length kinds → factor_at kinds others j ≡ factor_at kinds values j
  factor_same zero a l = absurd (omega arith)
  factor_same (suc i) a l = index_same i l

  used_back : SameUsed kinds others values
  used_back = record { long = sym S.long; used = λ i f l m u. sym (S.used i f l m u) }

-- one list in the other's place
others_fit : (v : ℕ) (kinds : List ℕ) (values others : List Float) → SameUsed kinds values others → TariffFits v kinds values
    → TariffFits v kinds others
others_fit v kinds values others S F =
    record {
      bytes = F.bytes;
      numbers = S.long ∙ F.numbers;
      kind = F.kind;
      each = λ i l. ap allowed (factor_same kinds values others S (suc i) (omega arith) (omega (arith, F.bytes))) ∙ F.each i l;
    }

sum_same : (t u : ℕ → Factor) (js : List ℕ) (r : Running) → ((i : ℕ) → i < length js → t (get_or js i 0) ≡ u (get_or js i 0))
    → summed t js r ≡ summed u js r
unfolding summed
sum_same t u [] r e = refl
sum_same t u (j ∷ js) r e =
    ap (λ f. summed t js (added r f)) (e 0 (omega arith)) ∙ sum_same t u js (added r (u j)) (λ i l. e (suc i) (omega arith))

-- the same after the same checks
pick_same : {X : Type 0} (t : Bool) (x y z : X) → (t ≡ true → x ≡ y) → pick t x z ≡ pick t y z
pick_same true x y z e = e refl
pick_same false x y z e = refl

module _ (v : ℕ) (kinds : List ℕ) (values others : List Float) (S : SameUsed kinds values others) where
  pub tariff_same : tariff_fits v kinds others ≡ tariff_fits v kinds values
  tariff_same =
      let d = tariff_decides v kinds in
      bool_same (tariff_fits v kinds others) (tariff_fits v kinds values)
      (λ t. (d values).complete (others_fit v kinds others values (used_back kinds values others S) ((d others).sound t)))
      (λ t. (d others).complete (others_fit v kinds values others S ((d values).sound t)))

  module _ (k : ℕ) (js : List ℕ) (a : 1 ≤ k) (b : k ≤ v) (each : (i : ℕ) → i < length js → (1 ≤ get_or js i 0) × (get_or js i 0 ≤ v)) where
    across_same : length kinds ≡ v → sum_across kinds others js ≡ sum_across kinds values js
    unfolding sum_across
    across_same e =
        sum_same (factor_at kinds others) (factor_at kinds values) js begun
        (λ i l. let h = each i l in factor_same kinds values others S (get_or js i 0) h.0 (omega (arith, h.1)))

    rated_same : rated v kinds others k js ≡ rated v kinds values k js
    unfolding rated
    rated_same =
        let f = factor_at kinds others k in
        let r = sum_across kinds others js in
        ap (λ t. pick t (pick (has_factor f r) (answer (worth f r)) (refused 19)) (refused 18)) tariff_same
        ∙ pick_same (tariff_fits v kinds values) _ _ (refused 18)
        (λ t. let e = ((tariff_decides v kinds values).sound t).bytes in
        rw (factor_same kinds values others S k a (omega arith), across_same e))

pub factor_unread : (s : List ℕ) (k : ℕ) (kinds : List ℕ) (values others : List Float) → SameUsed kinds values others
    → factor_of s k kinds others ≡ factor_of s k kinds values
unfolding factor_of open_refusal rated factor_in
factor_unread s k kinds values others S =
    let v = cells_in (size_in s) Kind.area in
    let js = landings_in (word_in s) k in
    checked_same (open_checks s) (pick (is_number (size_in s) Kind.area k) (rated v kinds others k js) (refused 15))
    (pick (is_number (size_in s) Kind.area k) (rated v kinds values k js) (refused 15))
    (λ o. pick_same (is_number (size_in s) Kind.area k) (rated v kinds others k js) (rated v kinds values k js) (refused 15)
    (λ n. rated_same v kinds values others S k js
    (ltb-true 0 k (both_left (ltb 0 k) (leb k v) n)) (leb-true k v (both_right (ltb 0 k) (leb k v) n)) (landings_areas s k o)))
