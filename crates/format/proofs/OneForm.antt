-- Cards with and without the count of areas: no byte string opens in both forms, and which number each program gives for the
-- other's card. The lengths decide it.
--
-- decides_size_before, decides_length_before == the tests of 8 and 9, as they were, decide what they test
-- wrong_header, wrong_length == what a program of today gives for bytes that are too short for a header, or of another length
-- one_form        == neither program takes the other's card for its own
-- Assumes nothing.
use mathlib.Core.Path.{◌≡◌, refl, sym, ap, ◌∙◌}
use mathlib.Core.Logic.{inl, inr}
use mathlib.Core.Bool.{Bool, true, false, not}
use mathlib.Core.List.{List}
use Prim.Native.Nat.{ℕ, ◌+◌, ◌<◌}
use native.Mathlib.Omega.{arith}
use lib.Dec.{eqb}
use lib.ListN.{length}
use borrow.Author.Tests.{eq-eqb, ne_eqb}
use Rattle.count.specs.Below.{Decides}
use Rattle.count.proofs.Decides.{decides_eq}
use Rattle.count.proofs.Logic.{true_or_false, same_or_not}
use Rattle.bits.specs.Strings.{bytes_for}
use Rattle.format.specs.Bytes.{header, at_areas, size_in, start_b, map_length}
use Rattle.answers.specs.Checks.{unless}
use Rattle.format.specs.Open.{HeaderFits, SizeFits, size_fits, areas_fit, length_fits, open_refusal}
use Rattle.format.specs.Before.{size_fits_before, length_fits_before, refusal_before, OneForm}
use Rattle.format.proofs.Passes.{Passes, decides_header, decides_size, opens_passes}

-- what passed before the checks that follow
passed : (a b : Bool) (r : ℕ) → unless a 8 (unless b 9 r) ≡ 0 → (a ≡ true) × (b ≡ true)
passed true true r e = (refl, refl)
passed true false r e = absurd (omega arith)
passed false b r e = absurd (omega arith)

module _ (s : List ℕ) where
  decides_size_before : Decides (size_fits_before s) (HeaderFits at_areas s)
  unfolding size_fits_before
  decides_size_before = decides_header s at_areas

  decides_length_before : Decides (length_fits_before s) (length s + 2 ≡ map_length (size_in s))
  unfolding length_fits_before
  decides_length_before = decides_eq (length s + 2) (map_length (size_in s))

  -- ---- a card of today in a box already sold
  sold : Passes s → refusal_before s ≡ 9
  unfolding refusal_before
  sold Q =
      let a : size_fits_before s ≡ true
      = decides_size_before.complete (record {
        header_fits = omega (arith, Q.header_fits);
        m_most = Q.m_most;
        n_least = Q.n_least;
        n_most = Q.n_most;
      }) in
      elim (true_or_false (length_fits_before s)) [
        | inl b ↦ absurd (omega (arith, Q.long, decides_length_before.sound b))
        | inr b ↦ rw (a, b)
      ]

  -- ---- a card of then in a program of today
  wrong_header : length s < header → open_refusal s ≡ 8
  unfolding open_refusal
  wrong_header l =
      elim (true_or_false (size_fits s)) [
        | inl e ↦ absurd (omega (arith, ((decides_size s).sound e).header_fits))
        | inr e ↦ rw e
      ]

  wrong_length : SizeFits s → (length s ≡ map_length (size_in s) → ⊥) → open_refusal s ≡ unless (areas_fit s) 20 9
  unfolding open_refusal length_fits
  wrong_length f n = rw ((decides_size s).complete f, ne_eqb (length s) (map_length (size_in s)) n)

  old : refusal_before s ≡ 0 → open_refusal s ≡ unless (not (eqb (size_in s).m 0)) 8 (unless (areas_fit s) 20 9)
  unfolding refusal_before map_length start_b bytes_for
  old e =
      let both = passed (size_fits_before s) (length_fits_before s) _ e in
      let f : HeaderFits at_areas s = decides_size_before.sound both.0 in
      let long : length s + 2 ≡ map_length (size_in s) = decides_length_before.sound both.1 in
      elim (same_or_not (size_in s).m 0) [
        | inl z ↦
            wrong_header (omega (arith, long, f.n_least, f.n_most, z))
            ∙ ap (λ x. unless (not x) 8 (unless (areas_fit s) 20 9)) (sym (eq-eqb (size_in s).m 0 z))
        | inr z ↦
            wrong_length
            (record { header_fits = omega (arith, long, f.n_least, f.n_most, z); m_most = f.m_most; n_least = f.n_least; n_most = f.n_most })
            (λ q. omega (arith, long, q))
            ∙ ap (λ x. unless (not x) 8 (unless (areas_fit s) 20 9)) (sym (ne_eqb (size_in s).m 0 z))
      ]

pub one_form : (s : List ℕ) → OneForm s
one_form s =
    record {
      one = λ o b. omega (arith, sold s (opens_passes s o.passes), b.passes);
      sold_box = λ o. sold s (opens_passes s o.passes);
      old_card = λ b. old s b.passes;
    }
