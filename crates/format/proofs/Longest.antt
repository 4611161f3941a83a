-- No map is longer than the longest.
--
-- map_length_most  == the length that the header gives is at most the longest
-- too_long_lem         == bytes longer than the longest map don't open
-- long_refused     == they get 8 or 20 by their header, else 9
-- open_cut         == and so opening gives their first bytes, one more than the longest map has, the number that it gives all of them
-- Assumes nothing.
use mathlib.Core.Path.{◌≡◌, sym, ap, ap₂, ◌∙◌}
use mathlib.Core.Logic.{◌≢◌, inl, inr}
use mathlib.Core.Bool.{true, false, ◌&&◌}
use mathlib.Core.List.{List}
use Prim.Native.Nat.{ℕ, ◌+◌, ◌≤◌, ◌<◌}
use native.Mathlib.Omega.{arith}
use lib.Dec.{eqb, leb}
use lib.ListN.{length, take}
use lib.Seq.{get_or-take, length-take-le, take_all}
use borrow.Author.Tests.{ne_eqb, le-leb}
use Rattle.count.proofs.Logic.{lt_or_ge, true_or_false}
use Rattle.answers.specs.declared.given.Size.{Size}
use Rattle.bits.specs.Strings.{bytes_for}
use Rattle.drawing.specs.Drawing.{most_borders}
use Rattle.format.specs.Bytes.{at_m, at_n, at_areas, header, areas_of, size_in, written_areas, le16_at, start_b, map_length, longest}
use Rattle.answers.specs.Checks.{unless}
use Rattle.format.specs.Open.{SizeFits, size_fits, areas_fit, length_fits, open_refusal}
use Rattle.format.proofs.Passes.{Passes, decides_size, opens_passes}

pub map_length_most : (z : Size) → z.m ≤ most_borders → 1 ≤ z.n → z.n ≤ z.m + 1 → map_length z ≤ longest
unfolding map_length start_b bytes_for
map_length_most z a b c = omega arith

pub too_long_lem : (s : List ℕ) → longest < length s → open_refusal s ≢ 0
too_long_lem s h e =
    let Q : Passes s = opens_passes s e in
    omega (arith, Q.long, map_length_most (size_in s) Q.m_most Q.n_least Q.n_most)

-- what 8, 20 and 9 make of bytes that are longer than the longest map
abbrev too_long : List ℕ → ℕ
too_long s = unless (size_fits s) 8 (unless (areas_fit s) 20 9)

module _ (s : List ℕ) (h : longest < length s) where
  no_length : size_fits s ≡ true → length_fits s ≡ false
  unfolding length_fits
  no_length e =
      let f : SizeFits s = (decides_size s).sound e in
      let l = map_length_most (size_in s) f.m_most f.n_least f.n_most in
      ne_eqb (length s) (map_length (size_in s)) (omega arith)

  long_refused : open_refusal s ≡ too_long s
  unfolding open_refusal
  long_refused =
      elim (true_or_false (size_fits s)) [
        | inl e ↦ rw (e, no_length e)
        | inr e ↦ rw e
      ]

module _ (s : List ℕ) (h : longest < length s) where
  abbrev cut : List ℕ
  cut = take (longest + 1) s

  cut_long : length cut ≡ longest + 1
  cut_long = length-take-le (longest + 1) s (omega arith)

  cut_two : (i : ℕ) → i < longest → le16_at cut i ≡ le16_at s i
  unfolding le16_at
  cut_two i l = rw (get_or-take (longest + 1) s i 0 (omega arith), get_or-take (longest + 1) s (i + 1) 0 (omega arith))

  cut_header : size_in cut ≡ size_in s
  unfolding size_in
  cut_header = rw (cut_two at_m (omega arith), cut_two at_n (omega arith))

  cut_written : written_areas cut ≡ written_areas s
  unfolding written_areas
  cut_written = cut_two at_areas (omega arith)

  cut_areas : areas_fit cut ≡ areas_fit s
  unfolding areas_fit
  cut_areas = ap₂ (λ (x : ℕ) (z : Size). eqb x (areas_of z)) cut_written cut_header

  cut_fits : size_fits cut ≡ size_fits s
  unfolding size_fits
  cut_fits =
      let l = cut_long in
      let a : leb header (length cut) ≡ true = le-leb header (length cut) (omega arith) in
      let b : leb header (length s) ≡ true = le-leb header (length s) (omega arith) in
      ap (λ t. t && leb (size_in cut).m most_borders && leb 1 (size_in cut).n && leb (size_in cut).n ((size_in cut).m + 1)) (a ∙ sym b)
      ∙ ap (λ (z : Size). leb header (length s) && leb z.m most_borders && leb 1 z.n && leb z.n (z.m + 1)) cut_header

  cut_refused : open_refusal cut ≡ open_refusal s
  cut_refused =
      let l = cut_long in
      long_refused cut (omega arith) ∙ ap₂ (λ t u. unless t 8 (unless u 20 9)) cut_fits cut_areas ∙ sym (long_refused s h)

pub open_cut : (s : List ℕ) → open_refusal (take (longest + 1) s) ≡ open_refusal s
open_cut s =
    elim (lt_or_ge longest (length s)) [
      | inl l ↦ cut_refused s l
      | inr g ↦ ap open_refusal (take_all (longest + 1) s (omega arith))
    ]
