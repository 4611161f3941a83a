-- How many brackets open in a map that opens, and how many points and areas it has.
--
-- openings_ranks  == as many of a family open as its string has zeros
-- half_open       == which are half of its bits
-- cells_openings  == there is one point (area) more than openings
-- cells_numbers, number_cells == the same of the word: its numbers go from 1 to as many
-- areas_most      == no map has more than 2,049 areas
-- Assumes nothing.
use mathlib.Core.Path.{◌≡◌, sym, ap, ◌∙◌}
use mathlib.Core.List.{List}
use Prim.Native.Nat.{ℕ, ◌+◌, ◌*◌, ◌<◌, ◌≤◌}
use native.Mathlib.Omega.{arith}
use Rattle.answers.specs.Answer.{Kind}
use Rattle.words.specs.declared.family.Family.{Family}
use Rattle.words.specs.declared.family.Family.TheVariants.{Round as round, Square as square}
use Rattle.words.specs.Brackets.{number}
use Rattle.words.specs.Word.{seen}
use Rattle.words.proofs.Halves.{openings_half_all}
use Rattle.words.proofs.Numbers.{openings, number_positive, number_range}
use Rattle.words.proofs.Openings.{thin_openings}
use Rattle.bits.specs.Strings.{is_bit, rank, brackets}
use Rattle.bits.specs.Letters.{family_bit}
use Rattle.bits.proofs.Laws.{bracket_cases, rank_openings}
use Rattle.format.specs.Bytes.{size_in, bits_a, bits_b, part_a, part_b, word_in}
use Rattle.format.specs.Open.{open_refusal}
use Rattle.format.specs.Calls.{family_of_kind, cells_in}
use Rattle.format.proofs.Passes.{opens_passes}
use Rattle.format.proofs.Decode.{word_thins, rank_all}

module _ (s : List ℕ) (K : Family) (o : open_refusal s ≡ 0) where
  pub openings_ranks : openings (seen K (word_in s)) (bits_a (size_in s)) ≡ rank 0 (part_b K s) (bits_b K (size_in s))
  unfolding rank
  openings_ranks =
      let B = part_b K s in
      thin_openings (is_bit (family_bit K) (part_a s)) (seen K (word_in s)) (brackets B) (bits_a (size_in s)) (word_thins s K (bits_a (size_in s)))
      (bits_a (size_in s)) (omega arith)
      ∙ ap (openings (brackets B)) (rank_all s (opens_passes s o) K)
      ∙ rank_openings B (bits_b K (size_in s))

  half_open : 2 * rank 0 (part_b K s) (bits_b K (size_in s)) ≡ bits_b K (size_in s)
  half_open =
      let B = part_b K s in
      let n = bits_b K (size_in s) in
      ap (λ x. 2 * x) (sym (rank_openings B n)) ∙ openings_half_all (brackets B) n ((opens_passes s o).nested K) (bracket_cases B)

pub cells_openings : (s : List ℕ) (c : Kind) → open_refusal s ≡ 0
    → rank 0 (part_b (family_of_kind c) s) (bits_b (family_of_kind c) (size_in s)) + 1 ≡ cells_in (size_in s) c
cells_openings s Kind.point o = omega (arith, half_open s round o, (opens_passes s o).n_least)
cells_openings s Kind.area o = omega (arith, half_open s square o, (opens_passes s o).n_least, (opens_passes s o).n_most)

pub cells_numbers : (s : List ℕ) (c : Kind) → open_refusal s ≡ 0
    → 1 + openings (seen (family_of_kind c) (word_in s)) (bits_a (size_in s)) ≡ cells_in (size_in s) c
cells_numbers s c o = let e = openings_ranks s (family_of_kind c) o in let f = cells_openings s c o in omega arith

module _ (s : List ℕ) (o : open_refusal s ≡ 0) where
  pub number_cells : (c : Kind) (p : ℕ) → p < bits_a (size_in s)
      → (1 ≤ number (seen (family_of_kind c) (word_in s)) p) × (number (seen (family_of_kind c) (word_in s)) p ≤ cells_in (size_in s) c)
  number_cells c p l =
      let b = seen (family_of_kind c) (word_in s) in
      (number_positive b p, omega (arith, number_range b (bits_a (size_in s)) p l, cells_numbers s c o))

  pub areas_most : cells_in (size_in s) Kind.area ≤ 2049
  areas_most = omega (arith, (opens_passes s o).m_most, (opens_passes s o).n_least)
