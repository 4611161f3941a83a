-- Moves through rank and select: what code computes from the three strings of bytes that open.
--
-- rank_most, rank_index == a rank in A is at most the length of the family's string, and below it at a letter of the family
-- mate_in_ranks    == the partner of a position: rank, partner in the family's string, select
-- inner_ranks       == the innermost open bracket: rank, innermost open one in the family's string, select
-- Assumes nothing.
use mathlib.Core.Path.{◌≡◌, sym, ◌∙◌, ap}
use mathlib.Core.Logic.{◌↔◌}
use mathlib.Core.Bool.{true}
use mathlib.Core.List.{List}
use Prim.Native.Nat.{ℕ, ◌+◌, ◌<◌, ◌≤◌}
use native.Mathlib.Omega.{arith}
use borrow.Author.Tests.{eqb-true}
use Rattle.words.specs.Brackets.{inner, mate}
use Rattle.words.specs.declared.family.Family.{Family}
use Rattle.words.specs.Word.{same_family, seen, mate_in}
use Rattle.words.proofs.Thin.{thin_inner, thin_mate}
use Rattle.bits.specs.Strings.{bit, is_bit, rank, select, brackets}
use Rattle.bits.specs.Letters.{family_bit}
use Rattle.bits.proofs.Laws.{rank_mono, rank_before}
use Rattle.bits.proofs.Letters.{family_itself}
use Rattle.format.specs.Bytes.{size_in, bits_a, bits_b, part_a, part_b, word_in}
use Rattle.format.specs.Open.{open_refusal}
use Rattle.format.proofs.Passes.{opens_passes}
use Rattle.format.proofs.Decode.{family_tests, word_thins, rank_all, passes_nested}

module _ (s : List ℕ) (K : Family) where
  family_bit_lem : (p : ℕ) → ((word_in s).letter p).family ≡ K → is_bit (family_bit K) (part_a s) p ≡ true
  family_bit_lem p f = sym (family_tests s K p) ∙ ap (same_family K) f ∙ family_itself K

  pub rank_most : open_refusal s ≡ 0 → (p : ℕ) → p ≤ bits_a (size_in s) → rank (family_bit K) (part_a s) p ≤ bits_b K (size_in s)
  rank_most e p l = omega (arith, rank_mono (family_bit K) (part_a s) p (bits_a (size_in s)) l, rank_all s (opens_passes s e) K)

  pub rank_index : open_refusal s ≡ 0 → (p : ℕ) → p < bits_a (size_in s) → ((word_in s).letter p).family ≡ K
      → rank (family_bit K) (part_a s) p < bits_b K (size_in s)
  rank_index e p l f =
      let b = eqb-true (bit (part_a s) p) (family_bit K) (family_bit_lem p f) in
      omega (arith, rank_before (family_bit K) (part_a s) p (bits_a (size_in s)) l b, rank_all s (opens_passes s e) K)

  pub mate_in_ranks : open_refusal s ≡ 0 → (p : ℕ) → p < bits_a (size_in s) → ((word_in s).letter p).family ≡ K
      → mate_in (word_in s) p
      ≡ select (family_bit K) (part_a s) (bits_a (size_in s)) (mate (brackets (part_b K s)) (bits_b K (size_in s)) (rank (family_bit K) (part_a s) p))
  unfolding mate_in word_in select rank
  mate_in_ranks e p l f =
      let Q = opens_passes s e in
      let n = bits_a (size_in s) in
      ap (λ L. mate (seen L (word_in s)) n p) f
      ∙ thin_mate (is_bit (family_bit K) (part_a s)) (seen K (word_in s)) (brackets (part_b K s)) n (word_thins s K n) p l (family_bit_lem p f) (passes_nested s Q K)
      ∙ ap (λ k. select (family_bit K) (part_a s) n (mate (brackets (part_b K s)) k (rank (family_bit K) (part_a s) p))) (rank_all s Q K)

  pub inner_ranks : (p : ℕ) → p ≤ bits_a (size_in s)
      → ((inner (seen K (word_in s)) p ≡ 0) ↔ (inner (brackets (part_b K s)) (rank (family_bit K) (part_a s) p) ≡ 0))
      × ((j : ℕ) → inner (brackets (part_b K s)) (rank (family_bit K) (part_a s) p) ≡ j + 1
      → inner (seen K (word_in s)) p ≡ select (family_bit K) (part_a s) (bits_a (size_in s)) j + 1)
  unfolding select rank
  inner_ranks p l =
      let n = bits_a (size_in s) in
      thin_inner (is_bit (family_bit K) (part_a s)) (seen K (word_in s)) (brackets (part_b K s)) n (word_thins s K n) p l
