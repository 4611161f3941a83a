-- The word of bytes that open, one family at a time, through the three strings.
--
-- thins           == the family's string is what is left of the word when the other family's letters are taken out
-- seen_opens, seen_closes, seen_neither == a letter by its bits
-- places_most     == there are at most 4,096 places
-- nested          == the word is balanced in each family
-- mate_ranks      == partner: rank, partner in the family's string, select
-- number_ranks    == number: rank, innermost open bracket of the string, and how many open before it
-- first_ranks     == first position: the place after the opening that select finds
-- Assumes nothing.
use mathlib.Core.Path.{◌≡◌, refl, ap, ◌∙◌}
use mathlib.Core.Bool.{Bool, true, false}
use mathlib.Core.List.{List}
use Prim.Native.Nat.{ℕ, ◌+◌, ◌<◌, ◌≤◌}
use native.Mathlib.Omega.{arith}
use lib.Dec.{eqb}
use borrow.Author.Tests.{eq-eqb, ne_eqb}
use Rattle.count.specs.Below.{pick, count, nth}
use Rattle.count.proofs.Below.{nth_same}
use Rattle.words.specs.Brackets.{opens, closes, neither, is_opens, inner, Balanced, mate, number, first}
use Rattle.words.specs.declared.family.Family.{Family}
use Rattle.words.specs.Word.{seen}
use Rattle.words.proofs.Numbers.{openings, number_is, first_opening}
use Rattle.words.proofs.Thin.{Thins, thin_mate}
use Rattle.words.proofs.Openings.{thin_number, thin_opening}
use Rattle.bits.specs.Strings.{bit, is_bit, rank, select, brackets}
use Rattle.bits.specs.Letters.{family_bit}
use Rattle.bits.proofs.Laws.{bracket_0, bracket_not_0, rank_openings}
use Rattle.format.specs.Bytes.{size_in, bits_a, bits_b, part_a, part_b, word_in}
use Rattle.format.specs.Open.{open_refusal}
use Rattle.format.proofs.Passes.{opens_passes}
use Rattle.format.proofs.Decode.{word_thins, rank_all, passes_nested}
use Rattle.format.proofs.Openings.{openings_ranks}

pub places_most : (s : List ℕ) → open_refusal s ≡ 0 → bits_a (size_in s) ≤ 4096
places_most s e = omega (arith, (opens_passes s e).m_most)

opens_picked : (t : Bool) → is_opens (pick t opens closes) ≡ t
opens_picked true = refl
opens_picked false = refl

-- the openings of a string are its zeros
select_openings : (s : List ℕ) (n j : ℕ) → nth (λ q. is_opens (brackets s q)) j n ≡ select 0 s n j
unfolding select brackets
select_openings s n j = nth_same (λ q. is_opens (brackets s q)) (is_bit 0 s) j n (λ q l. opens_picked (eqb (bit s q) 0))

module _ (s : List ℕ) (K : Family) where
  pub thins : (n : ℕ) → Thins (is_bit (family_bit K) (part_a s)) (seen K (word_in s)) (brackets (part_b K s)) n
  thins n = word_thins s K n

  seen_own : (p : ℕ) → bit (part_a s) p ≡ family_bit K → seen K (word_in s) p ≡ brackets (part_b K s) (rank (family_bit K) (part_a s) p)
  unfolding rank
  seen_own p e = (thins (p + 1)).inside p (omega arith) (eq-eqb (bit (part_a s) p) (family_bit K) e)

  pub seen_opens : (p : ℕ) → bit (part_a s) p ≡ family_bit K → bit (part_b K s) (rank (family_bit K) (part_a s) p) ≡ 0 → seen K (word_in s) p ≡ opens
  seen_opens p e z = seen_own p e ∙ bracket_0 (part_b K s) (rank (family_bit K) (part_a s) p) z

  pub seen_closes : (p : ℕ) → bit (part_a s) p ≡ family_bit K → (bit (part_b K s) (rank (family_bit K) (part_a s) p) ≡ 0 → ⊥) → seen K (word_in s) p ≡ closes
  seen_closes p e z = seen_own p e ∙ bracket_not_0 (part_b K s) (rank (family_bit K) (part_a s) p) z

  pub seen_neither : (p : ℕ) → (bit (part_a s) p ≡ family_bit K → ⊥) → seen K (word_in s) p ≡ neither
  seen_neither p m = (thins (p + 1)).outside p (omega arith) (ne_eqb (bit (part_a s) p) (family_bit K) m)

  module _ (o : open_refusal s ≡ 0) where
    pub nested : Balanced (seen K (word_in s)) (bits_a (size_in s))
    nested = passes_nested s (opens_passes s o) K

    ranks : rank (family_bit K) (part_a s) (bits_a (size_in s)) ≡ bits_b K (size_in s)
    ranks = rank_all s (opens_passes s o) K

    pub mate_ranks : (p : ℕ) → p < bits_a (size_in s) → bit (part_a s) p ≡ family_bit K
        → mate (seen K (word_in s)) (bits_a (size_in s)) p
        ≡ select (family_bit K) (part_a s) (bits_a (size_in s)) (mate (brackets (part_b K s)) (bits_b K (size_in s)) (rank (family_bit K) (part_a s) p))
    unfolding select rank
    mate_ranks p l e =
        let A = part_a s in
        let B = brackets (part_b K s) in
        thin_mate (is_bit (family_bit K) A) (seen K (word_in s)) B (bits_a (size_in s)) (thins (bits_a (size_in s))) p l (eq-eqb (bit A p) (family_bit K) e) nested
        ∙ ap (λ k. select (family_bit K) A (bits_a (size_in s)) (mate B k (rank (family_bit K) A p))) ranks

    pub number_ranks : (p : ℕ) → p ≤ bits_a (size_in s)
        → number (seen K (word_in s)) p
        ≡ rank 0 (part_b K s) (inner (brackets (part_b K s)) (rank (family_bit K) (part_a s) p)) + 1
    unfolding rank
    number_ranks p l =
        let B = part_b K s in
        let j = rank (family_bit K) (part_a s) p in
        thin_number (is_bit (family_bit K) (part_a s)) (seen K (word_in s)) (brackets B) (bits_a (size_in s)) (thins (bits_a (size_in s))) p l
        ∙ number_is (brackets B) j
        ∙ ap (λ x. x + 1) (rank_openings B (inner (brackets B) j))

    pub first_ranks : (j : ℕ) → j < rank 0 (part_b K s) (bits_b K (size_in s))
        → first (seen K (word_in s)) (bits_a (size_in s)) (j + 2)
        ≡ select (family_bit K) (part_a s) (bits_a (size_in s)) (select 0 (part_b K s) (bits_b K (size_in s)) j) + 1
    unfolding select rank
    first_ranks j l =
        let A = part_a s in
        let B = part_b K s in
        let k = bits_b K (size_in s) in
        let few : j < openings (brackets B) (count (is_bit (family_bit K) A) (bits_a (size_in s)))
        = rw (ranks, rank_openings B k) l in
        first_opening (seen K (word_in s)) (bits_a (size_in s)) nested j (rw (openings_ranks s K o) l)
        ∙ ap (λ x. x + 1)
        (thin_opening (is_bit (family_bit K) A) (seen K (word_in s)) (brackets B) (bits_a (size_in s)) (thins (bits_a (size_in s))) j few
        ∙ ap (λ n. nth (is_bit (family_bit K) A) (nth (λ q. is_opens (brackets B q)) j n) (bits_a (size_in s))) ranks
        ∙ ap (λ x. nth (is_bit (family_bit K) A) x (bits_a (size_in s))) (select_openings B k j))
