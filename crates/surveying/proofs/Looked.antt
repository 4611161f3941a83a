-- What is looked up in the mates of a map.
--
-- cross_in, cross_in_at == the entry is the crossing, and a position
-- number_in      == so with numbers
-- mate_in_entry  == in its own family it is the partner
-- Assumes nothing.
use mathlib.Core.Path.{◌≡◌, ◌∙◌}
use mathlib.Core.List.{List}
use Prim.Native.Nat.{ℕ, ◌<◌}
use native.Mathlib.Omega.{arith}
use lib.ListN.{length, get_or}
use Rattle.words.specs.Brackets.{mate, number}
use Rattle.words.specs.declared.family.Family.{Family}
use Rattle.words.specs.Word.{seen, mate_in}
use Rattle.words.proofs.Mate.{mate_below}
use Rattle.bits.specs.Strings.{bit}
use Rattle.bits.specs.Letters.{family_bit}
use Rattle.format.specs.Bytes.{size_in, bits_a, part_a, word_in}
use Rattle.walking.specs.Positions.{Position}
use Rattle.walking.proofs.Decoded.{places_most, nested}
use Rattle.walking.proofs.Walks.{mate_crossed}
use Rattle.surveying.specs.Surveyed.{Mates, Numbers}

module _ (s : List ℕ) (p : ℕ) (P : Position s p) where
  pub cross_in : (l : List ℕ) (r : ℕ) → Mates s l → p < length l → r ≡ get_or l p 0 → r ≡ mate_in (word_in s) p
  cross_in l r M i e = e ∙ M.at p P.below i

  pub cross_in_at : (l : List ℕ) (r : ℕ) → Mates s l → p < length l → r ≡ get_or l p 0 → Position s r
  unfolding mate_in word_in
  cross_in_at l r M i e =
      let K : Family = ((word_in s).letter p).family in
      let b = mate_below (seen K (word_in s)) (bits_a (size_in s)) (nested s K P.opens) p P.below in
      let h : r ≡ mate (seen K (word_in s)) (bits_a (size_in s)) p = cross_in l r M i e in
      record { opens = P.opens; below = omega arith; few = omega (arith, places_most s P.opens) }

  pub number_in : (K : Family) (l : List ℕ) (r : ℕ) → Numbers K s l → p < length l → r ≡ get_or l p 0 → r ≡ number (seen K (word_in s)) p
  number_in K l r N i e = e ∙ N.at p P.below i

pub mate_in_entry : (s : List ℕ) (K : Family) (p : ℕ) (a l : List ℕ) (v x r : ℕ) → Position s p → Mates s l → p < length l → a ≡ part_a s → x ≡ bit a p
    → v ≡ family_bit K → x ≡ v → r ≡ get_or l p 0 → r ≡ mate (seen K (word_in s)) (bits_a (size_in s)) p
mate_in_entry s K p a l v x r P M i ha hx hv e h = mate_crossed s K p a v x r ha hx hv e (cross_in s p P l r M i h)
