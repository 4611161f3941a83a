-- The strings A, B and B* of a word: lengths, entries, and what they depend on.
--
-- in_family K w        == whether position p is of family K
-- families_all        == the positions of both families are all
-- string_a_length, string_a_at, string_a_bits == A has a bit for each position, the bit of its family
-- string_b_length, string_b_nth, string_b_at, string_b_bits == B and B* have a bit for each position of their family, whether it closes
-- string_a_same, string_b_same == words with the same letters have the same strings
-- Assumes nothing.
use mathlib.Core.Path.{◌≡◌, refl, ◌∙◌, ap}
use mathlib.Core.Bool.{Bool, true, false, not}
use Prim.Native.Nat.{ℕ, ◌+◌, ◌<◌}
use native.Mathlib.Omega.{arith}
use lib.ListN.{length, get_or}
use Rattle.count.specs.Below.{count, nth}
use Rattle.count.proofs.Below.{count_same, count_not, count_before, nth_of_count}
use Rattle.count.proofs.Lists.{table_same, gather_same, table_length, table_get_d, gather_length, gather_get_d}
use Rattle.words.specs.declared.family.Family.{Family}
use Rattle.words.specs.declared.family.Family.TheVariants.{Round as round, Square as square}
use Rattle.words.specs.Word.{same_family, Word}
use Rattle.bits.specs.Letters.{family_bit, closing_bit}
use Rattle.bits.proofs.Letters.{family_small}
use Rattle.format.specs.Bytes.{string_a, string_b}
use Rattle.format.proofs.Bits.{EachBelow, each_below}

family_other : (L : Family) → same_family square L ≡ not (same_family round L)
family_other round = refl
family_other square = refl

abbrev pub in_family : Family → Word → ℕ → Bool
in_family K w p = same_family K (w.letter p).family

pub families_all : (w : Word) (n : ℕ) → count (in_family round w) n + count (in_family square w) n ≡ n
families_all w n =
    ap (λ x. count (in_family round w) n + x)
    (count_same (in_family square w) (λ p. not (in_family round w p)) n (λ p l. family_other (w.letter p).family))
    ∙ count_not (in_family round w) n

closing_small : (t : Bool) → closing_bit t < 2
closing_small true = omega arith
closing_small false = omega arith

module _ (w : Word) where
  pub string_a_length : length (string_a w) ≡ w.size
  unfolding string_a
  string_a_length = table_length (λ p. family_bit (w.letter p).family) w.size

  pub string_a_at : (p : ℕ) → p < w.size → get_or (string_a w) p 0 ≡ family_bit (w.letter p).family
  unfolding string_a
  string_a_at p l = table_get_d (λ p. family_bit (w.letter p).family) w.size p 0 l

  pub string_a_bits : EachBelow 2 (string_a w)
  string_a_bits =
      each_below 2 (string_a w) (omega arith)
      (λ p l. rw (string_a_at p (omega (arith, string_a_length))) (family_small (w.letter p).family))

  pub string_b_length : (K : Family) → length (string_b K w) ≡ count (in_family K w) w.size
  unfolding string_b
  string_b_length K = gather_length (in_family K w) (λ p. closing_bit (w.letter p).closing) w.size

  pub string_b_nth : (K : Family) (j : ℕ) → j < count (in_family K w) w.size
      → get_or (string_b K w) j 0 ≡ closing_bit (w.letter (nth (in_family K w) j w.size)).closing
  unfolding string_b
  string_b_nth K j l = gather_get_d (in_family K w) (λ p. closing_bit (w.letter p).closing) w.size j 0 l

  pub string_b_at : (K : Family) (p : ℕ) → p < w.size → in_family K w p ≡ true
      → get_or (string_b K w) (count (in_family K w) p) 0 ≡ closing_bit (w.letter p).closing
  string_b_at K p l t =
      string_b_nth K (count (in_family K w) p) (count_before (in_family K w) p w.size l t)
      ∙ ap (λ x. closing_bit (w.letter x).closing) (nth_of_count (in_family K w) p w.size l t)

  pub string_b_bits : (K : Family) → EachBelow 2 (string_b K w)
  string_b_bits K =
      each_below 2 (string_b K w) (omega arith)
      (λ j l. rw (string_b_nth K j (omega (arith, string_b_length K))) (closing_small (w.letter (nth (in_family K w) j w.size)).closing))

module _ (v w : Word) (sizes : v.size ≡ w.size) (letters : (p : ℕ) → p < w.size → v.letter p ≡ w.letter p) where
  pub string_a_same : string_a v ≡ string_a w
  unfolding string_a
  string_a_same =
      rw sizes
      (table_same (λ p. family_bit (v.letter p).family) (λ p. family_bit (w.letter p).family) w.size (λ p l. rw (letters p l)))

  pub string_b_same : (K : Family) → string_b K v ≡ string_b K w
  unfolding string_b
  string_b_same K =
      rw sizes
      (gather_same (in_family K v) (in_family K w) (λ p. closing_bit (v.letter p).closing) (λ p. closing_bit (w.letter p).closing) w.size
      (λ p l. rw (letters p l)) (λ p l. rw (letters p l)))
