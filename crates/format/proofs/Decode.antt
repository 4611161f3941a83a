-- The word that bytes hold: families, strings and brackets, and that bytes which pass opening's checks are its bytes.
--
-- family_tests      == the test of a position's family is a test of its bit in A
-- family_in, closing_in == a position's family by A, and whether it closes by the family's string at the rank in A
-- rank_counts       == how many letters of a family lie before a position: a rank in A
-- word_thins        == B and B* are what is left of the word when the other family's letters are taken out
-- rank_all          == A has as many bits of each family as that family's string has
-- passes_nested, passes_fits, passes_encode == the word is balanced, fits m and n, and has these bytes
-- opens_encode      == bytes that open are the bytes of the word in them, and it fits
-- Assumes nothing.
use mathlib.Core.Path.{◌≡◌, refl, sym, ◌∙◌, ap, subst}
use mathlib.Core.List.{List}
use Prim.Native.Nat.{ℕ, ◌<◌}
use native.Mathlib.Omega.{arith}
use lib.ListN.{length, get_or}
use lib.Dec.{eqb}
use lib.Seq.{ext_get_or}
use Rattle.count.specs.Below.{count, nth, table}
use Rattle.count.proofs.Below.{count_same, nth_below, nth_count, nth_has}
use Rattle.count.proofs.Lists.{table_same, table_length, table_get_d}
use Rattle.words.specs.Brackets.{Balanced}
use Rattle.words.specs.declared.family.Family.{Family}
use Rattle.words.specs.declared.family.Family.TheVariants.{Round as round, Square as square}
use Rattle.words.specs.Word.{seen}
use Rattle.words.proofs.Thin.{Thins, thin_balanced}
use Rattle.bits.specs.Strings.{bit, is_bit, rank, brackets}
use Rattle.bits.specs.Letters.{family_of, family_bit, closing_bit}
use Rattle.bits.proofs.Laws.{bit_below_2}
use Rattle.bits.proofs.Letters.{family_is, bit_back, closed_back, spelled_tests, spelled_family, spelled_closing, spelled_other, spelled_own}
use Rattle.format.specs.Bytes.{size_in, bits_a, bits_b, part_a, part_b, word_in}
use Rattle.format.specs.Bytes.{string_a, string_b, bytes_of, map_bytes}
use Rattle.format.specs.Open.{open_refusal}
use Rattle.format.proofs.Bits.{EachBelow, bytes_are}
use Rattle.format.proofs.Strings.{in_family, families_all}
use Rattle.format.proofs.Strings.{string_b_length, string_b_nth}
use Rattle.format.proofs.Parts.{part_a_length, part_b_length, part_a_small, part_b_small, parts_are}
use Rattle.format.specs.Fits.{Fits}
use Rattle.format.proofs.Passes.{Passes, opens_passes}

module _ (s : List ℕ) where
  pub family_tests : (K : Family) (p : ℕ) → in_family K (word_in s) p ≡ is_bit (family_bit K) (part_a s) p
  unfolding word_in
  family_tests K p = spelled_tests (part_a s) (λ L. bit (part_b L s)) (bits_a (size_in s)) K p

  pub family_in : (K : Family) (p : ℕ) → bit (part_a s) p ≡ family_bit K → ((word_in s).letter p).family ≡ K
  unfolding word_in
  family_in K p e = spelled_family (part_a s) (λ L. bit (part_b L s)) (bits_a (size_in s)) K p e

  pub closing_in : (K : Family) (p : ℕ) → ((word_in s).letter p).family ≡ K
      → ((word_in s).letter p).closing ≡ eqb (bit (part_b K s) (rank (family_bit K) (part_a s) p)) 1
  unfolding word_in
  closing_in K p e = spelled_closing (part_a s) (λ L. bit (part_b L s)) (bits_a (size_in s)) K p e

  pub rank_counts : (K : Family) (p : ℕ) → count (in_family K (word_in s)) p ≡ rank (family_bit K) (part_a s) p
  unfolding rank
  rank_counts K p = count_same (in_family K (word_in s)) (is_bit (family_bit K) (part_a s)) p (λ x l. family_tests K x)

  pub word_thins : (K : Family) (n : ℕ) → Thins (is_bit (family_bit K) (part_a s)) (seen K (word_in s)) (brackets (part_b K s)) n
  unfolding word_in brackets rank
  word_thins K n =
      record {
        outside = λ p l f. spelled_other (part_a s) (λ L. bit (part_b L s)) (bits_a (size_in s)) K p f;
        inside = λ p l t.
            spelled_own (part_a s) (λ L. bit (part_b L s)) (bits_a (size_in s)) K p t
            (bit_below_2 (part_b K s) (rank (family_bit K) (part_a s) p));
      }

module _ (s : List ℕ) (Q : Passes s) where
  pub rank_all : (K : Family) → rank (family_bit K) (part_a s) (bits_a (size_in s)) ≡ bits_b K (size_in s)
  rank_all round = Q.ones
  rank_all square =
      let z = size_in s in
      omega (arith, families_all (word_in s) (bits_a z), rank_counts s round (bits_a z), rank_counts s square (bits_a z), Q.ones, Q.n_least, Q.n_most)

  pub passes_nested : (K : Family) → Balanced (seen K (word_in s)) (bits_a (size_in s))
  unfolding rank
  passes_nested K =
      let n = bits_a (size_in s) in
      (thin_balanced (is_bit (family_bit K) (part_a s)) (seen K (word_in s)) (brackets (part_b K s)) n (word_thins s K n)).1
      (subst (Balanced (brackets (part_b K s))) (sym (rank_all K)) (Q.nested K))

  pub passes_fits : Fits (size_in s) (word_in s)
  unfolding word_in
  passes_fits =
      record {
        m_most = Q.m_most;
        n_least = Q.n_least;
        n_most = Q.n_most;
        size = refl;
        rounds = rank_counts s round (bits_a (size_in s)) ∙ Q.ones;
        nested = passes_nested;
      }

  string_a_in : string_a (word_in s) ≡ table (bit (part_a s)) (bits_a (size_in s))
  unfolding string_a word_in
  string_a_in =
      table_same (λ p. family_bit (family_of (bit (part_a s) p))) (bit (part_a s)) (bits_a (size_in s))
      (λ p l. bit_back (bit (part_a s) p) (bit_below_2 (part_a s) p))

  word_b_length : (K : Family) → length (string_b K (word_in s)) ≡ count (in_family K (word_in s)) (bits_a (size_in s))
  unfolding word_in
  word_b_length K = string_b_length (word_in s) K

  word_b_nth : (K : Family) (j : ℕ) → j < count (in_family K (word_in s)) (bits_a (size_in s))
      → get_or (string_b K (word_in s)) j 0 ≡ closing_bit ((word_in s).letter (nth (in_family K (word_in s)) j (bits_a (size_in s)))).closing
  unfolding word_in
  word_b_nth K j l = string_b_nth (word_in s) K j l

  string_b_in : (K : Family) → string_b K (word_in s) ≡ table (bit (part_b K s)) (bits_b K (size_in s))
  string_b_in K =
      let w = word_in s in
      let n = bits_a (size_in s) in
      let P = in_family K w in
      let e : count P n ≡ bits_b K (size_in s) = rank_counts s K n ∙ rank_all K in
      let a : length (string_b K w) ≡ count P n = word_b_length K in
      let b = table_length (bit (part_b K s)) (bits_b K (size_in s)) in
      ext_get_or 0 (string_b K w) (table (bit (part_b K s)) (bits_b K (size_in s))) (omega arith)
      (λ j l.
      let p = nth P j n in
      let k : p < n = nth_below P j n (omega arith) in
      word_b_nth K j (omega arith)
      ∙ ap closing_bit (closing_in s K p (family_is K (w.letter p).family (nth_has P j n k)))
      ∙ closed_back (bit (part_b K s) (rank (family_bit K) (part_a s) p)) (bit_below_2 (part_b K s) (rank (family_bit K) (part_a s) p))
      ∙ ap (bit (part_b K s)) (sym (rank_counts s K p) ∙ nth_count P j n k)
      ∙ sym (table_get_d (bit (part_b K s)) (bits_b K (size_in s)) j 0 (omega arith)))

  pub passes_encode : EachBelow 256 s → s ≡ map_bytes (size_in s) (word_in s)
  unfolding map_bytes
  passes_encode h =
      let z = size_in s in
      let a : bytes_of (string_a (word_in s)) ≡ part_a s
      = ap bytes_of string_a_in ∙ sym (bytes_are (part_a s) (bits_a z) (part_a_small s h) (part_a_length s Q.long) Q.unused_a) in
      let b : (K : Family) → bytes_of (string_b K (word_in s)) ≡ part_b K s
      = λ K. ap bytes_of (string_b_in K) ∙ sym (bytes_are (part_b K s) (bits_b K z) (part_b_small K s h) (part_b_length s Q.long K) (Q.unused_b K)) in
      rw (a, b round, b square) (parts_are s Q.long h Q.written)

pub opens_encode : (s : List ℕ) → EachBelow 256 s → open_refusal s ≡ 0
    → Fits (size_in s) (word_in s) × (s ≡ map_bytes (size_in s) (word_in s))
opens_encode s h e = let Q = opens_passes s e in (passes_fits s Q, passes_encode s Q h)
