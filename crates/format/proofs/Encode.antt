-- A word written as bytes: the bytes hold the word, and they open.
--
-- fits_family       == how many letters of each family a word that fits has
-- fits_lengths      == its strings are as long as m and n say
-- string_thins      == B and B* are what is left of the word when the other family's letters are taken out
-- decode_encode     == the word in a map's bytes is the word that was written
-- encode_passes, encode_opens == the bytes of a word that fits pass opening's checks
-- map_bytes_same    == the bytes depend only on the letters
-- map_bytes_small   == they are bytes
-- Assumes nothing.
use mathlib.Core.Path.{◌≡◌, sym, ◌∙◌, ap, fun_ext}
use mathlib.Core.Bool.{Bool, true}
use mathlib.Core.List.{List, [], ◌∷◌, ◌++◌}
use Prim.Native.Nat.{ℕ, zero, suc, ◌<◌, ◌≤◌}
use native.Mathlib.Omega.{arith}
use lib.Dec.{eqb}
use Rattle.count.specs.Below.{pick, count}
use Rattle.count.proofs.Logic.{pick_yes, pick_no}
use Rattle.count.proofs.Below.{count_same}
use Rattle.answers.specs.declared.given.Size.{Size}
use Rattle.words.specs.Brackets.{opens, closes, neither}
use Rattle.words.specs.declared.family.Family.{Family}
use Rattle.words.specs.declared.family.Family.TheVariants.{Round as round, Square as square}
use Rattle.words.specs.Word.{Letter, Word, seen}
use Rattle.words.proofs.Thin.{Thins, thin_balanced}
use Rattle.bits.specs.Strings.{bit, is_bit, rank, brackets}
use Rattle.bits.specs.Letters.{family_of, family_bit, closing_bit, letter_in}
use Rattle.bits.proofs.Letters.{family_same, family_back, family_itself, closing_back, closing_bracket}
use Rattle.format.specs.Bytes.{le16, areas_of, header_of, size_in, bits_a, bits_b, part_b, word_in}
use Rattle.format.specs.Bytes.{string_a, string_b, bytes_of, map_bytes, map_length, start_b}
use Rattle.format.specs.Open.{open_refusal}
use Rattle.format.proofs.Bits.{EachBelow, bytes_of_bit, bytes_of_unused, bytes_of_small}
use Rattle.format.proofs.Strings.{in_family, families_all}
use Rattle.format.proofs.Strings.{string_a_length, string_a_at, string_a_bits, string_b_length, string_b_at, string_b_bits, string_a_same, string_b_same}
use Rattle.format.proofs.Parts.{Lengths, size_of_bytes, areas_of_bytes, map_length_lem, part_a_is, part_b_is}
use Rattle.format.specs.Fits.{Fits}
use Rattle.format.proofs.Passes.{Passes, passes_opens}

-- the bytes of A, B and B* of a word read as it is
module _ (w : Word) where
  a_reads : (p : ℕ) → p < w.size → bit (bytes_of (string_a w)) p ≡ family_bit (w.letter p).family
  a_reads p l = bytes_of_bit (string_a w) (string_a_bits w) p ∙ string_a_at w p l

  rank_reads : (K : Family) (p : ℕ) → p ≤ w.size → rank (family_bit K) (bytes_of (string_a w)) p ≡ count (in_family K w) p
  unfolding rank
  rank_reads K p l =
      count_same (is_bit (family_bit K) (bytes_of (string_a w))) (in_family K w) p
      (λ x k. ap (λ v. eqb v (family_bit K)) (a_reads x (omega arith)) ∙ sym (family_same K (w.letter x).family))

  b_reads : (K : Family) (p : ℕ) → p < w.size → in_family K w p ≡ true
      → bit (bytes_of (string_b K w)) (count (in_family K w) p) ≡ closing_bit (w.letter p).closing
  b_reads K p l t = bytes_of_bit (string_b K w) (string_b_bits w K) (count (in_family K w) p) ∙ string_b_at w K p l t

  letter_reads : (p : ℕ) → p < w.size → letter_in (bytes_of (string_a w)) (λ K. bit (bytes_of (string_b K w))) p ≡ w.letter p
  letter_reads p l =
      let K = (w.letter p).family in
      let A = bytes_of (string_a w) in
      let k : family_of (bit A p) ≡ K = ap family_of (a_reads p l) ∙ family_back K in
      let c : eqb (bit (bytes_of (string_b K w)) (rank (family_bit K) A p)) 1 ≡ (w.letter p).closing
      = ap (λ j. eqb (bit (bytes_of (string_b K w)) j) 1) (rank_reads K p (omega arith))
      ∙ ap (λ v. eqb v 1) (b_reads K p l (family_itself K)) ∙ closing_back (w.letter p).closing in
      let f : Family → Letter = λ L. record { family = L; closing = eqb (bit (bytes_of (string_b L w)) (rank (family_bit L) A p)) 1 } in
      let g : Bool → Letter = λ t. record { family = K; closing = t } in
      ap f k ∙ ap g c

  pub string_thins : (K : Family) → Thins (in_family K w) (seen K w) (brackets (bytes_of (string_b K w))) w.size
  unfolding seen brackets
  string_thins K =
      record {
        outside = λ p l f. pick_no (in_family K w p) (pick (w.letter p).closing closes opens) neither f;
        inside = λ p l t.
            pick_yes (in_family K w p) (pick (w.letter p).closing closes opens) neither t
            ∙ closing_bracket (w.letter p).closing
            ∙ ap (λ v. pick (eqb v 0) opens closes) (sym (b_reads K p l t));
      }

module _ (z : Size) (w : Word) (F : Fits z w) where
  pub fits_family : (K : Family) → count (in_family K w) w.size ≡ bits_b K z
  fits_family round = F.rounds
  fits_family square = omega (arith, families_all w w.size, F.rounds, F.size, F.n_least, F.n_most)

  pub fits_lengths : Lengths z w
  fits_lengths = record {
    m_small = omega arith;
    n_small = omega arith;
    a = string_a_length w ∙ F.size;
    b = λ K. string_b_length w K ∙ fits_family K;
  }

  fits_sized : size_in (map_bytes z w) ≡ z
  fits_sized = size_of_bytes z w fits_lengths.m_small fits_lengths.n_small

  pub decode_encode : ((word_in (map_bytes z w)).size ≡ w.size) × ((p : ℕ) → p < w.size → (word_in (map_bytes z w)).letter p ≡ w.letter p)
  unfolding word_in
  decode_encode = (
    ap bits_a fits_sized ∙ sym F.size,
    λ p l.
        ap (λ A. letter_in A (λ K. bit (part_b K (map_bytes z w))) p) (part_a_is z w fits_lengths)
        ∙ ap (λ B. letter_in (bytes_of (string_a w)) (λ K. bit (B K)) p) (fun_ext (part_b_is z w fits_lengths))
        ∙ letter_reads w p l,
  )

  pub encode_passes : Passes (map_bytes z w)
  unfolding map_length start_b
  encode_passes =
      let L = fits_lengths in
      record {
        header_fits = omega (arith, map_length_lem z w L);
        m_most = rw fits_sized F.m_most;
        n_least = rw fits_sized F.n_least;
        n_most = rw fits_sized F.n_most;
        written = rw fits_sized (areas_of_bytes z w (omega (arith, F.m_most, F.n_least)));
        long = rw fits_sized (map_length_lem z w L);
        unused_a = rw (part_a_is z w L, fits_sized, ← L.a) (bytes_of_unused (string_a w) (string_a_bits w));
        unused_b = λ K. rw (part_b_is z w L K, fits_sized, ← L.b K) (bytes_of_unused (string_b K w) (string_b_bits w K));
        ones = rw (part_a_is z w L, fits_sized, ← F.size) (rank_reads w round w.size (omega arith) ∙ F.rounds);
        nested = λ K.
            rw (part_b_is z w L K, fits_sized, ← fits_family K)
            ((thin_balanced (in_family K w) (seen K w) (brackets (bytes_of (string_b K w))) w.size (string_thins w K)).0 (F.nested K));
      }

  pub encode_opens : open_refusal (map_bytes z w) ≡ 0
  encode_opens = passes_opens (map_bytes z w) encode_passes

each_append : (k : ℕ) (s t : List ℕ) → EachBelow k s → EachBelow k t → EachBelow k (s ++ t)
each_append k [] t h g i = g i
each_append k (x ∷ s) t h g zero = h 0
each_append k (x ∷ s) t h g (suc i) = each_append k s t (λ j. h (suc j)) g i

le16_small : (x : ℕ) → EachBelow 256 (le16 x)
le16_small x zero = omega arith
le16_small x (suc zero) = omega arith
le16_small x (suc (suc i)) = omega arith

header_small : (z : Size) → EachBelow 256 (header_of z)
header_small z =
    each_append 256 (le16 z.m) (le16 z.n ++ le16 (areas_of z)) (le16_small z.m)
    (each_append 256 (le16 z.n) (le16 (areas_of z)) (le16_small z.n) (le16_small (areas_of z)))

pub map_bytes_small : (z : Size) (w : Word) → EachBelow 256 (map_bytes z w)
unfolding map_bytes
map_bytes_small z w =
    let a = bytes_of_small (string_a w) (string_a_bits w) in
    let b : (K : Family) → EachBelow 256 (bytes_of (string_b K w)) = λ K. bytes_of_small (string_b K w) (string_b_bits w K) in
    let A = bytes_of (string_a w) in
    let B = bytes_of (string_b round w) in
    let S = bytes_of (string_b square w) in
    each_append 256 (header_of z) (A ++ (B ++ S)) (header_small z) (each_append 256 A (B ++ S) a (each_append 256 B S (b round) (b square)))

pub map_bytes_same : (z : Size) (v w : Word) → v.size ≡ w.size → ((p : ℕ) → p < w.size → v.letter p ≡ w.letter p)
    → map_bytes z v ≡ map_bytes z w
unfolding map_bytes
map_bytes_same z v w e same = rw (string_a_same v w e same, string_b_same v w e same round, string_b_same v w e same square)
