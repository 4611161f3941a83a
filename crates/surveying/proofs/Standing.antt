-- The pass goes over the strings where they stand in a map's bytes: its word and the word of the map agree.
--
-- areas_some      == a map has an area
-- letters_same    == the two words have the same letters
-- standing_asked, standing_opened == what the pass asks holds of a map that opens
-- mates_pass, numbers_pass == what it fills the lists with are the mates and the numbers of the map
-- mates_held, numbers_held == so each entry is
-- Assumes nothing.
use mathlib.Core.Path.{◌≡◌, refl, sym, ap, ◌∙◌}
use mathlib.Core.List.{List, [], ◌∷◌}
use Prim.Native.Nat.{ℕ, ◌+◌, ◌-◌, ◌*◌, ◌/◌, ◌%◌, ◌<◌, ◌≤◌}
use native.Mathlib.Omega.{arith}
use lib.Dec.{eqb}
use lib.ListN.{get_or, drop}
use lib.Seq.{get_or-take, get_or-drop}
use Rattle.count.proofs.Lists.{table_same}
use Rattle.answers.specs.Answer.{Kind}
use Rattle.answers.specs.Lent.{laid}
use Rattle.words.specs.Brackets.{number}
use Rattle.words.specs.declared.family.Family.{Family}
use Rattle.words.specs.declared.family.Family.TheVariants.{Round as round, Square as square}
use Rattle.words.specs.Word.{Letter, Word, seen, mate_in}
use Rattle.words.proofs.Same.{seen_same, mate_in_same, number_same, openings_same, balanced_same}
use Rattle.bits.specs.Strings.{bit, rank, bytes_for}
use Rattle.bits.specs.Letters.{family_of, family_bit, letter_in}
use Rattle.pairing.specs.Paired.{word_at, opened_in, Pairable, mates_of, numbers_of}
use Rattle.format.specs.Bytes.{size_in, areas_of, bits_a, bits_b, start_b, part_a, part_b, word_in}
use Rattle.format.specs.Open.{open_refusal}
use Rattle.format.proofs.Passes.{opens_passes}
use Rattle.format.proofs.Parts.{part_b_as}
use Rattle.format.proofs.Openings.{cells_numbers}
use Rattle.format.proofs.Ranks.{rank_index}
use Rattle.walking.proofs.Decoded.{nested, places_most}
use Rattle.surveying.specs.Surveyed.{mates_in, numbers_in, Mates, Numbers}
use Rattle.surveying.proofs.Laws.{mates_are, numbers_are}

-- where the strings of the families begin, in bits
abbrev starts : List ℕ → List ℕ
starts s = 8 * start_b square (size_in s) ∷ 8 * start_b round (size_in s) ∷ []

start_at : (s : List ℕ) (K : Family) → get_or (starts s) (family_bit K) 0 ≡ 8 * start_b K (size_in s)
start_at s round = refl
start_at s square = refl

module _ (s : List ℕ) (o : open_refusal s ≡ 0) where
  pub areas_some : (k : ℕ) → k ≡ areas_of (size_in s) → 1 ≤ k
  areas_some k e = omega (arith, (opens_passes s o).n_most)

  start_few : (K : Family) → start_b K (size_in s) ≤ 2000
  unfolding start_b bytes_for
  start_few round = omega (arith, (opens_passes s o).m_most)
  start_few square = omega (arith, (opens_passes s o).m_most, (opens_passes s o).n_most)

  -- a byte of the family's string and a bit of it, where they stand in the map's bytes
  byte_at : (K : Family) (i : ℕ) → i < bytes_for (bits_b K (size_in s)) → get_or (part_b K s) i 0 ≡ get_or s (start_b K (size_in s) + i) 0
  byte_at K i h =
      let a : ℕ = start_b K (size_in s) in
      ap (λ t. get_or t i 0) (part_b_as K s) ∙ get_or-take (bytes_for (bits_b K (size_in s))) (drop a s) i 0 h ∙ get_or-drop a s i 0

  bit_at : (K : Family) (j : ℕ) → j < bits_b K (size_in s) → bit s (8 * start_b K (size_in s) + j) ≡ bit (part_b K s) j
  unfolding bit bytes_for
  bit_at K j h =
      let e : (8 * start_b K (size_in s) + j) / 8 ≡ start_b K (size_in s) + j / 8 = omega arith in
      let f : (8 * start_b K (size_in s) + j) % 8 ≡ j % 8 = omega arith in
      rw (e, f, byte_at K (j / 8) (omega arith))

  abbrev passed : ℕ → Letter
  passed = letter_in (part_a s) (λ K j. bit s (get_or (starts s) (family_bit K) 0 + j))

  abbrev held : ℕ → Letter
  held = letter_in (part_a s) (λ K. bit (part_b K s))

  letters_same : (p : ℕ) → p < bits_a (size_in s) → passed p ≡ held p
  unfolding word_in
  letters_same p l =
      let K : Family = family_of (bit (part_a s) p) in
      let j : ℕ = rank (family_bit K) (part_a s) p in
      let e : bit s (get_or (starts s) (family_bit K) 0 + j) ≡ bit (part_b K s) j
      = ap (λ x. bit s (x + j)) (start_at s K) ∙ bit_at K j (rank_index s K o p l refl) in
      ap (λ v. record { family = K; closing = eqb v 1 }) e

  seen_alike : (K : Family) (p : ℕ) → p < bits_a (size_in s) → seen K (word_in s) p ≡ seen K (word_at (part_a s) (bits_a (size_in s)) s (starts s)) p
  unfolding word_at word_in
  seen_alike K p l = sym (seen_same (bits_a (size_in s)) passed held letters_same K p l)

  asked : Pairable (word_at (part_a s) (bits_a (size_in s)) s (starts s)) (starts s)
  unfolding word_at
  asked =
      record {
        few = places_most s o;
        nested = λ K.
            balanced_same (seen K (word_in s)) (seen K (word_at (part_a s) (bits_a (size_in s)) s (starts s))) (bits_a (size_in s)) (seen_alike K) (nested s K o);
        fits = λ K. omega (arith, start_at s K, start_few K, places_most s o);
      }

  opened : areas_of (size_in s) - 1 ≡ opened_in square (word_at (part_a s) (bits_a (size_in s)) s (starts s))
  unfolding word_at
  opened =
      let n : ℕ = bits_a (size_in s) in
      omega (
        arith,
        cells_numbers s Kind.area o,
        openings_same (seen square (word_in s)) (seen square (word_at (part_a s) n s (starts s))) n (seen_alike square) n (omega arith),
      )

  mates_alike : mates_of (word_at (part_a s) (bits_a (size_in s)) s (starts s)) ≡ mates_in s
  unfolding mates_of mates_in word_at word_in
  mates_alike =
      let n : ℕ = bits_a (size_in s) in
      table_same (mate_in (word_at (part_a s) n s (starts s))) (mate_in (word_in s)) n (mate_in_same n passed held letters_same)

  numbers_alike : (K : Family) → numbers_of K (word_at (part_a s) (bits_a (size_in s)) s (starts s)) ≡ numbers_in K s
  unfolding numbers_of numbers_in word_at
  numbers_alike K =
      let n : ℕ = bits_a (size_in s) in
      let w : Word = word_at (part_a s) n s (starts s) in
      table_same (number (seen K w)) (number (seen K (word_in s))) n
      (λ p l. sym (number_same (seen K (word_in s)) (seen K w) n (seen_alike K) p (omega arith)))

-- ---- as the code has them
module _ (s a : List ℕ) (n c b : ℕ) (o : open_refusal s ≡ 0) (ha : a ≡ part_a s) (hn : n ≡ bits_a (size_in s)) (hc : c ≡ start_b square (size_in s))
    (hb : b ≡ start_b round (size_in s)) where
  pub standing_asked : Pairable (word_at a n s (8 * c ∷ 8 * b ∷ [])) (8 * c ∷ 8 * b ∷ [])
  standing_asked = rw (ha, hn, hc, hb) (asked s o)

  pub standing_opened : (k : ℕ) → k ≡ areas_of (size_in s) → k - 1 ≡ opened_in square (word_at a n s (8 * c ∷ 8 * b ∷ []))
  standing_opened k hk = rw (hk, ha, hn, hc, hb) (opened s o)

  module _ (l old : List ℕ) where
    pub mates_pass : l ≡ laid (mates_of (word_at a n s (8 * c ∷ 8 * b ∷ []))) old → l ≡ laid (mates_in s) old
    mates_pass e =
        let f : mates_of (word_at a n s (8 * c ∷ 8 * b ∷ [])) ≡ mates_in s = rw (ha, hn, hc, hb) (mates_alike s o) in
        e ∙ ap (λ x. laid x old) f

    pub numbers_pass : (K : Family) → l ≡ laid (numbers_of K (word_at a n s (8 * c ∷ 8 * b ∷ []))) old → l ≡ laid (numbers_in K s) old
    numbers_pass K e =
        let f : numbers_of K (word_at a n s (8 * c ∷ 8 * b ∷ [])) ≡ numbers_in K s = rw (ha, hn, hc, hb) (numbers_alike s o K) in
        e ∙ ap (λ x. laid x old) f

    pub mates_held : l ≡ laid (mates_of (word_at a n s (8 * c ∷ 8 * b ∷ []))) old → Mates s l
    mates_held e = mates_are s l old (mates_pass e)

    pub numbers_held : (K : Family) → l ≡ laid (numbers_of K (word_at a n s (8 * c ∷ 8 * b ∷ []))) old → Numbers K s l
    numbers_held K e = numbers_are s l old K (numbers_pass K e)
