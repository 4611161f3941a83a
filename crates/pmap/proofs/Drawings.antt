-- Packing and unpacking: what is returned, and that nothing is cut.
--
-- string_most, bytes_small == a string has at most a bit for each letter, so that a map's length fits its cell
-- number_most    == packing has no refusal beyond 7
-- pack_lengths   == unless it is 1, the lists of the drawing fit
-- pack_number    == what packing says has the number of its refusal
-- length_small, pair_small, pack_small == the numbers in such a case fit: a length its cell, two borders their bits
-- returned_read  == what is returned for a case is read as its number and the numbers it carries
-- pack_returns   == what is returned, and left in the memory lent, is what the contract says
-- unpack_small, unpack_fits == m fits its cell
-- unpack_status  == what is returned is the number of unpacking's answer
-- Assumes nothing.
use mathlib.Core.Path.{◌≡◌, refl, sym, ap, ◌∙◌}
use mathlib.Core.Logic.{◌≢◌, inl, inr}
use mathlib.Core.Bool.{Bool, ◌&&◌}
use mathlib.Core.List.{List, [], ◌∷◌, ◌++◌}
use Prim.Native.Nat.{ℕ, ◌+◌, ◌*◌, ◌/◌, ◌%◌, ◌<◌, ◌≤◌, min, max}
use native.Mathlib.Omega.{arith}
use lib.Dec.{leb}
use lib.ListN.{length, get_or, length-append}
use Rattle.count.proofs.Counts.{count_le}
use Rattle.count.proofs.Lists.{table_length, gather_length}
use Rattle.count.proofs.Logic.{true_or_false}
use Rattle.answers.specs.Checks.{check}
use Rattle.answers.proofs.Steps.{stops_at, number_after, by_numbers, none_append, by_checks, answered_all, told_answered}
use Rattle.answers.specs.Answer.{Answer, answer, refused_with, refused, number_of, carried_by, value_of, told}
use Rattle.std.specs.Prelude.{Result, Ok, Err, IfOk}
use Rattle.answers.specs.declared.refusal.Refusal.{Refusal}
use Rattle.answers.specs.Means.{number, packed_means, unpacked_means}
use Rattle.answers.specs.Lent.{leaves, itself}
use Rattle.words.specs.declared.family.Family.{Family}
use Rattle.words.specs.declared.family.Family.TheVariants.{Round as round, Square as square}
use Rattle.words.specs.Word.{same_family, Word}
use Rattle.format.specs.Packs.{Packs, smaller_in, larger_in, PackReturns}
use Rattle.bits.specs.Strings.{bytes_for}
use Rattle.bits.specs.Letters.{family_bit, closing_bit}
use Rattle.drawing.specs.Drawing.{Drawing, borders, ends}
use Rattle.drawing.specs.Checks.{LengthsFit, lengths_fit, smaller_first, FirstCrossing}
use Rattle.drawing.proofs.Checks.{lengths_decides}
use Rattle.format.specs.Bytes.{size_in, word_in, string_a, string_b, bytes_of, map_bytes}
use Rattle.format.specs.Open.{open_checks, open_refusal}
use Rattle.format.specs.Pack.{word_of, packed_bytes, pack_checks, pack_refusal, pack_of, position_in, drawing_of, unpack_of}
use Rattle.format.proofs.Bits.{bytes_of_length}
use Rattle.format.proofs.Passes.{opens_passes}
use Rattle.format.proofs.Refusals.{pack_crosses}
use Rattle.packing.proofs.Outcomes.{declined}
use Rattle.giving.specs.Desk.{returned, Small}
use Rattle.giving.proofs.Room.{number_slot}
use Rattle.pmap.proofs.Given.{slot_same}

-- ---- the bytes of a drawing's map
string_most : (K : Family) (w : Word) → length (string_b K w) ≤ w.size
unfolding string_b
string_most K w =
    let P : ℕ → Bool = λ p. same_family K (w.letter p).family in
    omega (arith, gather_length P (λ p. closing_bit (w.letter p).closing) w.size, count_le P w.size)

bytes_small : (D : Drawing) → LengthsFit D → length (packed_bytes D) < 65536
unfolding packed_bytes map_bytes string_a word_of ends borders bytes_for
bytes_small D fit =
    let w : Word = word_of D in
    let A : List ℕ = bytes_of (string_a w) in
    let B : List ℕ = bytes_of (string_b round w) in
    let S : List ℕ = bytes_of (string_b square w) in
    omega (
      arith,
      fit.half,
      fit.most,
      length-append A (B ++ S),
      length-append B S,
      bytes_of_length (string_a w),
      bytes_of_length (string_b round w),
      bytes_of_length (string_b square w),
      table_length (λ p. family_bit (w.letter p).family) w.size,
      string_most round w,
      string_most square w,
    )

-- ---- what packing answers
number_length : (a : Answer (List ℕ)) → number_of (told length a) ≡ number_of a
unfolding number_of
number_length (answer s) = refl
number_length (refused_with k xs) = refl

carried_length : (a : Answer (List ℕ)) → carried_by (told length a) ≡ carried_by a
unfolding carried_by
carried_length (answer s) = refl
carried_length (refused_with k xs) = refl

-- the status and the two numbers above it, as they are read from the number that is returned
record Read (r : ℕ) (a : Answer ℕ) : Type 0 where
  low : r % 256 ≡ number_of a
  smaller : smaller_in r ≡ get_or (carried_by a) 0 0
  larger : larger_in r ≡ get_or (carried_by a) 1 0

read_bare : (r : ℕ) → r < 256 → Read r (refused r)
unfolding number_of carried_by
read_bare r l = record { low = omega arith; smaller = omega arith; larger = omega arith }

read_pair : (a b r : ℕ) → r ≡ 7 + 256 * a + 1048576 * b → a < 4096 → b < 4096 → Read r (refused_with 7 (a ∷ b ∷ []))
unfolding number_of carried_by
read_pair a b r h k l =
    let x : a ≡ smaller_in r = omega arith in
    let y : b ≡ larger_in r = omega arith in
    record { low = omega arith; smaller = sym x; larger = sym y }

module _ (D : Drawing) (w o : ℕ) where
  number_most : pack_refusal D w o ≤ 7
  unfolding pack_refusal
  number_most =
      by_numbers (λ k. k ≤ 7) (pack_checks D w o)
      (omega arith, (omega arith, (omega arith, (omega arith, (omega arith, (omega arith, (omega arith, omega arith)))))))

  pack_lengths : pack_refusal D w o ≢ 1 → LengthsFit D
  unfolding pack_refusal
  pack_lengths n =
      elim (true_or_false (lengths_fit D)) [
        | inl t ↦ (lengths_decides D).sound t
        | inr f ↦ absurd (n (sym (stops_at (pack_checks D w o) 0 tt f)))
      ]

  -- what packing says
  pack_number : (a : Answer ℕ) → a ≡ told length (pack_of D w o) → number_of a ≡ pack_refusal D w o
  unfolding pack_of pack_refusal
  pack_number a e = ap number_of e ∙ number_length (pack_of D w o) ∙ number_after (pack_checks D w o) (packed_bytes D)

  length_small : (l : ℕ) → answer l ≡ told length (pack_of D w o) → l < 65536
  unfolding pack_of number_of
  length_small l e =
      let n = pack_number (answer l) e in
      let t = told_answered length (pack_of D w o) l (sym e) in
      omega (
        arith,
        t.2,
        ap length (answered_all (pack_checks D w o) (packed_bytes D) t.0 t.1).1,
        bytes_small D (pack_lengths (λ one. omega arith)),
      )

  -- the two borders of a crossing are borders of the drawing
  pair_small : (a b : ℕ) → refused_with 7 (a ∷ b ∷ []) ≡ told length (pack_of D w o) → (a < 4096) × (b < 4096)
  unfolding borders
  pair_small a b e =
      let c = (pack_crosses D w o (a ∷ b ∷ [])).0 (declined 7 (a ∷ b ∷ []) (pack_of D w o) e) in
      let fit : LengthsFit D = c.1.lengths in
      let X : FirstCrossing D (a ∷ b ∷ []) = c.2 in
      let is : a ∷ b ∷ [] ≡ smaller_first X.a X.b = X.carried in
      let x : a ≡ min X.a X.b = cc in
      let y : b ≡ max X.a X.b = cc in
      let la = X.crossing.first_border in
      let lb = X.crossing.second_border in
      (omega (arith, fit.half, fit.most), omega (arith, fit.half, fit.most))

  small : (p : Result ℕ Refusal) → packed_means p ≡ told length (pack_of D w o) → Small p
  small (Ok l) e = length_small l e
  small (Err (Refusal.Crossing a b)) e = pair_small a b e
  small (Err k) e = tt

  returned_read : (p : Result ℕ Refusal) → packed_means p ≡ told length (pack_of D w o) → (r : ℕ) → r ≡ returned p → Read r (packed_means p)
  unfolding number_of carried_by
  returned_read (Ok x) e r h = record { low = omega arith; smaller = omega arith; larger = omega arith }
  returned_read (Err (Refusal.Crossing a b)) e r h = let s = pair_small a b e in read_pair a b r h s.0 s.1
  returned_read (Err k) e r h =
      let n = pack_number (refused (number k)) e in
      rw h (read_bare (number k) (omega (arith, number_most)))

module _ (D : Drawing) (work work' out out' : List ℕ) (p : Result ℕ Refusal) (P : Packs D work work' out out' (packed_means p)) where
  pub pack_small : Small p
  pack_small = small D (length work) (length out) p P.answers

  pub pack_returns : (l l' r : ℕ) → r ≡ returned p → l' ≡ leaves itself (packed_means p) l → PackReturns D work work' out out' l l' r
  pack_returns l l' r h g =
      let A = pack_of D (length work) (length out) in
      let R : Read r (packed_means p) = returned_read D (length work) (length out) p P.answers r h in
      let carried : carried_by (packed_means p) ≡ carried_by A = ap carried_by P.answers ∙ carried_length A in
      record {
        low = R.low ∙ ap number_of P.answers ∙ number_length A;
        smaller = R.smaller ∙ ap (λ xs. get_or xs 0 0) carried;
        larger = R.larger ∙ ap (λ xs. get_or xs 1 0) carried;
        length_given = slot_same l' l (packed_means p) (told length A) g P.answers;
        leaves = P.leaves;
      }

-- ---- unpacking
number_borders : (a : Answer Drawing) → number_of (told borders a) ≡ number_of a
unfolding number_of
number_borders (answer D) = refl
number_borders (refused_with k xs) = refl

module _ (s : List ℕ) (t k : ℕ) where
  pub unpack_small : (a : Answer ℕ) → a ≡ told borders (unpack_of s t k) → value_of a < 65536
  unfolding unpack_of open_refusal drawing_of word_in borders value_of
  unpack_small a e =
      rw e
      (by_checks (λ a. value_of (told borders a) < 65536)
      (open_checks s ++ (check 16 (leb (2 * (size_in s).m) t && leb (size_in s).m k) Unit ∷ [])) (answer (drawing_of (word_in s))) refl
      (λ q. let z = (none_append (open_checks s) (check 16 (leb (2 * (size_in s).m) t && leb (size_in s).m k) Unit ∷ []) refl q).0 in omega (arith, (opens_passes s z).m_most, table_length (λ e. family_bit ((word_in s).letter (position_in (word_in s) (2 * e))).family) ((word_in s).size / 2)))
      (λ j xs l. omega arith))

  pub unpack_fits : (r : Result ℕ Refusal) → unpacked_means r ≡ told borders (unpack_of s t k) → IfOk r (λ (x : ℕ). x < 65536)
  unpack_fits r e = number_slot r (unpack_small (unpacked_means r) e)

  pub unpack_status : (r : ℕ) (a : Answer ℕ) → r ≡ number_of a → a ≡ told borders (unpack_of s t k) → r ≡ number_of (unpack_of s t k)
  unpack_status r a h e = h ∙ ap number_of e ∙ number_borders (unpack_of s t k)
