-- What bytes hold: zeros, and the bits of a string.
--
-- headed_is        == three numbers of two bytes each are the header
-- laid_length, laid_after == it changes no length, and no byte after it
-- blank_holds      == zeroed bytes hold no bits yet
-- holds_more       == one bit more
-- holds_beside     == what is held stays where a bit of another byte is set
-- holds_kept       == what is held stays where other bytes change
-- holds_part       == bytes that hold all bits are the bytes of the bits
-- set_elsewhere    == setting a bit changes no other byte
-- Assumes nothing.
use mathlib.Core.Path.{◌≡◌, refl, sym, ap, ◌∙◌}
use mathlib.Core.Logic.{◌≢◌, inl, inr}
use mathlib.Core.Bool.{Bool}
use mathlib.Core.List.{List, [], ◌∷◌}
use Prim.Native.Nat.{ℕ, ◌+◌, ◌-◌, ◌*◌, ◌/◌, ◌%◌, ◌^◌, ◌<◌, ◌≤◌}
use native.Mathlib.Nat.{zero-div}
use native.Mathlib.Omega.{arith}
use lib.ListN.{length, get_or, take, drop, length-take, length-drop, get_or-eq_default}
use lib.Seq.{get_or-set_other, get_or-append-add, get_or-take, get_or-drop}
use Rattle.count.specs.Below.{pick}
use Rattle.count.proofs.Logic.{same_or_not, lt_or_ge}
use Rattle.answers.specs.Lent.{laid}
use Rattle.answers.specs.declared.given.Size.{Size}
use Rattle.bits.specs.Strings.{bit, bytes_for}
use Rattle.bits.specs.Writes.{with_bit, set_bit}
use Rattle.bits.proofs.Laws.{bit_past}
use Rattle.bits.proofs.Stores.{set_bit_length, set_bit_here, set_bit_other, set_bit_small}
use Rattle.format.specs.Bytes.{header, at_m, at_n, at_areas, areas_of, header_of, bytes_of}
use Rattle.format.proofs.Bits.{EachBelow, each_below, bytes_of_length, bytes_of_bit, bytes_of_small, bytes_same}
use Rattle.lettering.specs.Lettering.{Holds, with_two}

-- ---- write_header
-- six bytes, one pair after another
six_first : (z : Size) (s : List ℕ) → header ≤ length s
    → with_two (with_two (with_two s at_m z.m) at_n z.n) at_areas (areas_of z) ≡ laid (header_of z) s
unfolding with_two
six_first z [] l = absurd (omega arith)
six_first z (a ∷ []) l = absurd (omega arith)
six_first z (a ∷ b ∷ []) l = absurd (omega arith)
six_first z (a ∷ b ∷ c ∷ []) l = absurd (omega arith)
six_first z (a ∷ b ∷ c ∷ d ∷ []) l = absurd (omega arith)
six_first z (a ∷ b ∷ c ∷ d ∷ e ∷ []) l = absurd (omega arith)
six_first z (a ∷ b ∷ c ∷ d ∷ e ∷ f ∷ s) l = refl

pub headed_is : (m n : ℕ) (s t u v : List ℕ) → header ≤ length s → t ≡ with_two s at_m m → u ≡ with_two t at_n n → v ≡ with_two u at_areas (m + 2 - n)
    → v ≡ laid (header_of (record { m = m; n = n })) s
headed_is m n s t u v l p q r =
    r ∙ ap (λ x. with_two x at_areas (m + 2 - n)) (q ∙ ap (λ x. with_two x at_n n) p) ∙ six_first (record { m = m; n = n }) s l

pub laid_length : (z : Size) (s : List ℕ) → header ≤ length s → length (laid (header_of z) s) ≡ length s
laid_length z s l = omega (arith, length-drop header s)

pub laid_after : (z : Size) (s : List ℕ) (i : ℕ) → header ≤ i → get_or (laid (header_of z) s) i 0 ≡ get_or s i 0
laid_after z s i l =
    let e : header + (i - header) ≡ i = omega arith in
    ap (λ x. get_or (laid (header_of z) s) x 0) (sym e)
    ∙ get_or-append-add (header_of z) (drop header s) (i - header) 0
    ∙ get_or-drop header s (i - header) 0
    ∙ ap (λ x. get_or s x 0) e

-- ---- what bytes hold
-- bit j of the bytes from `at` on is in this byte, at this place
bit_there : (s : List ℕ) (at j : ℕ) → bit s (8 * at + j) ≡ get_or s (at + j / 8) 0 / 2 ^ (j % 8) % 2
unfolding bit
bit_there s at j =
    let a : (8 * at + j) / 8 ≡ at + j / 8 = omega arith in
    let b : (8 * at + j) % 8 ≡ j % 8 = omega arith in
    rw (a, b)

bit_zero : (s : List ℕ) (at j : ℕ) → get_or s (at + j / 8) 0 ≡ 0 → bit s (8 * at + j) ≡ 0
bit_zero s at j z = bit_there s at j ∙ ap (λ x. x / 2 ^ (j % 8) % 2) z ∙ ap (λ x. x % 2) (zero-div (2 ^ (j % 8)))

pub blank_holds : (s : List ℕ) (at : ℕ) (bits : List ℕ) → at + bytes_for (length bits) ≤ length s
    → ((i : ℕ) → at ≤ i → i < at + bytes_for (length bits) → get_or s i 0 ≡ 0) → Holds s at bits 0
blank_holds s at bits r z =
    record {
      room = r;
      within = omega arith;
      on = λ j h. absurd (omega arith);
      off = λ j h k. bit_zero s at j (z (at + j / 8) (omega arith) (omega arith));
      small = λ i h k. omega (arith, z i h k);
    }

pub bits_room : (bits : List ℕ) (k : ℕ) → k < length bits → k < 8 * bytes_for (length bits)
unfolding bytes_for
bits_room bits k l = omega arith

pub set_elsewhere : (s : List ℕ) (i : ℕ) (v : Bool) (j : ℕ) → j ≢ i / 8 → get_or (set_bit s i v) j 0 ≡ get_or s j 0
unfolding set_bit
set_elsewhere s i v j n = get_or-set_other s (i / 8) j (with_bit (get_or s (i / 8) 0) (i % 8) v) 0 n

module _ (s : List ℕ) (at : ℕ) (bits : List ℕ) (k : ℕ) (H : Holds s at bits k) where
  pub holds_more : k < length bits → (v : Bool) → pick v 1 0 ≡ get_or bits k 0 → Holds (set_bit s (8 * at + k) v) at bits (k + 1)
  holds_more l v e =
      let u = set_bit s (8 * at + k) v in
      let b : (8 * at + k) / 8 < length s = omega (arith, bits_room bits k l, H.room) in
      record {
        room = omega (arith, H.room, set_bit_length s (8 * at + k) v);
        within = omega arith;
        on = λ j h.
            elim (same_or_not j k) [
              | inl q ↦ rw q (set_bit_here s (8 * at + k) v b ∙ e)
              | inr d ↦ set_bit_other s (8 * at + k) v (8 * at + j) (omega arith) ∙ H.on j (omega arith)
            ];
        off = λ j h r. set_bit_other s (8 * at + k) v (8 * at + j) (omega arith) ∙ H.off j (omega arith) r;
        small = λ i h r. set_bit_small s (8 * at + k) v i (H.small i h r);
      }

  pub holds_kept : (u : List ℕ) → length u ≡ length s → ((i : ℕ) → at ≤ i → i < at + bytes_for (length bits) → get_or u i 0 ≡ get_or s i 0) → Holds u at bits k
  holds_kept u n same =
      let there : (j : ℕ) → j < 8 * bytes_for (length bits) → bit u (8 * at + j) ≡ bit s (8 * at + j)
      = λ j l. bit_there u at j ∙ ap (λ x. x / 2 ^ (j % 8) % 2) (same (at + j / 8) (omega arith) (omega arith)) ∙ sym (bit_there s at j) in
      record {
        room = omega (arith, H.room);
        within = H.within;
        on = λ j l. there j (bits_room bits j (omega (arith, H.within))) ∙ H.on j l;
        off = λ j l h. there j h ∙ H.off j l h;
        small = λ i l h. omega (arith, same i l h, H.small i l h);
      }

  pub holds_beside : (i : ℕ) (v : Bool) → ((j : ℕ) → at ≤ j → j < at + bytes_for (length bits) → j ≢ i / 8) → Holds (set_bit s i v) at bits k
  holds_beside i v other = holds_kept (set_bit s i v) (set_bit_length s i v) (λ j l h. set_elsewhere s i v j (other j l h))

bit_in : (p : List ℕ) (i : ℕ) → bit p i ≡ get_or p (i / 8) 0 / 2 ^ (i % 8) % 2
unfolding bit
bit_in p i = refl

bits_past : (bits : List ℕ) (i : ℕ) → 8 * bytes_for (length bits) ≤ i → length bits ≤ i
unfolding bytes_for
bits_past bits i g = omega arith

-- all bits are held, and zeros after them
held : (s : List ℕ) (at : ℕ) (bits : List ℕ) → Holds s at bits (length bits) → (i : ℕ) → i < 8 * bytes_for (length bits) → bit s (8 * at + i) ≡ get_or bits i 0
held s at bits H i l =
    elim (lt_or_ge i (length bits)) [
      | inl b ↦ H.on i b
      | inr g ↦ H.off i g l ∙ sym (get_or-eq_default bits 0 g)
    ]

pub holds_part : (s : List ℕ) (at : ℕ) (bits : List ℕ) → EachBelow 2 bits → Holds s at bits (length bits)
    → take (bytes_for (length bits)) (drop at s) ≡ bytes_of bits
holds_part s at bits h H =
    let n = bytes_for (length bits) in
    let p = take n (drop at s) in
    let size : length p ≡ n = omega (arith, length-take n (drop at s), length-drop at s, H.room) in
    let byte : (i : ℕ) → i < n → get_or p i 0 ≡ get_or s (at + i) 0 = λ i l. get_or-take n (drop at s) i 0 l ∙ get_or-drop at s i 0 in
    bytes_same p (bytes_of bits)
    (each_below 256 p (omega arith) (λ i l. rw (byte i (omega arith)) (H.small (at + i) (omega arith) (omega arith))))
    (bytes_of_small bits h)
    (size ∙ sym (bytes_of_length bits))
    (λ i.
    elim (lt_or_ge i (8 * n)) [
      | inl l ↦ bit_in p i ∙ ap (λ x. x / 2 ^ (i % 8) % 2) (byte (i / 8) (omega arith)) ∙ sym (bit_there s at i) ∙ held s at bits H i l ∙ sym (bytes_of_bit bits h i)
      | inr g ↦ bit_past p i (omega arith) ∙ sym (bytes_of_bit bits h i ∙ get_or-eq_default bits 0 (bits_past bits i g))
    ])
