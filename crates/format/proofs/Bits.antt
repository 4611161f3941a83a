-- Bits in bytes: what `bytes_of` writes is what `bit` reads, and the bytes are the only ones that read so.
--
-- each_below        == it is enough to know it of the entries before the end
-- bytes_of_length   == the bytes are as many as the bits take
-- bytes_of_bit      == bit i of the bytes is bit i of the list, 0 past the end
-- bytes_of_small    == each is a byte
-- bytes_of_unused   == the bits past the list's are 0
-- bytes_same        == bytes with the same bits are the same
-- bytes_are         == bytes whose unused bits are 0 are the bytes of their bits
-- Assumes nothing.
use mathlib.Core.Path.{◌≡◌, sym, ◌∙◌, ap}
use mathlib.Core.Logic.{inl, inr}
use mathlib.Core.Bool.{true}
use mathlib.Core.List.{List, [], ◌∷◌}
use Prim.Native.Nat.{ℕ, zero, suc, ◌+◌, ◌*◌, ◌/◌, ◌%◌, ◌^◌, ◌<◌, ◌≤◌}
use native.Mathlib.Nat.{pow-succ', div-div-eq-div-mul, zero-div, pow-le-pow_right}
use native.Mathlib.Omega.{arith}
use lib.ListN.{length, get_or, take, drop, length-take, get_or-eq_default}
use lib.Seq.{get_or-take, get_or-drop, ext_get_or}
use Rattle.count.specs.Below.{table}
use Rattle.count.proofs.Logic.{lt_or_ge}
use Rattle.count.proofs.Lists.{table_length, table_get_d}
use Rattle.bits.specs.Strings.{bit, bytes_for, unused_zero}
use Rattle.bits.proofs.Laws.{bit_below_2, bit_at, unused_zero_from, unused_zero_has}
use Rattle.format.specs.Bytes.{byte_of, bytes_of}
pub use Rattle.format.specs.Bytes.{EachBelow}

pub each_below : (k : ℕ) (s : List ℕ) → 0 < k → ((i : ℕ) → i < length s → get_or s i 0 < k) → EachBelow k s
each_below k s p h i =
    elim (lt_or_ge i (length s)) [ inl l ↦ h i l | inr g ↦ omega (arith, get_or-eq_default s 0 {n = i} g) ]

-- one binary digit after another
digit_next : (x i : ℕ) → x / 2 ^ suc i % 2 ≡ x / 2 / 2 ^ i % 2
digit_next x i = rw (pow-succ' 2 i, ← div-div-eq-div-mul x 2 (2 ^ i))

byte_bit : (l : List ℕ) → EachBelow 2 l → (i : ℕ) → byte_of l / 2 ^ i % 2 ≡ get_or l i 0
byte_bit [] h i = rw (zero-div (2 ^ i))
byte_bit (v ∷ l) h zero = omega (arith, h 0)
byte_bit (v ∷ l) h (suc i) =
    let e : (v + 2 * byte_of l) / 2 ≡ byte_of l = omega (arith, h 0) in
    digit_next (v + 2 * byte_of l) i ∙ ap (λ x. x / 2 ^ i % 2) e ∙ byte_bit l (λ k. h (suc k)) i

byte_below : (l : List ℕ) → EachBelow 2 l → byte_of l < 2 ^ length l
byte_below [] h = omega arith
byte_below (v ∷ l) h = omega (arith, h 0, byte_below l (λ k. h (suc k)), pow-succ' 2 (length l))

-- a number below 2 ^ k is known by its k binary digits
digits_same : (k x y : ℕ) → x < 2 ^ k → y < 2 ^ k → ((i : ℕ) → i < k → x / 2 ^ i % 2 ≡ y / 2 ^ i % 2) → x ≡ y
digits_same zero x y a b same = omega arith
digits_same (suc k) x y a b same =
    let p = pow-succ' 2 k in
    let h : x / 2 ≡ y / 2
    = digits_same k (x / 2) (y / 2) (omega arith) (omega arith) (λ i l. sym (digit_next x i) ∙ same (suc i) (omega arith) ∙ digit_next y i) in
    omega (arith, same 0 (omega arith))

-- the bits of the byte that begins at j
eight : List ℕ → ℕ → List ℕ
eight bits j = take 8 (drop j bits)

module _ (bits : List ℕ) (j : ℕ) where
  eight_at : (i : ℕ) → i < 8 → get_or (eight bits j) i 0 ≡ get_or bits (j + i) 0
  unfolding eight
  eight_at i l = get_or-take 8 (drop j bits) i 0 l ∙ get_or-drop j bits i 0

  eight_length : length (eight bits j) ≤ 8
  unfolding eight
  eight_length = omega (arith, length-take 8 (drop j bits))

  eight_below : EachBelow 2 bits → EachBelow 2 (eight bits j)
  eight_below h = each_below 2 (eight bits j) (omega arith) (λ i l. rw (eight_at i (omega (arith, eight_length))) (h (j + i)))

  byte_small : EachBelow 2 bits → byte_of (eight bits j) < 256
  byte_small h =
      let most = pow-le-pow_right {n = 2} (omega arith) {i = length (eight bits j)} {j = 8} eight_length in
      omega (arith, byte_below (eight bits j) (eight_below h))

pub bytes_of_length : (bits : List ℕ) → length (bytes_of bits) ≡ bytes_for (length bits)
unfolding bytes_of
bytes_of_length bits = table_length (λ i. byte_of (take 8 (drop (8 * i) bits))) (bytes_for (length bits))

bytes_of_get_d : (bits : List ℕ) (i : ℕ) → i < bytes_for (length bits) → get_or (bytes_of bits) i 0 ≡ byte_of (eight bits (8 * i))
unfolding bytes_of eight
bytes_of_get_d bits i l = table_get_d (λ i. byte_of (take 8 (drop (8 * i) bits))) (bytes_for (length bits)) i 0 l

bytes_of_past : (bits : List ℕ) (i : ℕ) → bytes_for (length bits) ≤ i → get_or (bytes_of bits) i 0 ≡ 0
bytes_of_past bits i g = get_or-eq_default (bytes_of bits) 0 (omega (arith, bytes_of_length bits))

pub bytes_of_small : (bits : List ℕ) → EachBelow 2 bits → EachBelow 256 (bytes_of bits)
bytes_of_small bits h i =
    elim (lt_or_ge i (bytes_for (length bits))) [
      | inl l ↦ rw (bytes_of_get_d bits i l) (byte_small bits (8 * i) h)
      | inr g ↦ omega (arith, bytes_of_past bits i g)
    ]

pub bytes_of_bit : (bits : List ℕ) → EachBelow 2 bits → (i : ℕ) → bit (bytes_of bits) i ≡ get_or bits i 0
unfolding bit bytes_for
bytes_of_bit bits h i =
    elim (lt_or_ge (i / 8) (bytes_for (length bits))) [
      | inl l ↦
          let e : 8 * (i / 8) + i % 8 ≡ i = omega arith in
          ap (λ x. x / 2 ^ (i % 8) % 2) (bytes_of_get_d bits (i / 8) l)
          ∙ byte_bit (eight bits (8 * (i / 8))) (eight_below bits (8 * (i / 8)) h) (i % 8)
          ∙ eight_at bits (8 * (i / 8)) (i % 8) (omega arith)
          ∙ ap (λ x. get_or bits x 0) e
      | inr g ↦
          ap (λ x. x / 2 ^ (i % 8) % 2) (bytes_of_past bits (i / 8) g) ∙ ap (λ x. x % 2) (zero-div (2 ^ (i % 8)))
          ∙ sym (get_or-eq_default bits 0 (omega arith))
    ]

pub bytes_of_unused : (bits : List ℕ) → EachBelow 2 bits → unused_zero (bytes_of bits) (length bits) ≡ true
bytes_of_unused bits h =
    unused_zero_from (bytes_of bits) (length bits) (λ i g l. bytes_of_bit bits h i ∙ get_or-eq_default bits 0 g)

pub bytes_same : (s t : List ℕ) → EachBelow 256 s → EachBelow 256 t → length s ≡ length t → ((i : ℕ) → bit s i ≡ bit t i) → s ≡ t
bytes_same s t h k e same =
    ext_get_or 0 s t e
    (λ j l. digits_same 8 (get_or s j 0) (get_or t j 0) (h j) (k j) (λ i b. sym (bit_at s j i b) ∙ same (8 * j + i) ∙ bit_at t j i b))

pub bytes_are : (s : List ℕ) (k : ℕ) → EachBelow 256 s → length s ≡ bytes_for k → unused_zero s k ≡ true → s ≡ bytes_of (table (bit s) k)
bytes_are s k h e u =
    let bits = table (bit s) k in
    let n = table_length (bit s) k in
    let small : EachBelow 2 bits = each_below 2 bits (omega arith) (λ i l. rw (table_get_d (bit s) k i 0 (omega arith)) (bit_below_2 s i)) in
    let reads : (i : ℕ) → get_or bits i 0 ≡ bit s i
    = λ i.
    elim (lt_or_ge i k) [
      | inl l ↦ table_get_d (bit s) k i 0 l
      | inr g ↦ get_or-eq_default bits 0 (omega arith) ∙ sym (unused_zero_has s k i u g)
    ] in
    bytes_same s (bytes_of bits) h (bytes_of_small bits small) (e ∙ ap bytes_for (sym n) ∙ sym (bytes_of_length bits))
    (λ i. sym (bytes_of_bit bits small i ∙ reads i))
