-- The parts of a map's bytes: where the header and the three strings stand, and that there is nothing else.
--
-- two_bytes         == a number below 65,536 from its two bytes
-- size_of_bytes, areas_of_bytes == the header of a map gives its m and n back, and its count of areas
-- Lengths z w       == the strings of w are as long as m and n say
-- map_length_lem        == the map is as long as m and n say
-- part_a_is, part_b_is == the parts of a map are the bytes of its strings
-- part_a_length, part_b_length == the parts of bytes of the header's length have the lengths that the header says
-- part_b_as         == a string has the bytes that its bits take, from its offset on
-- part_a_small, part_b_small == parts of bytes are bytes
-- parts_are         == bytes of the header's length, with the right count of areas, are their header and their parts
-- Assumes nothing.
use mathlib.Core.Path.{◌≡◌, sym, ◌∙◌, ap}
use mathlib.Core.List.{List, [], ◌∷◌, ◌++◌}
use Prim.Native.Nat.{ℕ, ◌+◌, ◌-◌, ◌*◌, ◌/◌, ◌%◌, ◌<◌, ◌≤◌}
use native.Mathlib.Omega.{arith}
use lib.ListN.{length, take, drop, length-append, length-take, length-drop, take-append-drop}
use lib.Seq.{take_at, drop_at, drop-drop, take_all, get_or-take, get_or-drop}
use Rattle.answers.specs.declared.given.Size.{Size}
use Rattle.words.specs.declared.family.Family.{Family}
use Rattle.words.specs.declared.family.Family.TheVariants.{Round as round, Square as square}
use Rattle.words.specs.Word.{Word}
use Rattle.bits.specs.Strings.{bytes_for}
use Rattle.format.specs.Bytes.{header, le16, le16_at, areas_of, header_of, size_in, written_areas, bits_a, bits_b, start_b, map_length, part_a, part_b, string_a, string_b, bytes_of, map_bytes}
use Rattle.format.proofs.Bits.{EachBelow, each_below, bytes_of_length}

-- a part has the bytes that its bits take, from its offset on
part_a_as : (s : List ℕ) → part_a s ≡ take (bytes_for (bits_a (size_in s))) (drop header s)
unfolding part_a
part_a_as s =
    let k = bytes_for (bits_a (size_in s)) in
    let e : header + k - header ≡ k = omega arith in ap (λ x. take x (drop header s)) e

pub part_b_as : (K : Family) (s : List ℕ) → part_b K s ≡ take (bytes_for (bits_b K (size_in s))) (drop (start_b K (size_in s)) s)
unfolding part_b start_b map_length
part_b_as round s =
    let z = size_in s in
    let e : start_b square z - start_b round z ≡ bytes_for (bits_b round z) = omega arith in ap (λ x. take x (drop (start_b round z) s)) e
part_b_as square s =
    let z = size_in s in
    let e : map_length z - start_b square z ≡ bytes_for (bits_b square z) = omega arith in ap (λ x. take x (drop (start_b square z) s)) e

size_same : (a b c d : ℕ) → a ≡ c → b ≡ d → ◌≡◌ {A = Size} (record { m = a; n = b }) (record { m = c; n = d })
size_same a b c d p q = λ i. record { m = p i; n = q i }

pub two_bytes : (x : ℕ) → x < 65536 → x % 256 + 256 * (x / 256 % 256) ≡ x
two_bytes x l = omega arith

pub size_of_bytes : (z : Size) (w : Word) → z.m < 65536 → z.n < 65536 → size_in (map_bytes z w) ≡ z
unfolding size_in le16_at map_bytes
size_of_bytes z w k l =
    size_same (z.m % 256 + 256 * (z.m / 256 % 256)) (z.n % 256 + 256 * (z.n / 256 % 256)) z.m z.n (two_bytes z.m k) (two_bytes z.n l)

pub areas_of_bytes : (z : Size) (w : Word) → areas_of z < 65536 → written_areas (map_bytes z w) ≡ areas_of z
unfolding written_areas le16_at map_bytes
areas_of_bytes z w l = two_bytes (areas_of z) l

pub record Lengths (z : Size) (w : Word) : Type 0 where
  pub m_small : z.m < 65536
  pub n_small : z.n < 65536
  pub a : length (string_a w) ≡ bits_a z
  pub b : (K : Family) → length (string_b K w) ≡ bits_b K z

module _ (z : Size) (w : Word) (L : Lengths z w) where
  a_bytes : length (bytes_of (string_a w)) ≡ bytes_for (bits_a z)
  a_bytes = bytes_of_length (string_a w) ∙ ap bytes_for L.a

  b_bytes : (K : Family) → length (bytes_of (string_b K w)) ≡ bytes_for (bits_b K z)
  b_bytes K = bytes_of_length (string_b K w) ∙ ap bytes_for (L.b K)

  pub map_length_lem : length (map_bytes z w) ≡ map_length z
  unfolding map_bytes map_length start_b
  map_length_lem =
      let A = bytes_of (string_a w) in
      let B = bytes_of (string_b round w) in
      let S = bytes_of (string_b square w) in
      omega (arith, a_bytes, b_bytes round, b_bytes square, length-append A (B ++ S), length-append B S)

  -- the bytes from B on, and from B* on
  from_b : drop (start_b round z) (map_bytes z w) ≡ bytes_of (string_b round w) ++ bytes_of (string_b square w)
  unfolding map_bytes start_b
  from_b =
      sym (drop-drop (bytes_for (bits_a z)) header (map_bytes z w))
      ∙ drop_at (bytes_of (string_a w)) (bytes_of (string_b round w) ++ bytes_of (string_b square w)) (bytes_for (bits_a z)) a_bytes

  from_s : drop (start_b square z) (map_bytes z w) ≡ bytes_of (string_b square w)
  unfolding start_b
  from_s =
      sym (drop-drop (bytes_for (bits_b round z)) (start_b round z) (map_bytes z w))
      ∙ ap (drop (bytes_for (bits_b round z))) from_b
      ∙ drop_at (bytes_of (string_b round w)) (bytes_of (string_b square w)) (bytes_for (bits_b round z)) (b_bytes round)

  sized : size_in (map_bytes z w) ≡ z
  sized = size_of_bytes z w L.m_small L.n_small

  a_taken : take (bytes_for (bits_a z)) (drop header (map_bytes z w)) ≡ bytes_of (string_a w)
  unfolding map_bytes
  a_taken = take_at (bytes_of (string_a w)) (bytes_of (string_b round w) ++ bytes_of (string_b square w)) (bytes_for (bits_a z)) a_bytes

  pub part_a_is : part_a (map_bytes z w) ≡ bytes_of (string_a w)
  part_a_is = part_a_as (map_bytes z w) ∙ ap (λ y. take (bytes_for (bits_a y)) (drop header (map_bytes z w))) sized ∙ a_taken

  b_taken : (K : Family) → take (bytes_for (bits_b K z)) (drop (start_b K z) (map_bytes z w)) ≡ bytes_of (string_b K w)
  b_taken round =
      ap (take (bytes_for (bits_b round z))) from_b
      ∙ take_at (bytes_of (string_b round w)) (bytes_of (string_b square w)) (bytes_for (bits_b round z)) (b_bytes round)
  b_taken square =
      ap (take (bytes_for (bits_b square z))) from_s
      ∙ take_all (bytes_for (bits_b square z)) (bytes_of (string_b square w)) (omega (arith, b_bytes square))

  pub part_b_is : (K : Family) → part_b K (map_bytes z w) ≡ bytes_of (string_b K w)
  part_b_is K =
      part_b_as K (map_bytes z w) ∙ ap (λ y. take (bytes_for (bits_b K y)) (drop (start_b K y) (map_bytes z w))) sized ∙ b_taken K

le16_back : (a b : ℕ) → a < 256 → b < 256 → le16 (a + 256 * b) ≡ a ∷ b ∷ []
le16_back a b k l =
    let p : (a + 256 * b) % 256 ≡ a = omega arith in
    let q : (a + 256 * b) / 256 ≡ b = omega arith in
    let r : b % 256 ≡ b = omega arith in
    rw (p, q, r)

-- the header's bytes, where the count in it is m - n + 2, and what follows
head_is : (s : List ℕ) → EachBelow 256 s → header ≤ length s → written_areas s ≡ areas_of (size_in s) → header_of (size_in s) ++ drop header s ≡ s
unfolding size_in written_areas le16_at
head_is [] h l e = absurd (omega arith)
head_is (a ∷ []) h l e = absurd (omega arith)
head_is (a ∷ b ∷ []) h l e = absurd (omega arith)
head_is (a ∷ b ∷ c ∷ []) h l e = absurd (omega arith)
head_is (a ∷ b ∷ c ∷ d ∷ []) h l e = absurd (omega arith)
head_is (a ∷ b ∷ c ∷ d ∷ f ∷ []) h l e = absurd (omega arith)
head_is (a ∷ b ∷ c ∷ d ∷ f ∷ g ∷ s) h l e =
    ap (λ x. le16 (a + 256 * b) ++ (le16 (c + 256 * d) ++ (le16 x ++ s))) (sym e)
    ∙ ap (λ x. x ++ (le16 (c + 256 * d) ++ (le16 (f + 256 * g) ++ s))) (le16_back a b (h 0) (h 1))
    ∙ ap (λ x. a ∷ b ∷ (x ++ (le16 (f + 256 * g) ++ s))) (le16_back c d (h 2) (h 3))
    ∙ ap (λ x. a ∷ b ∷ c ∷ d ∷ (x ++ s)) (le16_back f g (h 4) (h 5))

small_part : (s : List ℕ) (i n : ℕ) → EachBelow 256 s → EachBelow 256 (take n (drop i s))
small_part s i n h =
    each_below 256 (take n (drop i s)) (omega arith)
    (λ k l. rw (get_or-take n (drop i s) k 0 (omega (arith, length-take n (drop i s))), get_or-drop i s k 0) (h (i + k)))

pub part_a_small : (s : List ℕ) → EachBelow 256 s → EachBelow 256 (part_a s)
part_a_small s h = rw (part_a_as s) (small_part s header (bytes_for (bits_a (size_in s))) h)

pub part_b_small : (K : Family) (s : List ℕ) → EachBelow 256 s → EachBelow 256 (part_b K s)
part_b_small K s h = rw (part_b_as K s) (small_part s (start_b K (size_in s)) (bytes_for (bits_b K (size_in s))) h)

module _ (s : List ℕ) (e : length s ≡ map_length (size_in s)) where
  pub part_a_length : length (part_a s) ≡ bytes_for (bits_a (size_in s))
  unfolding map_length start_b
  part_a_length = rw (part_a_as s) (omega (arith, length-take (bytes_for (bits_a (size_in s))) (drop header s), length-drop header s))

  part_b_fits : (K : Family) → start_b K (size_in s) + bytes_for (bits_b K (size_in s)) ≤ length s
  unfolding map_length start_b
  part_b_fits round = omega arith
  part_b_fits square = omega arith

  pub part_b_length : (K : Family) → length (part_b K s) ≡ bytes_for (bits_b K (size_in s))
  part_b_length K =
      let k = bytes_for (bits_b K (size_in s)) in
      let i = start_b K (size_in s) in
      rw (part_b_as K s) (omega (arith, part_b_fits K, length-take k (drop i s), length-drop i s))

  pub parts_are : EachBelow 256 s → written_areas s ≡ areas_of (size_in s)
      → s ≡ header_of (size_in s) ++ (part_a s ++ (part_b round s ++ part_b square s))
  unfolding map_length start_b
  parts_are h w =
      let z = size_in s in
      let a : part_a s ++ drop (start_b round z) s ≡ drop header s
      = rw (part_a_as s, ← drop-drop (bytes_for (bits_a z)) header s) (take-append-drop (bytes_for (bits_a z)) (drop header s)) in
      let b : part_b round s ++ drop (start_b square z) s ≡ drop (start_b round z) s
      = rw (part_b_as round s, ← drop-drop (bytes_for (bits_b round z)) (start_b round z) s)
      (take-append-drop (bytes_for (bits_b round z)) (drop (start_b round z) s)) in
      let c : part_b square s ≡ drop (start_b square z) s
      = part_b_as square s ∙ take_all (bytes_for (bits_b square z)) (drop (start_b square z) s) (omega (arith, length-drop (start_b square z) s)) in
      sym (head_is s h (omega arith) w) ∙ ap (λ x. header_of z ++ x) (sym (rw (c, b, a)))
