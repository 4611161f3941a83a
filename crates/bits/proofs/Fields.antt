-- Bits a block at a time: a run of bits as a number, and its ones as a difference of ranks.
--
-- field_low        == the low digits of a byte are the field of its first bits
-- field_byte       == a byte is the field of its eight bits
-- field_high       == the other digits are the field of its other bits
-- field_ones       == the ones of a field are those between two ranks
-- field_none, field_has == a field is 0 exactly if all its bits are
-- rank_share       == from the ones among w bits to the bits v among them
-- share_0, share_1, share_other == which bits are counted
-- rank_past        == no bit past the end is 1
-- bytes_field      == the number that bytes hold
-- chunk_entry      == the entries of a chunk
-- blocks_long, rest_entry, rest_long == what a string is cut into: how many blocks, and the bytes after them
-- block_ones, eight_ones, byte_ones, low_ones == the ones of a block, of eight bytes, of one, and of the first bits of one
-- four_field, field_read == a field read off four bytes
-- ones_few, among_share == how many of its bits are v
-- Assumes nothing.
use mathlib.Core.Path.{◌≡◌, refl, sym, ap, ◌∙◌}
use mathlib.Core.Logic.{inl, inr}
use mathlib.Core.List.{List, [], ◌∷◌}
use Prim.Native.Nat.{ℕ, zero, suc, ◌+◌, ◌-◌, ◌*◌, ◌/◌, ◌%◌, ◌^◌, ◌<◌, ◌≤◌, min}
use native.Mathlib.Nat.{add-zero, zero-add, mul-zero, zero-mul, pow-suc, mod-eq_of_lt, mod-one}
use native.Mathlib.Omega.{arith}
use borrow.Author.Tests.{eq-eqb, ne_eqb}
use lib.Count.{ones, ones_cat, ones-le}
use lib.Dec.{eqb}
use lib.ListN.{length, get_or, take, drop, length-drop}
use lib.Seq.{get_or-drop}
use Rattle.std.proofs.lemmas.List.{length-take-le, get_or-take}
use Rattle.std.specs.Int.{byte_worth, sum_through, from_le_bytes}
use Rattle.std.specs.Simd.{first_chunks}
use lib.Pow.{pow_mono, pow-add, mod-pow-add, high}
use mir.Syntax.{w32, w64}
use Rattle.count.specs.Below.{pick}
use Rattle.count.proofs.Logic.{same_or_not, pick_yes, pick_no}
use Rattle.count.proofs.Below.{count_none}
use Rattle.bits.specs.Strings.{bit, is_bit, rank, field, among, share, widest}
use Rattle.bits.proofs.Digits.{one_shifted}
use Rattle.bits.proofs.Laws.{bit_below_2, bit_cases, bit_past, bit_at, rank_here, rank_other, rank_mono, rank_before, rank_both, rank_among, field_below, field_join, field_part}

pub field_low : (s : List ℕ) (k r : ℕ) → r ≤ 8 → get_or s k 0 % 2 ^ r ≡ field s (8 * k) r
unfolding field
field_low s k zero l = mod-one (get_or s k 0)
field_low s k (suc r) l =
    let e : 1 + r ≡ suc r = omega arith in
    rw e at (mod-pow-add (get_or s k 0) 1 r) ∙ rw (bit_at s k r (omega arith), field_low s k r (omega arith))

pub field_byte : (s : List ℕ) (k : ℕ) → get_or s k 0 < 256 → get_or s k 0 ≡ field s (8 * k) 8
field_byte s k l = sym (mod-eq_of_lt l) ∙ field_low s k 8 (omega arith)

pub field_high : (s : List ℕ) (k r : ℕ) → r ≤ 8 → get_or s k 0 < 256 → get_or s k 0 / 2 ^ r ≡ field s (8 * k + r) (8 - r)
field_high s k r l h =
    let e : r + (8 - r) ≡ 8 = omega arith in
    let j : field s (8 * k + r) (8 - r) * 2 ^ r + field s (8 * k) r ≡ get_or s k 0 = rw e at (field_join s (8 * k) r (8 - r)) ∙ sym (field_byte s k h) in
    ap (λ x. x / 2 ^ r) (sym j) ∙ high (field s (8 * k + r) (8 - r)) r (field_below s (8 * k) r)

ones_digit : (s : List ℕ) (i : ℕ) → rank 1 s i + ones (bit s i) ≡ rank 1 s (i + 1)
unfolding ones
ones_digit s i =
    bit_cases s i
    (λ e. rw e (omega (arith, rank_other 1 s i (omega arith))))
    (λ e. rw e (omega (arith, rank_here 1 s i e)))

pub field_ones : (s : List ℕ) (p w : ℕ) → rank 1 s p + ones (field s p w) ≡ rank 1 s (p + w)
unfolding field ones
field_ones s p zero = rw (add-zero p) (omega arith)
field_ones s p (suc w) =
    let e : p + suc w ≡ p + w + 1 = omega arith in
    rw (e, ones_cat w (bit s (p + w)) (field s p w) (field_below s p w)) (omega (arith, field_ones s p w, ones_digit s (p + w)))

pub field_none : (s : List ℕ) (p w : ℕ) → ((x : ℕ) → p ≤ x → x < p + w → bit s x ≡ 0) → field s p w ≡ 0
unfolding field
field_none s p zero z = refl
field_none s p (suc w) z =
    rw (z (p + w) (omega arith) (omega arith), zero-mul (2 ^ w)) (omega (arith, field_none s p w (λ x l h. z x l (omega arith))))

pub field_has : (s : List ℕ) (p w x : ℕ) → field s p w ≡ 0 → p ≤ x → x < p + w → bit s x ≡ 0
unfolding ones
field_has s p w x z l h =
    bit_cases s x (λ e. e)
    (λ e. absurd (omega (arith, rw z at (field_ones s p w), rank_mono 1 s p x l, rank_before 1 s x (p + w) h e)))

rank_none : (v : ℕ) (s : List ℕ) (i : ℕ) → 1 < v → rank v s i ≡ 0
unfolding rank
rank_none v s i l = count_none (is_bit v s) i (λ x h. ne_eqb (bit s x) v (omega (arith, bit_below_2 s x)))

module _ (v w c : ℕ) where
  pub share_0 : v ≡ 0 → w - c ≡ share v w c
  unfolding share
  share_0 e = sym (pick_yes (eqb v 0) (w - c) (pick (eqb v 1) c 0) (eq-eqb v 0 e))

  not_0 : (v ≡ 0 → ⊥) → pick (eqb v 1) c 0 ≡ share v w c
  unfolding share
  not_0 n = sym (pick_no (eqb v 0) (w - c) (pick (eqb v 1) c 0) (ne_eqb v 0 n))

  pub share_1 : v ≡ 1 → c ≡ share v w c
  share_1 e = sym (pick_yes (eqb v 1) c 0 (eq-eqb v 1 e)) ∙ not_0 (omega arith)

  pub share_other : (v ≡ 0 → ⊥) → (v ≡ 1 → ⊥) → 0 ≡ share v w c
  share_other n m = sym (pick_no (eqb v 1) c 0 (ne_eqb v 1 m)) ∙ not_0 n

pub rank_share : (v : ℕ) (s : List ℕ) (p w c : ℕ) → rank 1 s p + c ≡ rank 1 s (p + w) → rank v s p + share v w c ≡ rank v s (p + w)
rank_share v s p w c e =
    elim (same_or_not v 0) [
      | inl z ↦ rw (← share_0 v w c z, z) (omega (arith, rank_both s p, rank_both s (p + w), rank_mono 0 s p (p + w) (omega arith)))
      | inr n ↦
          elim (same_or_not v 1) [
            | inl o ↦ rw (← share_1 v w c o, o) e
            | inr m ↦ omega (arith, share_other v w c n m, rank_none v s p (omega arith), rank_none v s (p + w) (omega arith))
          ]
    ]

pub rank_past : (s : List ℕ) (a d : ℕ) → 8 * length s ≤ a → rank 1 s (a + d) ≡ rank 1 s a
rank_past s a zero l = ap (rank 1 s) (add-zero a)
rank_past s a (suc d) l =
    let e : a + suc d ≡ a + d + 1 = omega arith in
    rw e (rank_other 1 s (a + d) (λ o. omega (arith, bit_past s (a + d) (omega arith))) ∙ rank_past s a d l)

-- ---- for the proofs of the functions
bytes_pow : (k : ℕ) → 256 ^ k ≡ 2 ^ (8 * k)
bytes_pow zero = refl
bytes_pow (suc k) =
    let e : 8 * suc k ≡ 8 * k + 8 = omega arith in
    rw (pow-suc 256 k, bytes_pow k, e) (sym (pow-add 2 (8 * k) 8))

-- the number that the bytes f 0 to f m hold, which are those of s from byte k on
pub bytes_field : (s : List ℕ) (k : ℕ) (f : ℕ → ℕ) (m : ℕ) → ((i : ℕ) → get_or s i 0 < 256) → ((i : ℕ) → i ≤ m → f i ≡ get_or s (k + i) 0)
    → sum_through (λ i. byte_worth i (f i)) m ≡ field s (8 * k) (8 * (m + 1))
bytes_field s k f zero l same = same 0 (omega arith) ∙ rw (add-zero k) (field_byte s k (l k))
bytes_field s k f (suc m) l same =
    let e : 8 * (suc m + 1) ≡ 8 * (m + 1) + 8 = omega arith in
    let p : 8 * k + 8 * (m + 1) ≡ 8 * (k + suc m) = omega arith in
    let q : suc m ≡ m + 1 = omega arith in
    let top : f (suc m) ≡ field s (8 * (k + suc m)) 8 = same (suc m) (omega arith) ∙ field_byte s (k + suc m) (l (k + suc m)) in
    let worth : f (suc m) * 256 ^ suc m ≡ field s (8 * k + 8 * (m + 1)) 8 * 2 ^ (8 * (m + 1)) =
    rw (p, bytes_pow (suc m), q, ← q, top) in
    rw e (omega (arith, worth, bytes_field s k f m l (λ i h. same i (omega arith)), field_join s (8 * k) (8 * (m + 1)) 8))

-- entry i of the b-th chunk
pub chunk_entry : (n m : ℕ) (xs : List ℕ) (b i : ℕ) → b < m → i < n → get_or (get_or (first_chunks n m xs) b []) i 0 ≡ get_or xs (n * b + i) 0
chunk_entry n zero xs b i h l = absurd (omega arith)
chunk_entry n (suc m) xs zero i h l = rw (mul-zero n, zero-add i) (get_or-take n xs i 0 l)
chunk_entry n (suc m) xs (suc b) i h l =
    let e : n * suc b + i ≡ n + (n * b + i) = omega arith in
    chunk_entry n m (drop n xs) b i (omega arith) l ∙ get_or-drop n xs (n * b + i) 0 ∙ ap (λ x. get_or xs x 0) (sym e)

-- the ones of the first w bits of a block
pub block_ones : (s : List ℕ) (k w x : ℕ) → x ≡ field s (8 * k) w
    → (rank 1 s (8 * k) + ones x ≡ rank 1 s (8 * k + w)) × (ones x ≤ w)
block_ones s k w x e = rw e (field_ones s (8 * k) w, ones-le w (field s (8 * k) w) (field_below s (8 * k) w))

-- the blocks that the first e bytes have
module _ (s : List ℕ) (e : ℕ) (blocks : List (List ℕ)) (l : e ≤ length s) (n : length blocks ≡ length (take e s) / 8) where
  pub blocks_long : length blocks ≡ e / 8
  blocks_long = n ∙ ap (λ x. x / 8) (length-take-le e s l)

  pub eight_ones : (b x : ℕ) → ((i : ℕ) → get_or s i 0 < 256) → blocks ≡ first_chunks 8 (length (take e s) / 8) (take e s)
      → b < length blocks → x ≡ ones (from_le_bytes w64 (get_or blocks b []))
      → (rank 1 s (8 * (8 * b)) + x ≡ rank 1 s (8 * (8 * b) + 64)) × (x ≤ 64)
  eight_ones b x small q h o =
      let same : (i : ℕ) → i ≤ 7 → get_or (get_or blocks b []) i 0 ≡ get_or s (8 * b + i) 0 =
      λ i g.
      ap (λ y. get_or (get_or y b []) i 0) q
      ∙ chunk_entry 8 (length (take e s) / 8) (take e s) b i (omega arith) (omega arith)
      ∙ get_or-take e s (8 * b + i) 0 (omega (arith, blocks_long)) in
      rw o (block_ones s (8 * b) 64 (from_le_bytes w64 (get_or blocks b [])) (bytes_field s (8 * b) (λ i. get_or (get_or blocks b []) i 0) 7 small same))

-- the bytes after the blocks
module _ (s : List ℕ) (e : ℕ) (rest : List ℕ) (l : e ≤ length s) (q : rest ≡ drop (length (take e s) / 8 * 8) (take e s)) where
  pub rest_entry : (i : ℕ) → e / 8 * 8 + i < e → get_or rest i 0 ≡ get_or s (e / 8 * 8 + i) 0
  rest_entry i h =
      ap (λ y. get_or y i 0) q
      ∙ get_or-drop (length (take e s) / 8 * 8) (take e s) i 0
      ∙ ap (λ x. get_or (take e s) (x / 8 * 8 + i) 0) (length-take-le e s l)
      ∙ get_or-take e s (e / 8 * 8 + i) 0 h

  pub rest_long : length rest ≡ e - e / 8 * 8
  rest_long =
      ap length q
      ∙ length-drop (length (take e s) / 8 * 8) (take e s)
      ∙ ap (λ x. x - x / 8 * 8) (length-take-le e s l)

-- byte k, whole
pub byte_ones : (s : List ℕ) (k x : ℕ) → x ≡ get_or s k 0 → get_or s k 0 < 256
    → (rank 1 s (8 * k) + ones x ≡ rank 1 s (8 * k + 8)) × (ones x ≤ 8)
byte_ones s k x e l = block_ones s k 8 x (e ∙ field_byte s k l)

-- the low r digits of a byte
pub low_ones : (s : List ℕ) (k r x : ℕ) → r ≤ 8 → x ≡ get_or s k 0
    → (rank 1 s (8 * k) + ones (x % (1 * 2 ^ r % 2 ^ 64)) ≡ rank 1 s (8 * k + r)) × (ones (x % (1 * 2 ^ r % 2 ^ 64)) ≤ r)
low_ones s k r x l e = rw (one_shifted 64 r (omega arith), e) (block_ones s k r (get_or s k 0 % 2 ^ r) (field_low s k r l))

-- ---- a run of bits, read off four bytes
module _ (s : List ℕ) (k w x y z : ℕ) (ew : w ≡ get_or s k 0) (ex : x ≡ get_or s (k + 1) 0) (ey : y ≡ get_or s (k + 2) 0) (ez : z ≡ get_or s (k + 3) 0) where
  four_same : (i : ℕ) → i ≤ 3 → get_or (w ∷ x ∷ y ∷ z ∷ []) i 0 ≡ get_or s (k + i) 0
  four_same zero l = rw (add-zero k) ew
  four_same (suc zero) l = ex
  four_same (suc (suc zero)) l = ey
  four_same (suc (suc (suc zero))) l = ez
  four_same (suc (suc (suc (suc i)))) l = absurd (omega arith)

  pub four_field : ((i : ℕ) → get_or s i 0 < 256) → from_le_bytes w32 (w ∷ x ∷ y ∷ z ∷ []) ≡ field s (8 * k) 32
  four_field small = bytes_field s k (λ i. get_or (w ∷ x ∷ y ∷ z ∷ []) i 0) 3 small four_same

field_few : (s : List ℕ) (p m : ℕ) → m ≤ widest → field s p m < 2 ^ widest
field_few s p m l = omega (arith, field_below s p m, pow_mono {i = m} {j = widest} l)

pub field_read : (s : List ℕ) (p w m x : ℕ) → m ≡ min w widest → x ≡ field s (8 * (p / 8)) 32
    → (x / 2 ^ (p % 8) % (1 * 2 ^ m % 2 ^ 64) ≡ field s p (min w widest)) × (x / 2 ^ (p % 8) % (1 * 2 ^ m % 2 ^ 64) < 2 ^ widest)
field_read s p w m x h e =
    let q : 8 * (p / 8) + p % 8 ≡ p = omega arith in
    let r : x / 2 ^ (p % 8) % (1 * 2 ^ m % 2 ^ 64) ≡ field s p (min w widest) =
    rw (one_shifted 64 m (omega arith), e, ← h) (field_part s (8 * (p / 8)) 32 (p % 8) m (omega arith) ∙ ap (λ i. field s i m) q) in
    (r, rw r (field_few s p (min w widest) (omega arith)))

module _ (s : List ℕ) (p m x : ℕ) (e : x ≡ field s p m) where
  pub ones_few : ones x ≤ m
  ones_few = rw e (ones-le m (field s p m) (field_below s p m))

  pub among_share : (w : ℕ) → w ≡ m → (v r : ℕ) → r ≡ share v w (ones x) → r ≡ among v s p m
  among_share w h v r q =
      omega (arith, ap (λ i. share v i (ones x)) h, rank_among v s p m, rank_share v s p m (ones x) (rw e (field_ones s p m)))
