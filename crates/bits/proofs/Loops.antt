-- What the loops over a string keep from turn to turn, and what follows where they end: for the proofs of the functions.
--
-- Counted s i a k c    == c of the bits from byte a to byte k are 1, on the way to bit i
-- Selected v s n j p l == l of the first j bits that are v are still to come at bit p
-- Unused s k at r      == the bits from k to bit r of byte at are 0
-- Assumes nothing.
use mathlib.Core.Path.{◌≡◌, refl, sym, ap, ◌∙◌}
use mathlib.Core.Logic.{inl, inr}
use mathlib.Core.Bool.{Bool, true, false}
use mathlib.Core.List.{List}
use Prim.Native.Nat.{ℕ, ◌+◌, ◌-◌, ◌*◌, ◌/◌, ◌%◌, ◌^◌, ◌<◌, ◌≤◌, min}
use native.Mathlib.Nat.{zero-add, zero-div}
use native.Mathlib.Omega.{arith}
use borrow.Author.Rules.{rules}
use lib.ListN.{length, get_or, drop, length-drop}
use lib.Seq.{get_or-drop}
use Rattle.std.specs.Prelude.{IsTrue, EachIndex, ◌↔◌}
use Rattle.count.proofs.Logic.{same_or_not, lt_or_ge, true_or_false}
use Rattle.bits.specs.Strings.{bit, rank, select, unused_zero, field, share}
use Rattle.bits.proofs.Laws.{bit_past, rank_zero, rank_here, rank_other, select_rank, select_none, unused_zero_from, unused_zero_has}
use Rattle.bits.proofs.Fields.{field_byte, field_high, field_none, field_has, rank_share, rank_past}

-- ---- bit
pub read_within_lem : (s : List ℕ) (i r : ℕ) → r ≡ get_or s (i / 8) 0 / 2 ^ (i % 8) % 2 → (r ≡ bit s i) × (r < 2)
unfolding bit
read_within_lem s i r e = (e, omega arith)

pub read_past : (s : List ℕ) (i r : ℕ) → length s ≤ i / 8 → r ≡ 0 → (r ≡ bit s i) × (r < 2)
read_past s i r l e = (e ∙ sym (bit_past s i (omega arith)), omega arith)

-- a bit that was read is what it was found to be
pub bit_is : (s : List ℕ) (k v r : ℕ) → r ≡ bit s k → r ≡ v → bit s k ≡ v
bit_is s k v r h e = sym h ∙ e

-- ---- rank
pub record Counted (s : List ℕ) (i a k c : ℕ) : Type 0 where
  pub within : 8 * k ≤ i
  pub few : 8 * a + c ≤ 8 * k
  pub so_far : rank 1 s (8 * a) + c ≡ rank 1 s (8 * k)

module _ (s : List ℕ) (i a : ℕ) where
  pub counted_start : 8 * a ≤ i → Counted s i a a 0
  counted_start l = record { within = l; few = omega arith; so_far = omega arith }

  -- m bytes more, with d ones
  pub counted_more : (k m c d : ℕ) → Counted s i a k c → 8 * (k + m) ≤ i
      → rank 1 s (8 * k) + d ≡ rank 1 s (8 * k + 8 * m) → d ≤ 8 * m → Counted s i a (k + m) (c + d)
  counted_more k m c d C l r h =
      let p : 8 * (k + m) ≡ 8 * k + 8 * m = omega arith in
      record {
        within = l;
        few = omega (arith, C.few);
        so_far = rw p (omega (arith, C.so_far));
      }

  -- a block of eight bytes more, one byte more
  pub counted_block : (b c d : ℕ) → Counted s i a (8 * b) c → 64 * (b + 1) ≤ i
      → (rank 1 s (8 * (8 * b)) + d ≡ rank 1 s (8 * (8 * b) + 64)) × (d ≤ 64) → Counted s i a (8 * (b + 1)) (c + d)
  counted_block b c d C l t =
      let p : 8 * (b + 1) ≡ 8 * b + 8 = omega arith in
      rw p (counted_more (8 * b) 8 c d C (omega arith) t.0 t.1)

  -- and the bits of the last byte
  pub counted_end : (k c d : ℕ) → Counted s i a k c → k ≡ min (i / 8) (length s)
      → rank 1 s (8 * k) + d ≡ rank 1 s (8 * k + i % 8) → d ≤ i % 8 → (rank 1 s (8 * a) + (c + d) ≡ rank 1 s i) × (8 * a + (c + d) ≤ i)
  counted_end k c d C l r h =
      let u : rank 1 s (8 * k + i % 8) ≡ rank 1 s i =
      elim (same_or_not k (i / 8)) [
        | inl o ↦ ap (rank 1 s) (omega arith)
        | inr n ↦
            let p : 8 * k + i % 8 + (i - (8 * k + i % 8)) ≡ i = omega (arith, C.within) in
            sym (rank_past s (8 * k + i % 8) (i - (8 * k + i % 8)) (omega (arith, C.within))) ∙ ap (rank 1 s) p
      ] in
      (omega (arith, C.so_far), omega (arith, C.few, C.within))

pub ranked : (v : ℕ) (s : List ℕ) (i c r : ℕ) → rank 1 s 0 + c ≡ rank 1 s i → r ≡ share v i c → r ≡ rank v s i
ranked v s i c r e q =
    let o : rank 1 s 0 + c ≡ rank 1 s (0 + i) = rw (zero-add i) e in
    q ∙ omega (arith, rank_zero v s, rw (zero-add i) at (rank_share v s 0 i c o))

-- ---- select
pub record Selected (v : ℕ) (s : List ℕ) (n j p l : ℕ) : Type 0 where
  pub within : p ≤ n
  pub left : rank v s p + l ≡ j

module _ (v : ℕ) (s : List ℕ) (n j : ℕ) where
  pub selected_start : Selected v s n j 0 j
  selected_start = record { within = omega arith; left = omega (arith, rank_zero v s) }

  pub selected_from : (p : ℕ) → p ≤ n → Selected v s n (rank v s p + j) p j
  selected_from p l = record { within = l; left = refl }

  -- m bytes more, with d ones
  pub selected_skip : (k m l d c : ℕ) → Selected v s n j (8 * k) l → 8 * (k + m) ≤ n
      → rank 1 s (8 * k) + d ≡ rank 1 s (8 * k + 8 * m) → c ≡ share v (8 * m) d → c ≤ l → Selected v s n j (8 * (k + m)) (l - c)
  selected_skip k m l d c S h r z g =
      let p : 8 * (k + m) ≡ 8 * k + 8 * m = omega arith in
      record { within = h; left = rw p (omega (arith, S.left, rank_share v s (8 * k) (8 * m) d r)) }

  pub selected_block : (b l d c : ℕ) → Selected v s n j (8 * (8 * b)) l → 64 * (b + 1) ≤ n
      → (rank 1 s (8 * (8 * b)) + d ≡ rank 1 s (8 * (8 * b) + 64)) × (d ≤ 64) → c ≡ share v 64 d → c ≤ l
      → Selected v s n j (8 * (8 * (b + 1))) (l - c)
  selected_block b l d c S h t z g =
      let p : 8 * (b + 1) ≡ 8 * b + 8 = omega arith in
      rw p (selected_skip (8 * b) 8 l d c S (omega arith) t.0 z g)

  pub selected_yes : (k l r m : ℕ) → Selected v s n j k l → k < n → r ≡ bit s k → r ≡ v → (l ≡ 0 → ⊥) → m ≡ l - 1 → Selected v s n j (k + 1) m
  selected_yes k l r m S h b e z q =
      record {
        within = omega arith;
        left = omega (arith, S.left, rank_here v s k (sym b ∙ e));
      }

  pub selected_no : (k l r m : ℕ) → Selected v s n j k l → k < n → r ≡ bit s k → (r ≡ v → ⊥) → m ≡ l → Selected v s n j (k + 1) m
  selected_no k l r m S h b z q =
      record {
        within = omega arith;
        left = omega (arith, S.left, rank_other v s k (λ e. z (b ∙ e)));
      }

  pub selected_here : (k l : ℕ) → Selected v s n j k l → k < n → bit s k ≡ v → l ≡ 0 → k ≡ select v s n j
  selected_here k l S h e z =
      let q : rank v s k ≡ j = omega (arith, S.left) in
      sym (rw q at (select_rank v s n k h e))

  pub selected_none : (k l : ℕ) → Selected v s n j k l → n ≤ k → n ≡ select v s n j
  selected_none k l S h =
      let e : k ≡ n = omega (arith, S.within) in
      let q : rank v s n + l ≡ j = rw e at S.left in
      sym (select_none v s n j (omega arith))

pub ruleset Selected-step = (selected_yes, selected_no, rules)

-- ---- unused bits
pub record Unused (s : List ℕ) (k at r : ℕ) : Type 0 where
  pub in_byte : r < 8
  pub from : k ≤ 8 * at + r
  pub zero_so_far : (x : ℕ) → k ≤ x → x < 8 * at + r → bit s x ≡ 0

module _ (s : List ℕ) (k : ℕ) where
  pub unused_start : Unused s k (k / 8) (k % 8)
  unused_start = record { in_byte = omega arith; from = omega arith; zero_so_far = λ x l h. absurd (omega arith) }

  -- the bits of byte at from bit r on
  pub unused_more : (at r : ℕ) → Unused s k at r → get_or s at 0 < 256 → get_or s at 0 / 2 ^ r ≡ 0 → Unused s k (at + 1) 0
  unused_more at r U l z =
      let f : field s (8 * at + r) (8 - r) ≡ 0 = sym (field_high s at r (omega (arith, U.in_byte)) l) ∙ z in
      record {
        in_byte = omega arith;
        from = omega (arith, U.from, U.in_byte);
        zero_so_far = λ x h g.
            elim (lt_or_ge x (8 * at + r)) [
              | inl b ↦ U.zero_so_far x h b
              | inr a ↦ field_has s (8 * at + r) (8 - r) x f a (omega (arith, U.in_byte))
            ];
      }

-- what comes after the byte of bit k
module _ (s : List ℕ) (k : ℕ) (small : (i : ℕ) → get_or s i 0 < 256) where
  pub unused_not : (get_or s (k / 8) 0 / 2 ^ (k % 8) ≡ 0 → ⊥) → false ≡ unused_zero s k
  unused_not n =
      elim (true_or_false (unused_zero s k)) [
        | inl u ↦
            let z : field s (8 * (k / 8) + k % 8) (8 - k % 8) ≡ 0 =
            field_none s (8 * (k / 8) + k % 8) (8 - k % 8) (λ x h g. unused_zero_has s k x u (omega arith)) in
            absurd (n (field_high s (k / 8) (k % 8) (omega arith) (small (k / 8)) ∙ z))
        | inr f ↦ sym f
      ]

  zero_bytes : unused_zero s k ≡ true → (x : ℕ) → k / 8 < x → get_or s x 0 ≡ 0
  zero_bytes u x l = field_byte s x (small x) ∙ field_none s (8 * x) 8 (λ y h g. unused_zero_has s k y u (omega arith))

  module _ (m : ℕ) (e : m ≡ min (k / 8 + 1) (length s)) (first : get_or s (k / 8) 0 / 2 ^ (k % 8) ≡ 0) where
    from_bytes : ((i : ℕ) → i < length (drop m s) → get_or (drop m s) i 0 ≡ 0) → unused_zero s k ≡ true
    unfolding bit
    from_bytes z =
        let U : Unused s k (k / 8 + 1) 0 = unused_more s k (k / 8) (k % 8) (unused_start s k) (small (k / 8)) first in
        unused_zero_from s k
        (λ x l h.
        elim (lt_or_ge x (8 * (k / 8 + 1) + 0)) [
          | inl b ↦ U.zero_so_far x l b
          | inr g ↦
              let p : m + (x / 8 - m) ≡ x / 8 = omega arith in
              let q : get_or s (x / 8) 0 ≡ 0 =
              rw p at (sym (get_or-drop m s (x / 8 - m) 0) ∙ z (x / 8 - m) (omega (arith, length-drop m s))) in
              rw (q, zero-div (2 ^ (x % 8)))
        ])

    to_bytes : unused_zero s k ≡ true → (i : ℕ) → i < length (drop m s) → get_or (drop m s) i 0 ≡ 0
    to_bytes u i l = get_or-drop m s i 0 ∙ zero_bytes u (m + i) (omega (arith, length-drop m s))

    pub unused_both : (r : Bool) → (IsTrue r ↔ EachIndex (drop m s) (λ i. get_or (drop m s) i 0 ≡ 0)) → r ≡ unused_zero s k
    unused_both r t =
        elim (true_or_false r) [
          | inl a ↦ a ∙ sym (from_bytes (t.0 a))
          | inr b ↦ elim (true_or_false (unused_zero s k)) [ inl u ↦ t.1 (to_bytes u) ∙ sym u | inr f ↦ b ∙ sym f ]
        ]
