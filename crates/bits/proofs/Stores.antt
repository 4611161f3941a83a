-- What a string holds after a bit was set.
--
-- set_bit_length   == the length stays
-- set_bit_past     == nothing changes where the bit is past the end
-- set_bit_here     == the bit that was set is the new one
-- set_bit_other    == every other bit is as before
-- set_bit_small    == what was a byte is one
-- turned, turned_fits == what changes one byte, and that it fits
-- stored, stored_past == what changes the string
-- Assumes nothing.
use mathlib.Core.Path.{◌≡◌, refl, sym, ap}
use mathlib.Core.Logic.{◌≢◌, inl, inr}
use mathlib.Core.Bool.{Bool, true, false}
use mathlib.Core.List.{List}
use Prim.Native.Nat.{ℕ, ◌+◌, ◌-◌, ◌*◌, ◌/◌, ◌%◌, ◌^◌, ◌<◌, ◌≤◌}
use native.Mathlib.Omega.{arith}
use lib.ListN.{length, get_or, set, length-set}
use lib.Seq.{set_out, get_or-set_same, get_or-set_other}
use mir.Syntax.{w8}
use mir.Val.{Fits, bool_byte}
use Rattle.count.specs.Below.{pick}
use Rattle.count.proofs.Logic.{same_or_not, lt_or_ge}
use Rattle.bits.specs.Strings.{bit}
use Rattle.bits.specs.Writes.{with_bit, set_bit}
use Rattle.bits.proofs.Digits.{one_shifted, with_bit_here, with_bit_other, with_bit_below, with_bit_either}

module _ (s : List ℕ) (i : ℕ) (v : Bool) where
  pub set_bit_length : length (set_bit s i v) ≡ length s
  unfolding set_bit
  set_bit_length = length-set s (i / 8) (with_bit (get_or s (i / 8) 0) (i % 8) v)

  pub set_bit_past : length s ≤ i / 8 → set_bit s i v ≡ s
  unfolding set_bit
  set_bit_past l = set_out s (i / 8) (with_bit (get_or s (i / 8) 0) (i % 8) v) l

  pub set_bit_here : i / 8 < length s → bit (set_bit s i v) i ≡ pick v 1 0
  unfolding set_bit bit
  set_bit_here l =
      rw (get_or-set_same s (i / 8) (with_bit (get_or s (i / 8) 0) (i % 8) v) 0 l) (with_bit_here (get_or s (i / 8) 0) (i % 8) v)

  in_same_byte : (j : ℕ) → j ≢ i → j / 8 ≡ i / 8 → i / 8 < length s → bit (set_bit s i v) j ≡ bit s j
  unfolding set_bit bit
  in_same_byte j n e l =
      rw (e, get_or-set_same s (i / 8) (with_bit (get_or s (i / 8) 0) (i % 8) v) 0 l)
      (with_bit_other (get_or s (i / 8) 0) (i % 8) v (j % 8) (omega arith))

  in_other_byte : (j : ℕ) → j / 8 ≢ i / 8 → bit (set_bit s i v) j ≡ bit s j
  unfolding set_bit bit
  in_other_byte j n =
      ap (λ x. x / 2 ^ (j % 8) % 2) (get_or-set_other s (i / 8) (j / 8) (with_bit (get_or s (i / 8) 0) (i % 8) v) 0 n)

  pub set_bit_other : (j : ℕ) → j ≢ i → bit (set_bit s i v) j ≡ bit s j
  set_bit_other j n =
      elim (lt_or_ge (i / 8) (length s)) [
        | inl l ↦ elim (same_or_not (j / 8) (i / 8)) [ inl e ↦ in_same_byte j n e l | inr d ↦ in_other_byte j d ]
        | inr g ↦ ap (λ t. bit t j) (set_bit_past g)
      ]

small_here : (s : List ℕ) (i : ℕ) (v : Bool) (j : ℕ) → get_or s j 0 < 256 → i / 8 < length s → j ≡ i / 8 → get_or (set_bit s i v) j 0 < 256
unfolding set_bit
small_here s i v j l b e =
    rw (e, get_or-set_same s (i / 8) (with_bit (get_or s (i / 8) 0) (i % 8) v) 0 b)
    (with_bit_below (get_or s (i / 8) 0) (i % 8) v 8 (rw e at l) (omega arith))

small_there : (s : List ℕ) (i : ℕ) (v : Bool) (j : ℕ) → get_or s j 0 < 256 → j ≢ i / 8 → get_or (set_bit s i v) j 0 < 256
unfolding set_bit
small_there s i v j l d = rw (get_or-set_other s (i / 8) j (with_bit (get_or s (i / 8) 0) (i % 8) v) 0 d) l

pub set_bit_small : (s : List ℕ) (i : ℕ) (v : Bool) (j : ℕ) → get_or s j 0 < 256 → get_or (set_bit s i v) j 0 < 256
set_bit_small s i v j l =
    elim (lt_or_ge (i / 8) (length s)) [
      | inl b ↦ elim (same_or_not j (i / 8)) [ inl e ↦ small_here s i v j l b e | inr d ↦ small_there s i v j l d ]
      | inr g ↦ rw (set_bit_past s i v g) l
    ]

-- the byte x without digit r, and with it
module _ (x r : ℕ) (v : Bool) (l : r < 8) where
  bool_pick : (t : Bool) → bool_byte t ≡ pick t 1 0
  bool_pick true = refl
  bool_pick false = refl

  module _ (d : ℕ) (e : d ≡ bool_byte v) where
    pub turned : x - x / 2 ^ r % 2 * (1 * 2 ^ r % 256) + d * (1 * 2 ^ r % 256) ≡ with_bit x r v
    turned = rw (one_shifted 8 r l, e, bool_pick v) (with_bit_either x r v)

    pub turned_fits : Fits w8 x → Fits w8 (x - x / 2 ^ r % 2 * (1 * 2 ^ r % 256) + d * (1 * 2 ^ r % 256))
    turned_fits f = record { fits = rw turned (with_bit_below x r v 8 f.fits l) }

pub stored : (s : List ℕ) (i y : ℕ) (v : Bool) → y ≡ with_bit (get_or s (i / 8) 0) (i % 8) v → set s (i / 8) y ≡ set_bit s i v
unfolding set_bit
stored s i y v e = ap (set s (i / 8)) e

pub stored_past : (s : List ℕ) (i : ℕ) (v : Bool) → length s ≤ i / 8 → s ≡ set_bit s i v
stored_past s i v l = sym (set_bit_past s i v l)
