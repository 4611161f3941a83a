-- Passing k brackets at once, and the eight of a byte.
--
-- unpaired_same     == brackets that close at the same places leave the same unpaired
-- unpaired_most     == both numbers are at most k
-- pass_ahead        == with enough that wait the scan passes all: each unpaired closing takes one, each unpaired opening waits
-- pass_behind       == the scan back, with openings and closings exchanged
-- byte_same         == the brackets of a string's byte are those of the number
-- entry_is          == what stands in the table of entries
-- Assumes nothing.
use mathlib.Core.Path.{◌≡◌, refl, sym, ap, ◌∙◌}
use mathlib.Core.Logic.{inl, inr}
use mathlib.Core.Bool.{Bool, true, false}
use mathlib.Core.List.{List}
use Prim.Native.Nat.{ℕ, zero, suc, pred, ◌+◌, ◌-◌, ◌*◌, ◌/◌, ◌%◌, ◌<◌, ◌≤◌}
use native.Mathlib.Nat.{add-zero, zero-add}
use native.Mathlib.Numerals.{add-one}
use native.Mathlib.Omega.{arith}
use lib.Dec.{eqb}
use lib.ListN.{get_or}
use Rattle.count.proofs.Logic.{true_or_false}
use Rattle.count.proofs.Lists.{table_get_d}
use Rattle.bits.specs.Strings.{is_bit}
use Rattle.bits.proofs.Laws.{bit_at}
use Rattle.matching.specs.Scans.{scan, backwards}
use Rattle.matching.specs.Bytes.{before, unpaired, closes_in, in_byte, entry_of, entries, Entry}
use Rattle.matching.proofs.Scanning.{far_behind, whole, scan_none, scan_waits, scan_takes, scan_on}

unpaired_none : (c : ℕ → Bool) (p : ℕ) → unpaired c 0 p ≡ record { closings = 0; openings = 0 }
unfolding unpaired
unpaired_none c p = refl

unpaired_more : (c : ℕ → Bool) (k p : ℕ) (b : Bool) → c p ≡ b → unpaired c (suc k) p ≡ before b (unpaired c k (suc p))
unfolding unpaired
unpaired_more c k p b e = rw (e, unpaired)

pub unpaired_same : (b c : ℕ → Bool) (k p q : ℕ) → ((j : ℕ) → j < k → b (p + j) ≡ c (q + j)) → unpaired b k p ≡ unpaired c k q
unpaired_same b c zero p q h = unpaired_none b p ∙ sym (unpaired_none c q)
unpaired_same b c (suc k) p q h =
    let e : b p ≡ c q = rw (add-zero p, add-zero q) at (h 0 (omega arith)) in
    let rest : unpaired b k (suc p) ≡ unpaired c k (suc q) = unpaired_same b c k (suc p) (suc q) (λ j l.
    let s : suc p + j ≡ p + suc j = omega arith in
    let t : suc q + j ≡ q + suc j = omega arith in
    rw (s, t) (h (suc j) (omega arith))) in
    unpaired_more b k p (c q) e ∙ ap (before (c q)) rest ∙ sym (unpaired_more c k q (c q) refl)

module _ (c : ℕ → Bool) where
  pub unpaired_most : (k p : ℕ) → ((unpaired c k p).closings ≤ k) × ((unpaired c k p).openings ≤ k)
  unpaired_most zero p = rw (unpaired_none c p) (omega arith)
  unpaired_most (suc k) p =
      let m = unpaired_most k (suc p) in
      elim (true_or_false (c p)) [
        | inl t ↦ rw (unpaired_more c k p true t) (omega arith)
        | inr f ↦ rw (unpaired_more c k p false f) (omega arith)
      ]

  pub pass_ahead : (k p d e : ℕ) → (unpaired c k p).closings ≤ d → e ≡ d - (unpaired c k p).closings + (unpaired c k p).openings → scan suc c k p d ≡ whole e
  pass_ahead zero p d e n q =
      let s : d ≡ e = omega (arith, ap (λ u. u.closings) (unpaired_none c p), ap (λ u. u.openings) (unpaired_none c p)) in
      rw s (scan_none suc c p e)
  pass_ahead (suc k) p d e n q =
      elim (true_or_false (c p)) [
        | inl t ↦
            let m = rw (unpaired_more c k p true t) at n in
            let r = rw (unpaired_more c k p true t) at q in
            let s : d ≡ suc (d - 1) = omega arith in
            rw (s, scan_takes suc c k p (d - 1) t) (pass_ahead k (suc p) (d - 1) e (omega arith) (omega arith))
        | inr f ↦
            let m = rw (unpaired_more c k p false f) at n in
            let r = rw (unpaired_more c k p false f) at q in
            rw (scan_waits suc c k p d f) (pass_ahead k (suc p) (suc d) e (omega arith) (omega arith))
      ]

  -- one bracket back, after k that were passed
  one_back : (k p d e x : ℕ) → scan pred (backwards c) k (suc p + k) d ≡ whole x → scan pred (backwards c) 1 (suc p) x ≡ whole e
      → scan pred (backwards c) (suc k) (p + suc k) d ≡ whole e
  one_back k p d e x r o =
      let s : p + suc k ≡ suc p + k = omega arith in
      let t : suc p + k - k ≡ suc p = omega arith in
      let on = scan_on pred (backwards c) k 1 (suc p + k) d (rw r) in
      rw (s, ← add-one k) (on ∙ rw (r, far_behind k (suc p + k), t) o)

  pub pass_behind : (k p d e : ℕ) → (unpaired c k p).openings ≤ d → e ≡ d - (unpaired c k p).openings + (unpaired c k p).closings
      → scan pred (backwards c) k (p + k) d ≡ whole e
  pass_behind zero p d e n q =
      let s : d ≡ e = omega (arith, ap (λ u. u.closings) (unpaired_none c p), ap (λ u. u.openings) (unpaired_none c p)) in
      rw s (scan_none pred (backwards c) (p + 0) e)
  pass_behind (suc k) p d e n q =
      elim (true_or_false (c p)) [
        | inl t ↦
            let m = rw (unpaired_more c k p true t) at n in
            let r = rw (unpaired_more c k p true t) at q in
            let s : suc (e - 1) ≡ e = omega arith in
            one_back k p d e (e - 1) (pass_behind k (suc p) d (e - 1) (omega arith) (omega arith))
            (rw (scan_waits pred (backwards c) 0 (suc p) (e - 1) (rw t), s) (scan_none pred (backwards c) p e))
        | inr f ↦
            let m = rw (unpaired_more c k p false f) at n in
            let r = rw (unpaired_more c k p false f) at q in
            one_back k p d e (suc e) (pass_behind k (suc p) d (suc e) (omega arith) (omega arith))
            (rw (scan_takes pred (backwards c) 0 (suc p) e (rw f)) (scan_none pred (backwards c) p e))
      ]

pub byte_same : (s : List ℕ) (k : ℕ) → unpaired (is_bit 1 s) 8 (8 * k) ≡ in_byte (get_or s k 0)
byte_same s k =
    unpaired_same (is_bit 1 s) (closes_in (get_or s k 0)) 8 (8 * k) 0
    (λ j l. rw (zero-add j) (ap (λ y. eqb y 1) (bit_at s k j l)))

entry_at : (x : ℕ) → x < 256 → get_or entries x 0 ≡ 16 * (in_byte x).closings + (in_byte x).openings
unfolding entries entry_of
entry_at x l = table_get_d entry_of 256 x 0 l

-- y is the byte x as an index
pub entry_is : {t : List ℕ} {x y r : ℕ} → t ≡ entries → x < 256 → y ≡ x → r ≡ get_or t y 0 → Entry x r
entry_is {t} {x} {y} {r} h l i q =
    let e : r ≡ 16 * (in_byte x).closings + (in_byte x).openings = q ∙ rw (i, h) (entry_at x l) in
    let m = unpaired_most (closes_in x) 8 0 in
    let u : r / 16 ≡ (in_byte x).closings = omega arith in
    let v : r % 16 ≡ (in_byte x).openings = omega arith in
    record { upper = u; lower = v; few_close = rw u m.0; few_open = rw v m.1 }
