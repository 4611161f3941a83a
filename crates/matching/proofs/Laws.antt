-- The laws of the scans of a string, forwards and backwards, for whoever calls: over one bracket, over one byte, over a few at once.
--
-- opens_at, closes_at == what a bit that was read is
-- ahead_opens, ahead_closes, ahead_stuck, ahead_end     == forwards: over one bracket, and at the end
-- ahead_on, ahead_off == a scan to m that passes all goes on from there, and one that stops is the whole one
-- ahead_left, ahead_depth == how much it leaves
-- ahead_few           == over no more brackets than wait
-- ahead_byte          == over a byte, where as many wait as its unpaired closings
-- behind_opens, behind_closes, behind_stuck, behind_end == backwards: over one bracket, and at the end
-- behind_on, behind_off, behind_left, behind_depth, behind_byte == the same backwards
-- Assumes nothing.
use mathlib.Core.Path.{◌≡◌, refl, sym, ap, ◌∙◌}
use mathlib.Core.Bool.{true, false}
use mathlib.Core.List.{List}
use Prim.Native.Nat.{ℕ, zero, suc, pred, ◌+◌, ◌-◌, ◌*◌, ◌<◌, ◌≤◌}
use native.Mathlib.Nat.{add-zero}
use native.Mathlib.Numerals.{add-one}
use native.Mathlib.Omega.{arith}
use borrow.Author.Tests.{eq-eqb, ne_eqb}
use lib.ListN.{get_or}
use Rattle.bits.specs.Strings.{bit, is_bit, rank, among}
use Rattle.bits.proofs.Laws.{bit_below_2, bit_cases, rank_here, rank_other, rank_mono, rank_among}
use Rattle.matching.specs.Scans.{scan, ahead, backwards, behind}
use Rattle.matching.specs.Bytes.{in_byte}
use Rattle.matching.proofs.Scanning.{whole, stuck, far_ahead, far_behind, scan_none, scan_waits, scan_takes, scan_stuck, scan_left, scan_depth, scan_on, scan_off}
use Rattle.matching.proofs.Passing.{pass_ahead, pass_behind, byte_same}

pub opens_at : (s : List ℕ) (p r : ℕ) → r ≡ bit s p → r ≡ 0 → is_bit 1 s p ≡ false
opens_at s p r h e = ne_eqb (bit s p) 1 (λ n. omega arith)

pub closes_at : (s : List ℕ) (p r : ℕ) → r ≡ bit s p → (r ≡ 0 → ⊥) → is_bit 1 s p ≡ true
closes_at s p r h n = eq-eqb (bit s p) 1 (omega (arith, bit_below_2 s p))

-- ---- forwards
module _ (s : List ℕ) (n : ℕ) where
  from_here : (q : ℕ) → q < n → n - q ≡ suc (n - suc q)
  from_here q l = omega arith

  pub ahead_opens : (q e : ℕ) → q < n → is_bit 1 s q ≡ false → ahead s n q e ≡ ahead s n (suc q) (suc e)
  unfolding ahead
  ahead_opens q e l b = rw (from_here q l) (scan_waits suc (is_bit 1 s) (n - suc q) q e b)

  pub ahead_closes : (q e : ℕ) → q < n → is_bit 1 s q ≡ true → ahead s n q (suc e) ≡ ahead s n (suc q) e
  unfolding ahead
  ahead_closes q e l b = rw (from_here q l) (scan_takes suc (is_bit 1 s) (n - suc q) q e b)

  pub ahead_stuck : (q : ℕ) → q < n → is_bit 1 s q ≡ true → ahead s n q 0 ≡ stuck (n - q)
  unfolding ahead
  ahead_stuck q l b = rw (from_here q l) (scan_stuck suc (is_bit 1 s) (n - suc q) q b)

  pub ahead_end : (q e : ℕ) → n ≤ q → ahead s n q e ≡ whole e
  unfolding ahead
  ahead_end q e l = let z : n - q ≡ 0 = omega arith in rw z (scan_none suc (is_bit 1 s) q e)

  pub ahead_on : (m q e : ℕ) → q ≤ m → m ≤ n → (ahead s m q e).left ≡ 0 → ahead s n q e ≡ ahead s n m (ahead s m q e).depth
  unfolding ahead
  ahead_on m q e l h z =
      let a : n - q ≡ (m - q) + (n - m) = omega arith in
      let b : q + (m - q) ≡ m = omega arith in
      rw a (rw (far_ahead (m - q) q, b) at (scan_on suc (is_bit 1 s) (m - q) (n - m) q e z))

  pub ahead_off : (m q e : ℕ) → q ≤ m → m ≤ n → 0 < (ahead s m q e).left → ahead s n q e ≡ stuck ((ahead s m q e).left + (n - m))
  unfolding ahead
  ahead_off m q e l h z =
      let a : n - q ≡ (m - q) + (n - m) = omega arith in
      rw a (scan_off suc (is_bit 1 s) (m - q) (n - m) q e z)

  pub ahead_left : (q e : ℕ) → (ahead s n q e).left ≤ n - q
  unfolding ahead
  ahead_left q e = scan_left suc (is_bit 1 s) (n - q) q e

  pub ahead_depth : (q e : ℕ) → (ahead s n q e).depth ≤ e + (n - q)
  unfolding ahead
  ahead_depth q e = scan_depth suc (is_bit 1 s) (n - q) q e

-- c of the k brackets from q on close
few : (s : List ℕ) (k q d e c : ℕ) → k ≤ d → rank 1 s q + c ≡ rank 1 s (q + k) → e + 2 * c ≡ d + k → scan suc (is_bit 1 s) k q d ≡ whole e
few s zero q d e c l r h =
    let z : c ≡ 0 = omega (arith, ap (rank 1 s) (add-zero q)) in
    let x : d ≡ e = omega arith in
    rw x (scan_none suc (is_bit 1 s) q e)
few s (suc k) q d e c l r h =
    let i : q + suc k ≡ suc q + k = omega arith in
    let t : rank 1 s (q + suc k) ≡ rank 1 s (suc q + k) = ap (rank 1 s) i in
    let o : rank 1 s (suc q) ≡ rank 1 s (q + 1) = ap (rank 1 s) (sym (add-one q)) in
    let m = rank_mono 1 s (suc q) (suc q + k) (omega arith) in
    bit_cases s q
    (λ z.
    let y = rank_other 1 s q (λ e. omega arith) in
    scan_waits suc (is_bit 1 s) k q d (opens_at s q 0 (sym z) refl) ∙ few s k (suc q) (suc d) e c (omega arith) (omega arith) (omega arith))
    (λ b.
    let y = rank_here 1 s q b in
    let x : d ≡ suc (d - 1) = omega arith in
    rw (x, scan_takes suc (is_bit 1 s) k q (d - 1) (eq-eqb (bit s q) 1 b)) (few s k (suc q) (d - 1) e (c - 1) (omega arith) (omega arith) (omega arith)))

pub ahead_few : (s : List ℕ) (n q d c : ℕ) → n - q ≤ d → c ≡ among 1 s q (n - q) → c ≤ n - q → ahead s n q d ≡ whole (d + (n - q) - 2 * c)
unfolding ahead
ahead_few s n q d c h r l = few s (n - q) q d (d + (n - q) - 2 * c) c h (omega (arith, rank_among 1 s q (n - q))) (omega arith)

pub ahead_byte : (s : List ℕ) (at e f : ℕ) → (in_byte (get_or s at 0)).closings ≤ e → f ≡ e - (in_byte (get_or s at 0)).closings + (in_byte (get_or s at 0)).openings
    → ahead s (8 * at + 8) (8 * at) e ≡ whole f
unfolding ahead
ahead_byte s at e f l h =
    let a : 8 * at + 8 - 8 * at ≡ 8 = omega arith in
    rw a (pass_ahead (is_bit 1 s) 8 (8 * at) e f (rw (byte_same s at) l) (rw (byte_same s at) h))

-- ---- backwards
module _ (s : List ℕ) (e : ℕ) where
  from_there : (j : ℕ) → e ≤ j → suc j - e ≡ suc (j - e)
  from_there j l = omega arith

  pub behind_closes : (j f : ℕ) → e ≤ j → is_bit 1 s j ≡ true → behind s e (suc j) f ≡ behind s e j (suc f)
  unfolding behind
  behind_closes j f l b = rw (from_there j l) (scan_waits pred (backwards (is_bit 1 s)) (j - e) (suc j) f (rw b))

  pub behind_opens : (j f : ℕ) → e ≤ j → is_bit 1 s j ≡ false → behind s e (suc j) (suc f) ≡ behind s e j f
  unfolding behind
  behind_opens j f l b = rw (from_there j l) (scan_takes pred (backwards (is_bit 1 s)) (j - e) (suc j) f (rw b))

  pub behind_stuck : (j : ℕ) → e ≤ j → is_bit 1 s j ≡ false → behind s e (suc j) 0 ≡ stuck (suc j - e)
  unfolding behind
  behind_stuck j l b = rw (from_there j l) (scan_stuck pred (backwards (is_bit 1 s)) (j - e) (suc j) (rw b))

  pub behind_end : (k f : ℕ) → k ≤ e → behind s e k f ≡ whole f
  unfolding behind
  behind_end k f l = let z : k - e ≡ 0 = omega arith in rw z (scan_none pred (backwards (is_bit 1 s)) k f)

  pub behind_on : (m k f : ℕ) → e ≤ m → m ≤ k → (behind s m k f).left ≡ 0 → behind s e k f ≡ behind s e m (behind s m k f).depth
  unfolding behind
  behind_on m k f l h z =
      let a : k - e ≡ (k - m) + (m - e) = omega arith in
      let b : k - (k - m) ≡ m = omega arith in
      rw a (rw (far_behind (k - m) k, b) at (scan_on pred (backwards (is_bit 1 s)) (k - m) (m - e) k f z))

  pub behind_off : (m k f : ℕ) → e ≤ m → m ≤ k → 0 < (behind s m k f).left → behind s e k f ≡ stuck ((behind s m k f).left + (m - e))
  unfolding behind
  behind_off m k f l h z =
      let a : k - e ≡ (k - m) + (m - e) = omega arith in
      rw a (scan_off pred (backwards (is_bit 1 s)) (k - m) (m - e) k f z)

  pub behind_left : (k f : ℕ) → (behind s e k f).left ≤ k - e
  unfolding behind
  behind_left k f = scan_left pred (backwards (is_bit 1 s)) (k - e) k f

  pub behind_depth : (k f : ℕ) → (behind s e k f).depth ≤ f + (k - e)
  unfolding behind
  behind_depth k f = scan_depth pred (backwards (is_bit 1 s)) (k - e) k f

pub behind_byte : (s : List ℕ) (at f g : ℕ) → (in_byte (get_or s at 0)).openings ≤ f → g ≡ f - (in_byte (get_or s at 0)).openings + (in_byte (get_or s at 0)).closings
    → behind s (8 * at) (8 * at + 8) f ≡ whole g
unfolding behind
behind_byte s at f g l h =
    let a : 8 * at + 8 - 8 * at ≡ 8 = omega arith in
    rw a (pass_behind (is_bit 1 s) 8 (8 * at) f g (rw (byte_same s at) l) (rw (byte_same s at) h))
