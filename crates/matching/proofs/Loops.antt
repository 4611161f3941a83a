-- What the loops over a string keep from turn to turn, and what follows where they end: for the proofs of the functions.
--
-- Going s n p d q e   == the scan from p to n, with d that wait, comes to q, with e that wait
-- going_start, going_opens, going_closes, going_byte == from one bracket, or one byte, to the next
-- going_stuck, going_end, going_rest                 == what the scan leaves
-- Coming s e p d k f  == the scan from p back to e, with d that wait, comes to k, with f that wait
-- coming_start, coming_opens, coming_closes, coming_byte == from one bracket, or one byte, to the one before
-- coming_stuck, coming_end, coming_rest              == what the scan leaves
-- Assumes nothing.
use mathlib.Core.Path.{◌≡◌, refl, sym, ◌∙◌}
use mathlib.Core.List.{List}
use Prim.Native.Nat.{ℕ, suc, ◌+◌, ◌-◌, ◌*◌, ◌/◌, ◌%◌, ◌^◌, ◌<◌, ◌≤◌}
use native.Mathlib.Omega.{arith}
use lib.ListN.{get_or}
use Rattle.bits.specs.Strings.{bit}
use Rattle.matching.specs.Scans.{ahead, behind}
use Rattle.matching.specs.declared.scans.Scan.{Scan}
use Rattle.matching.specs.Bytes.{Entry}
use Rattle.matching.proofs.Scanning.{whole, stuck}
use Rattle.matching.proofs.Laws.{opens_at, closes_at, ahead_opens, ahead_closes, ahead_stuck, ahead_end, ahead_on, ahead_byte}
use Rattle.matching.proofs.Laws.{behind_opens, behind_closes, behind_stuck, behind_end, behind_on, behind_byte}

-- ---- forwards
pub record Going (s : List ℕ) (n p d q e : ℕ) : Type 0 where
  pub within : q ≤ n
  pub room : e ≤ q
  pub rest : ahead s n q e ≡ ahead s n p d

module _ {s : List ℕ} {n p d : ℕ} where
  pub going_start : p ≤ n → d ≤ p → Going s n p d p d
  going_start l h = record { within = l; room = h; rest = refl }

  pub going_opens : {q e r f : ℕ} → Going s n p d q e → q < n → r ≡ bit s q → r ≡ 0 → f ≡ e + 1 → Going s n p d (q + 1) f
  going_opens {q} {e} {r} {f} G l h z w =
      let a : suc q ≡ q + 1 = omega arith in
      let b : suc e ≡ f = omega arith in
      record {
        within = omega arith;
        room = omega (arith, G.room);
        rest = sym (rw (a, b) at (ahead_opens s n q e l (opens_at s q r h z))) ∙ G.rest;
      }

  pub going_closes : {q e r f : ℕ} → Going s n p d q e → q < n → r ≡ bit s q → (r ≡ 0 → ⊥) → (e ≡ 0 → ⊥) → f ≡ e - 1
      → Going s n p d (q + 1) f
  going_closes {q} {e} {r} {f} G l h z x w =
      let a : suc q ≡ q + 1 = omega arith in
      let b : suc f ≡ e = omega arith in
      record {
        within = omega arith;
        room = omega (arith, G.room);
        rest = sym (rw (a, b) at (ahead_closes s n q f l (closes_at s q r h z))) ∙ G.rest;
      }

  pub going_stuck : {q e r : ℕ} → Going s n p d q e → q < n → r ≡ bit s q → (r ≡ 0 → ⊥) → e ≡ 0 → stuck (n - q) ≡ ahead s n p d
  going_stuck {q} {e} {r} G l h z x = sym (ahead_stuck s n q l (closes_at s q r h z)) ∙ rw x at G.rest

  pub going_end : {q e : ℕ} → Going s n p d q e → n ≤ q → whole e ≡ ahead s n p d
  going_end {q} {e} G l = sym (ahead_end s n q e l) ∙ G.rest

  pub going_byte : (at : ℕ) {e r f : ℕ} → Going s n p d (8 * at) e → 8 * at + 8 ≤ n → Entry (get_or s at 0) r
      → r / 16 ≤ e → f ≡ e - r / 16 + r % 16 → Going s n p d (8 * (at + 1)) f
  going_byte at {e} {r} {f} G l h x w =
      let u = h.upper in
      let v = h.lower in
      let a : 8 * at + 8 ≡ 8 * (at + 1) = omega arith in
      let y : ahead s (8 * (at + 1)) (8 * at) e ≡ whole f = rw a at (ahead_byte s at e f (rw u at x) (rw (u, v) at w)) in
      record {
        within = omega arith;
        room = omega (arith, G.room, h.few_open);
        rest = sym (rw y at (ahead_on s n (8 * (at + 1)) (8 * at) e (omega arith) (omega arith) (rw y))) ∙ G.rest;
      }

pub going_rest : {s : List ℕ} {n p d q e : ℕ} {w : Scan} → Going s n p d q e → w ≡ ahead s n q e → w ≡ ahead s n p d
going_rest G h = h ∙ G.rest

-- ---- backwards
pub record Coming (s : List ℕ) (e p d k f : ℕ) : Type 0 where
  pub within : e ≤ k
  pub room : k + f < 2 ^ 64
  pub rest : behind s e k f ≡ behind s e p d

module _ {s : List ℕ} {e p d : ℕ} where
  pub coming_start : e ≤ p → p + d < 2 ^ 64 → Coming s e p d p d
  coming_start l h = record { within = l; room = h; rest = refl }

  pub coming_opens : {k f r g : ℕ} → Coming s e p d k f → e < k → r ≡ bit s (k - 1) → r ≡ 0 → (f ≡ 0 → ⊥) → g ≡ f - 1
      → Coming s e p d (k - 1) g
  coming_opens {k} {f} {r} {g} C l h z x w =
      let a : suc (k - 1) ≡ k = omega arith in
      let b : suc g ≡ f = omega arith in
      record {
        within = omega arith;
        room = omega (arith, C.room);
        rest = sym (rw (a, b) at (behind_opens s e (k - 1) g (omega arith) (opens_at s (k - 1) r h z))) ∙ C.rest;
      }

  pub coming_closes : {k f r g : ℕ} → Coming s e p d k f → e < k → r ≡ bit s (k - 1) → (r ≡ 0 → ⊥) → g ≡ f + 1 → Coming s e p d (k - 1) g
  coming_closes {k} {f} {r} {g} C l h z w =
      let a : suc (k - 1) ≡ k = omega arith in
      let b : suc f ≡ g = omega arith in
      record {
        within = omega arith;
        room = omega (arith, C.room);
        rest = sym (rw (a, b) at (behind_closes s e (k - 1) f (omega arith) (closes_at s (k - 1) r h z))) ∙ C.rest;
      }

  pub coming_stuck : {k f r : ℕ} → Coming s e p d k f → e < k → r ≡ bit s (k - 1) → r ≡ 0 → f ≡ 0 → stuck (k - 1 + 1 - e) ≡ behind s e p d
  coming_stuck {k} {f} {r} C l h z x =
      let a : suc (k - 1) ≡ k = omega arith in
      let b : k - 1 + 1 ≡ k = omega arith in
      rw b (sym (rw a at (behind_stuck s e (k - 1) (omega arith) (opens_at s (k - 1) r h z))) ∙ rw x at C.rest)

  pub coming_end : {k f : ℕ} → Coming s e p d k f → k ≤ e → whole f ≡ behind s e p d
  coming_end {k} {f} C l = sym (behind_end s e k f l) ∙ C.rest

pub coming_byte : {s : List ℕ} {p d : ℕ} (at : ℕ) {f r g : ℕ} → Coming s 0 p d (8 * at) f → 0 < at → Entry (get_or s (at - 1) 0) r
    → r % 16 ≤ f → g ≡ f - r % 16 + r / 16 → Coming s 0 p d (8 * (at - 1)) g
coming_byte {s} at {f} {r} {g} C l h x w =
    let u = h.upper in
    let v = h.lower in
    let a : 8 * (at - 1) + 8 ≡ 8 * at = omega arith in
    let b : behind s (8 * (at - 1)) (8 * at) f ≡ whole g = rw a at (behind_byte s (at - 1) f g (rw v at x) (rw (u, v) at w)) in
    record {
      within = omega arith;
      room = omega (arith, C.room, h.few_close);
      rest = sym (rw b at (behind_on s 0 (8 * (at - 1)) (8 * at) f (omega arith) (omega arith) (rw b))) ∙ C.rest;
    }

pub coming_rest : {s : List ℕ} {e p d k f : ℕ} {w : Scan} → Coming s e p d k f → w ≡ behind s e k f → w ≡ behind s e p d
coming_rest C h = h ∙ C.rest
