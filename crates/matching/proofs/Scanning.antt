-- Laws of a scan, whichever way it goes.
--
-- whole d, stuck k  == all are passed and d wait; k are left
-- scan_none, scan_waits, scan_takes, scan_stuck == over no bracket, and over one
-- scan_left, scan_depth == it leaves no more than there are, and each bracket adds at most one that waits
-- far go m p        == the position m steps on; far_ahead, far_behind: m more, m less
-- scan_on, scan_off == a scan of m + k brackets is one of m and, where that passes them all, one of k from there on; else it stops there
-- Assumes nothing.
use mathlib.Core.Path.{◌≡◌, refl, sym, ap, ◌∙◌}
use mathlib.Core.Logic.{◌⊎◌, inl, inr}
use mathlib.Core.Bool.{Bool, true, false}
use Prim.Native.Nat.{ℕ, zero, suc, pred, ◌+◌, ◌-◌, ◌<◌, ◌≤◌}
use native.Mathlib.Nat.{zero-add, suc-add}
use native.Mathlib.Omega.{arith}
use Rattle.count.proofs.Logic.{true_or_false}
use Rattle.matching.specs.Scans.{scan}
use Rattle.matching.specs.declared.scans.Scan.{Scan}

unfoldable pub far : (ℕ → ℕ) → ℕ → ℕ → ℕ
far go zero p = p
far go (suc m) p = far go m (go p)

pub far_ahead : (m p : ℕ) → far suc m p ≡ p + m
unfolding far
far_ahead zero p = omega arith
far_ahead (suc m) p = far_ahead m (suc p) ∙ omega arith

pub far_behind : (m p : ℕ) → far pred m p ≡ p - m
unfolding far
far_behind zero p = omega arith
far_behind (suc m) p = far_behind m (pred p) ∙ omega arith

abbrev pub whole : ℕ → Scan
whole d = record { left = 0; depth = d }

abbrev pub stuck : ℕ → Scan
stuck k = record { left = k; depth = 0 }

module _ (go : ℕ → ℕ) (pairs : ℕ → Bool) where
  pub scan_none : (p d : ℕ) → scan go pairs 0 p d ≡ whole d
  unfolding scan
  scan_none p d = refl

  pub scan_waits : (k p d : ℕ) → pairs p ≡ false → scan go pairs (suc k) p d ≡ scan go pairs k (go p) (suc d)
  unfolding scan
  scan_waits k p d e = rw (e, scan)

  pub scan_takes : (k p d : ℕ) → pairs p ≡ true → scan go pairs (suc k) p (suc d) ≡ scan go pairs k (go p) d
  unfolding scan
  scan_takes k p d e = rw (e, scan)

  pub scan_stuck : (k p : ℕ) → pairs p ≡ true → scan go pairs (suc k) p 0 ≡ stuck (suc k)
  unfolding scan
  scan_stuck k p e = rw (e, scan)

  -- over the bracket at p the scan goes on, with so many that wait, however many brackets are to come
  record Goes (p d : ℕ) : Type 0 where
    waiting : ℕ
    most : waiting ≤ suc d
    goes : (k : ℕ) → scan go pairs (suc k) p d ≡ scan go pairs k (go p) waiting

  step : (p d : ℕ) → ((k : ℕ) → scan go pairs (suc k) p d ≡ stuck (suc k)) ⊎ Goes p d
  step p d =
      elim (true_or_false (pairs p)) [
        | inl t ↦ taking t d
        | inr w ↦ inr (record { waiting = suc d; most = omega arith; goes = λ k. scan_waits k p d w })
      ]
    where
      taking : pairs p ≡ true → (d : ℕ) → ((k : ℕ) → scan go pairs (suc k) p d ≡ stuck (suc k)) ⊎ Goes p d
      taking t zero = inl (λ k. scan_stuck k p t)
      taking t (suc d) = inr (record { waiting = d; most = omega arith; goes = λ k. scan_takes k p d t })

  pub scan_left : (k p d : ℕ) → (scan go pairs k p d).left ≤ k
  scan_left zero p d = rw (scan_none p d) (omega arith)
  scan_left (suc k) p d =
      elim (step p d) [
        | inl s ↦ rw (s k) (omega arith)
        | inr w ↦ rw (w.goes k) (omega (arith, scan_left k (go p) w.waiting))
      ]

  pub scan_depth : (k p d : ℕ) → (scan go pairs k p d).depth ≤ d + k
  scan_depth zero p d = rw (scan_none p d) (omega arith)
  scan_depth (suc k) p d =
      elim (step p d) [
        | inl s ↦ rw (s k) (omega arith)
        | inr w ↦ rw (w.goes k) (omega (arith, w.most, scan_depth k (go p) w.waiting))
      ]

  pub scan_on : (m k p d : ℕ) → (scan go pairs m p d).left ≡ 0
      → scan go pairs (m + k) p d ≡ scan go pairs k (far go m p) (scan go pairs m p d).depth
  unfolding far
  scan_on zero k p d z = rw (zero-add k, scan_none p d)
  scan_on (suc m) k p d z =
      elim (step p d) [
        | inl s ↦ absurd (omega (arith, rw (s m) at z))
        | inr w ↦ rw (suc-add m k, w.goes (m + k), w.goes m) (scan_on m k (go p) w.waiting (rw (w.goes m) at z))
      ]

  pub scan_off : (m k p d : ℕ) → 0 < (scan go pairs m p d).left → scan go pairs (m + k) p d ≡ stuck ((scan go pairs m p d).left + k)
  scan_off zero k p d z = absurd (omega (arith, rw (scan_none p d) at z))
  scan_off (suc m) k p d z =
      elim (step p d) [
        | inl s ↦ rw (suc-add m k, s (m + k), s m) (ap stuck (sym (suc-add m k)))
        | inr w ↦ rw (suc-add m k, w.goes (m + k), w.goes m) (scan_off m k (go p) w.waiting (rw (w.goes m) at z))
      ]
