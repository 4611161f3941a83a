-- What a scan of a string says of its brackets.
--
-- balanced_scan == balanced: the scan passes all, and none waits
-- closer_scan   == the closing of an opening: where the scan from it stops
-- inner_scan    == the innermost open bracket: where the scan back stops
-- Assumes nothing.
use mathlib.Core.Path.{◌≡◌, refl, sym}
use mathlib.Core.Bool.{Bool, true, false}
use mathlib.Core.List.{List}
use Prim.Native.Nat.{ℕ, zero, suc, ◌+◌, ◌-◌, ◌<◌}
use native.Mathlib.Omega.{arith}
use borrow.Author.Tests.{eq-eqb, ne_eqb}
use lib.Dec.{eqb}
use Rattle.count.specs.Below.{pick}
use Rattle.words.specs.Brackets.{inner, balanced, closer}
use Rattle.bits.specs.Strings.{bit, is_bit, brackets}
use Rattle.bits.proofs.Laws.{bit_cases, bracket_0, bracket_1}
use Rattle.matching.specs.Scans.{ahead, behind}
use Rattle.matching.specs.declared.scans.Scan.{Scan}
use Rattle.matching.proofs.Laws.{opens_at, ahead_opens, ahead_closes, ahead_stuck, ahead_end, behind_opens, behind_closes, behind_stuck, behind_end}
use Rattle.matching.proofs.Depth.{Level, level_start, level_opens, level_closes, level_end, level_stuck}
use Rattle.matching.proofs.Depth.{Inside, inside_start, inside_opens, inside_closes, inside_here, inside_none}
use Rattle.matching.proofs.Depth.{Closed, closed_start, closed_opens, closed_closes, closed_here, closed_none}

module _ (s : List ℕ) where
  opening : (p : ℕ) → bit s p ≡ 0 → is_bit 1 s p ≡ false
  opening p e = opens_at s p 0 (sym e) refl

  closing : (p : ℕ) → bit s p ≡ 1 → is_bit 1 s p ≡ true
  closing p e = eq-eqb (bit s p) 1 e

  -- whether a scan passed all, and none waits
  abbrev pub done : Scan → Bool
  done w = pick (eqb w.left 0) (eqb w.depth 0) false

  module _ (n : ℕ) where
    -- stuck before the end
    stuck_left : (q : ℕ) → q < n → eqb (n - q) 0 ≡ false
    stuck_left q l = ne_eqb (n - q) 0 (λ e. omega arith)

    balanced_from : (k q d : ℕ) → Level (brackets s) q d → n ≡ q + k → done (ahead s n q d) ≡ balanced (brackets s) n
    balanced_from zero q d L e =
        let h : q ≡ n = omega arith in
        rw (ahead_end s n q d (omega arith)) (rw h at (level_end (brackets s) q d L))
    balanced_from (suc k) q zero L e =
        bit_cases s q
        (λ z. rw (ahead_opens s n q 0 (omega arith) (opening q z)) (balanced_from k (suc q) 1 (level_opens (brackets s) q 0 L (bracket_0 s q z)) (omega arith)))
        (λ o. rw (ahead_stuck s n q (omega arith) (closing q o), stuck_left q (omega arith)) (level_stuck (brackets s) n q L (omega arith) (bracket_1 s q o)))
    balanced_from (suc k) q (suc d) L e =
        bit_cases s q
        (λ z. rw (ahead_opens s n q (suc d) (omega arith) (opening q z))
        (balanced_from k (suc q) (suc (suc d)) (level_opens (brackets s) q (suc d) L (bracket_0 s q z)) (omega arith)))
        (λ o. rw (ahead_closes s n q d (omega arith) (closing q o)) (balanced_from k (suc q) d (level_closes (brackets s) q d L (bracket_1 s q o)) (omega arith)))

    pub balanced_scan : done (ahead s n 0 0) ≡ balanced (brackets s) n
    balanced_scan = balanced_from n 0 0 (level_start (brackets s)) (omega arith)

    closer_from : (p k q d : ℕ) → Inside (brackets s) p d q → n ≡ q + k → n - (ahead s n q d).left ≡ closer (brackets s) n p
    closer_from p zero q d I e =
        let h : q ≡ n = omega arith in
        rw (ahead_end s n q d (omega arith)) (omega (arith, inside_none (brackets s) n p d (rw h at I)))
    closer_from p (suc k) q zero I e =
        bit_cases s q
        (λ z. rw (ahead_opens s n q 0 (omega arith) (opening q z)) (closer_from p k (suc q) 1 (inside_opens (brackets s) p 0 q I (bracket_0 s q z)) (omega arith)))
        (λ o. rw (ahead_stuck s n q (omega arith) (closing q o)) (omega (arith, inside_here (brackets s) n p q I (omega arith) (bracket_1 s q o))))
    closer_from p (suc k) q (suc d) I e =
        bit_cases s q
        (λ z. rw (ahead_opens s n q (suc d) (omega arith) (opening q z))
        (closer_from p k (suc q) (suc (suc d)) (inside_opens (brackets s) p (suc d) q I (bracket_0 s q z)) (omega arith)))
        (λ o. rw (ahead_closes s n q d (omega arith) (closing q o)) (closer_from p k (suc q) d (inside_closes (brackets s) p d q I (bracket_1 s q o)) (omega arith)))

    pub closer_scan : (p : ℕ) → p < n → bit s p ≡ 0 → n - (ahead s n (suc p) 0).left ≡ closer (brackets s) n p
    closer_scan p l z = closer_from p (n - suc p) (suc p) 0 (inside_start (brackets s) p (bracket_0 s p z)) (omega arith)

  inner_from : (i k d : ℕ) → Closed (brackets s) i d k → (behind s 0 k d).left ≡ inner (brackets s) i
  inner_from i zero d C = rw (behind_end s 0 0 d (omega arith)) (closed_none (brackets s) i d C)
  inner_from i (suc k) zero C =
      bit_cases s k
      (λ z. rw (behind_stuck s 0 k (omega arith) (opening k z)) (omega (arith, closed_here (brackets s) i k C (bracket_0 s k z))))
      (λ o. rw (behind_closes s 0 k 0 (omega arith) (closing k o)) (inner_from i k 1 (closed_closes (brackets s) i 0 k C (bracket_1 s k o))))
  inner_from i (suc k) (suc d) C =
      bit_cases s k
      (λ z. rw (behind_opens s 0 k d (omega arith) (opening k z)) (inner_from i k d (closed_opens (brackets s) i d k C (bracket_0 s k z))))
      (λ o. rw (behind_closes s 0 k (suc d) (omega arith) (closing k o)) (inner_from i k (suc (suc d)) (closed_closes (brackets s) i (suc d) k C (bracket_1 s k o))))

  pub inner_scan : (i : ℕ) → (behind s 0 i 0).left ≡ inner (brackets s) i
  inner_scan i = inner_from i i 0 (closed_start (brackets s) i)
