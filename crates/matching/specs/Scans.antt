-- Pairing the brackets of a string one after the other, forwards or backwards.
--
-- Scan (src/scans.rt) == what a scan leaves: how many brackets it has not passed, and how many of those passed wait for a partner
-- scan go pairs k p d == the scan of k brackets from p on, with d that wait: `go` leads to the next position; a bracket that
--                        `pairs` takes one that waits, any other waits itself; the scan stops at the first that finds none
-- ahead s n p d       == from p to n: openings wait, and a closing takes one
-- backwards c x       == whether the bracket before x opens, where c says which close
-- behind s e p d      == from p back to e, at each position the bracket before it: closings wait, and an opening takes one
-- Assumes nothing.
use Rattle.std.specs.Prelude.{Bool, true, false, not, List, ℕ, zero, suc, pred, ◌-◌}
use Rattle.bits.specs.Strings.{bit, is_bit}
use Rattle.matching.specs.declared.scans.Scan.{Scan}

unfoldable pub scan : (ℕ → ℕ) → (ℕ → Bool) → ℕ → ℕ → ℕ → Scan
scan go pairs zero p d = record { left = 0; depth = d }
scan go pairs (suc k) p d =
    elim (pairs p) [
      | true ↦ elim d [ zero ↦ record { left = suc k; depth = 0 } | suc e ↦ scan go pairs k (go p) e ]
      | false ↦ scan go pairs k (go p) (suc d)
    ]

unfoldable pub ahead : List ℕ → ℕ → ℕ → ℕ → Scan
unfolding scan bit
ahead s n p d = scan suc (is_bit 1 s) (n - p) p d

abbrev pub backwards : (ℕ → Bool) → ℕ → Bool
backwards c x = not (c (pred x))

unfoldable pub behind : List ℕ → ℕ → ℕ → ℕ → Scan
unfolding scan bit
behind s e p d = scan pred (backwards (is_bit 1 s)) (p - e) p d
