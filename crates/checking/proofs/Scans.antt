-- What one pass over each list tells: checks 1 and 3, and how many borders are marked.
--
-- lengths_long, lengths_are == what the comparison of lengths says of check 1
-- range_start, range_entries, range_marks == what they say of check 3
-- Marked ms e k    == k of the first e borders are marked
-- marked_..        == from one border to the next, and at the end
-- Assumes nothing.
use mathlib.Core.Path.{◌≡◌, sym}
use mathlib.Core.Bool.{Bool, true, false}
use mathlib.Core.List.{List}
use Prim.Native.Nat.{ℕ, ◌+◌, ◌*◌, ◌<◌, ◌≤◌, max}
use native.Mathlib.Omega.{arith}
use borrow.Author.Tests.{eq-eqb, ne_eqb, eqb-true}
use lib.Dec.{eqb}
use lib.ListN.{length, get_or}
use Rattle.count.specs.Below.{Decides, count}
use Rattle.count.proofs.Below.{count_zero, count_yes, count_no}
use Rattle.count.proofs.Decides.{decides_refutes}
use Rattle.drawing.specs.Drawing.{borders, ends, turn, is_marked, lent}
use Rattle.drawing.specs.Checks.{LengthsFit, lengths_fit, InRange, in_range, mark_count}
use Rattle.drawing.proofs.Checks.{lengths_decides, range_decides}
use Rattle.checking.specs.Lent.{Ranged, Binary}
use Rattle.checking.proofs.Laws.{ranged_from}
use Rattle.checking.proofs.Decided.{decides_no, decides_same}

-- ---- lengths_fit
pub lengths_long : (ts ms : List ℕ) → 4096 < length ts → (s : ℕ) → false ≡ lengths_fit (lent ts ms s)
lengths_long ts ms l s =
    decides_same (decides_no (λ F. omega (arith, F.most))) (lengths_decides (lent ts ms s))

pub lengths_are : (ts ms : List ℕ) → length ts ≤ 4096 → (s : ℕ) → eqb (length ts) (2 * length ms) ≡ lengths_fit (lent ts ms s)
lengths_are ts ms l s =
    decides_same
    (record {
      sound = λ h. record { half = eqb-true (length ts) (2 * length ms) h; most = l };
      complete = λ F. eq-eqb (length ts) (2 * length ms) F.half;
    })
    (lengths_decides (lent ts ms s))

-- ---- in_range
module _ (ts ms : List ℕ) (s : ℕ) (F : LengthsFit (lent ts ms s)) where
  -- the parts of check 3 by the lists
  in_range_from : Ranged ts → s < max (length ts) 1 → Binary ms → InRange (lent ts ms s)
  unfolding ends borders turn
  in_range_from R l B =
      let h : length ts ≡ 2 * length ms = F.half in
      record {
        entries = λ i b. rw (← h) (R.below i (rw h b));
        start = rw (← h) l;
        marks = B.small;
      }

  range_binary : InRange (lent ts ms s) → Binary ms
  unfolding borders
  range_binary I = record { small = I.marks }

  range_below : InRange (lent ts ms s) → s < max (length ts) 1
  unfolding ends borders
  range_below I = omega (arith, I.start, F.half)

  pub range_start : max (length ts) 1 ≤ s → false ≡ in_range (lent ts ms s)
  range_start l = decides_same (decides_no (λ I. omega (arith, range_below I))) (range_decides (lent ts ms s))

  pub range_entries : (q : Bool) → Decides q (Ranged ts) → q ≡ false → false ≡ in_range (lent ts ms s)
  range_entries q d e =
      decides_same (decides_no (λ I. decides_refutes d e (ranged_from ts ms s F.half I.entries))) (range_decides (lent ts ms s))

  pub range_marks : s < max (length ts) 1 → (q : Bool) → Decides q (Ranged ts) → q ≡ true
      → (r : Bool) → Decides r (Binary ms) → r ≡ in_range (lent ts ms s)
  range_marks l q d t r D =
      decides_same
      (record {
        sound = λ h. in_range_from (d.sound t) l (D.sound h);
        complete = λ I. D.complete (range_binary I);
      })
      (range_decides (lent ts ms s))

-- ---- count_marks
pub record Marked (ms : List ℕ) (e k : ℕ) : Type 0 where
  pub within : e ≤ length ms
  pub few : k ≤ e
  pub so_far : k ≡ count (λ i. eqb (get_or ms i 0) 1) e

module _ (ms : List ℕ) where
  abbrev mark : ℕ → Bool
  mark i = eqb (get_or ms i 0) 1

  pub marked_start : Marked ms 0 0
  marked_start = record { within = omega arith; few = omega arith; so_far = sym (count_zero mark) }

  pub marked_yes : (e k j : ℕ) → Marked ms e k → e < length ms → get_or ms e 0 ≡ 1 → j ≡ k + 1 → Marked ms (e + 1) j
  marked_yes e k j M l h q =
      record {
        within = omega arith;
        few = omega (arith, M.few);
        so_far = omega (arith, M.so_far, count_yes mark e (eq-eqb (get_or ms e 0) 1 h));
      }

  pub marked_no : (e k j : ℕ) → Marked ms e k → e < length ms → (get_or ms e 0 ≡ 1 → ⊥) → j ≡ k → Marked ms (e + 1) j
  marked_no e k j M l h q =
      record {
        within = omega arith;
        few = omega (arith, M.few);
        so_far = omega (arith, M.so_far, count_no mark e (ne_eqb (get_or ms e 0) 1 h));
      }

  pub marked_end : (e k : ℕ) → Marked ms e k → length ms ≤ e → (ts : List ℕ) (s : ℕ) → k ≡ mark_count (lent ts ms s)
  unfolding mark_count is_marked borders
  marked_end e k M l ts s =
      let h : e ≡ length ms = omega (arith, M.within) in
      rw h at M.so_far
