-- Marks written one after the other.
--
-- Copied w from e old ms == the first e marks of ms are those that stand in w, and there are as many as in old
-- copied_..         == from one mark to the next, and at the last
-- Assumes nothing.
use mathlib.Core.Path.{◌≡◌, refl, sym, ◌∙◌}
use mathlib.Core.Logic.{inl, inr}
use mathlib.Core.List.{List}
use Prim.Native.Nat.{ℕ, ◌+◌, ◌<◌, ◌≤◌}
use native.Mathlib.Omega.{arith}
use lib.ListN.{length, get_or, set, length-set}
use lib.Seq.{get_or-set_same, get_or-set_other, ext_get_or}
use mir.Syntax.{w8}
use mir.Val.{Fits}
use Rattle.count.specs.Below.{table}
use Rattle.count.proofs.Logic.{same_or_not}
use Rattle.count.proofs.Lists.{table_length, table_get_d}
use Rattle.reaching.specs.Reaching.{MarksAt}

pub record Copied (w : List ℕ) (from e : ℕ) (old ms : List ℕ) : Type 0 where
  pub same_length : length ms ≡ length old
  pub within : e ≤ length ms
  pub done : (i : ℕ) → i < e → get_or ms i 0 ≡ get_or w (from + i) 0

-- a mark of 0 or 1 fits a byte
pub copied_fits : (w : List ℕ) (from m : ℕ) → MarksAt w from m → (e : ℕ) → e < m → Fits w8 (get_or w (from + e) 0)
copied_fits w from m M e l = record { fits = omega (arith, M.small e l) }

module _ (w : List ℕ) (from : ℕ) (old : List ℕ) where
  pub copied_start : Copied w from 0 old old
  copied_start = record { same_length = refl; within = omega arith; done = λ i l. absurd (omega arith) }

  module _ (e : ℕ) (ms : List ℕ) (C : Copied w from e old ms) where
    pub copied_length : length ms ≡ length old
    copied_length = C.same_length

    pub copied_more : e < length ms → Copied w from (e + 1) old (set ms e (get_or w (from + e) 0))
    copied_more l =
        let x : ℕ = get_or w (from + e) 0 in
        record {
          same_length = length-set ms e x ∙ C.same_length;
          within = omega (arith, length-set ms e x);
          done = λ i b.
              elim (same_or_not i e) [
                | inl q ↦ rw q (get_or-set_same ms e x 0 l)
                | inr d ↦ get_or-set_other ms e i x 0 d ∙ C.done i (omega arith)
              ];
        }

    pub copied_all : length ms ≤ e → ms ≡ table (λ i. get_or w (from + i) 0) (length old)
    copied_all l =
        let n : length (table (λ i. get_or w (from + i) 0) (length old)) ≡ length old = table_length (λ i. get_or w (from + i) 0) (length old) in
        ext_get_or 0 ms (table (λ i. get_or w (from + i) 0) (length old)) (C.same_length ∙ sym n)
        (λ i b.
        C.done i (omega arith)
        ∙ sym (table_get_d (λ i. get_or w (from + i) 0) (length old) i 0 (omega (arith, C.same_length))))
