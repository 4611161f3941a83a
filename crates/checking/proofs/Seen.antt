-- Flags on the entries of the turning list passed: two equal entries meet at a flag.
--
-- Seen ts old i w == the first i entries differ, and their ends, and no others, are flagged in w
-- seen_..         == from one entry to the next, and where the pass ends
-- Assumes nothing.
use mathlib.Core.Path.{◌≡◌, sym, ap, ◌∙◌}
use mathlib.Core.Logic.{◌≢◌, inl, inr}
use mathlib.Core.Bool.{true, false}
use mathlib.Core.List.{List}
use Prim.Native.Nat.{ℕ, ◌+◌, ◌*◌, ◌<◌, ◌≤◌}
use native.Mathlib.Omega.{arith}
use lib.ListN.{length, get_or, set, length-set}
use lib.Seq.{get_or-set_same, get_or-set_other}
use Rattle.count.specs.Below.{Decides}
use Rattle.count.proofs.Logic.{same_or_not}
use Rattle.lending.specs.Lists.{Blank, Kept}
use Rattle.lending.proofs.Kept.{kept_none, kept_set}
use Rattle.checking.specs.Lent.{next, Ranged, Differ}
use Rattle.checking.proofs.Decided.{decides_yes, decides_no}

pub record Seen (ts old : List ℕ) (i : ℕ) (w : List ℕ) : Type 0 where
  pub within : i ≤ length ts
  pub room : length ts ≤ length w
  pub kept : Kept (length ts) old w
  pub on : (j : ℕ) → j < i → get_or w (next ts j) 0 ≢ 0
  pub off : (x : ℕ) → x < length ts → get_or w x 0 ≢ 0 → (j : ℕ) × (j < i) × (next ts j ≡ x)
  pub differ : (j k : ℕ) → j < k → k < i → next ts j ≢ next ts k

module _ (ts old : List ℕ) where
  pub seen_start : Blank (3 * length ts) old → Seen ts old 0 old
  seen_start B =
      record {
        within = omega arith;
        room = omega (arith, B.room);
        kept = kept_none (length ts) old;
        on = λ j l. absurd (omega arith);
        off = λ x l n. absurd (n (B.zero x (omega arith)));
        differ = λ j k h l. absurd (omega arith);
      }

  module _ (R : Ranged ts) (i : ℕ) (w : List ℕ) (S : Seen ts old i w) (l : i < length ts) (x : ℕ) (e : x ≡ next ts i) where
    pub seen_room : x < length w
    seen_room = omega (arith, R.below i l, S.room)

    -- an entry that was passed is another one
    apart : get_or w x 0 ≡ 0 → (j : ℕ) → j < i → next ts j ≢ x
    apart z j h q = S.on j h (ap (λ y. get_or w y 0) q ∙ z)

    pub seen_more : get_or w x 0 ≡ 0 → Seen ts old (i + 1) (set w x 1)
    seen_more z =
        record {
          within = omega arith;
          room = omega (arith, length-set w x 1, S.room);
          kept = kept_set (length ts) old w x 1 S.kept (omega (arith, R.below i l));
          on = λ j h.
              elim (same_or_not j i) [
                | inl q ↦
                    let p : next ts j ≡ x = ap (next ts) q ∙ sym e in
                    rw (p, get_or-set_same w x 1 0 seen_room) (omega arith)
                | inr n ↦
                    let d : next ts j ≢ x = apart z j (omega arith) in
                    rw (get_or-set_other w x (next ts j) 1 0 d) (S.on j (omega arith))
              ];
          off = λ y b f.
              elim (same_or_not y x) [
                | inl q ↦ (i, omega arith, sym (q ∙ e))
                | inr n ↦
                    let r = S.off y b (rw (get_or-set_other w x y 1 0 n) at f) in
                    (r.0, omega (arith, r.1), r.2)
              ];
          differ = λ j k h b.
              elim (same_or_not k i) [
                | inl q ↦ λ p. apart z j (omega arith) (p ∙ ap (next ts) q ∙ sym e)
                | inr n ↦ S.differ j k h (omega arith)
              ];
        }

    pub seen_twice : (get_or w x 0 ≡ 0 → ⊥) → Decides false (Differ ts)
    seen_twice n =
        decides_no
        (λ D.
        let r = S.off x (omega (arith, R.below i l)) n in
        D.differ r.0 i r.1 l (r.2 ∙ e))

  pub seen_all : (i : ℕ) (w : List ℕ) → Seen ts old i w → length ts ≤ i → Decides true (Differ ts)
  seen_all i w S l = decides_yes (record { differ = λ j k h b. S.differ j k h (omega arith) })

  pub seen_kept : (i : ℕ) (w : List ℕ) → Seen ts old i w → Kept (length ts) old w
  seen_kept i w S = S.kept

  pub seen_length : (i : ℕ) (w : List ℕ) → Seen ts old i w → length w ≡ length old
  seen_length i w S = S.kept.same_length
