-- The working list: stores into its first entries, and zeros over them again.
--
-- kept_none, kept_set, kept_then == no store; a store before entry k; one change after another
-- restored         == a list whose changed entries are made 0 again is as it was
-- blank_cleared    == a list whose first entries were made 0 is blank
-- cleared_again    == entries made 0 before and after
-- once             == a third of the entries
-- Assumes nothing.
use mathlib.Core.Path.{◌≡◌, refl, sym, ◌∙◌}
use mathlib.Core.Logic.{inl, inr}
use mathlib.Core.List.{List}
use Prim.Native.Nat.{ℕ, ◌*◌, ◌<◌, ◌≤◌}
use native.Mathlib.Omega.{arith}
use lib.ListN.{length, set, length-set}
use lib.Seq.{get_or-set_other, ext_get_or}
use Rattle.lending.proofs.Clearing.{cleared_length, cleared_first, cleared_rest}
use Rattle.count.proofs.Logic.{lt_or_ge}
use Rattle.answers.specs.Lent.{cleared}
use Rattle.lending.specs.Lists.{Blank, Kept}

pub kept_none : (k : ℕ) (l : List ℕ) → Kept k l l
kept_none k l = record { same_length = refl; rest = λ i h. refl }

pub kept_set : (k : ℕ) (old w : List ℕ) (i v : ℕ) → Kept k old w → i < k → Kept k old (set w i v)
kept_set k old w i v K h =
    record {
      same_length = length-set w i v ∙ K.same_length;
      rest = λ j l. get_or-set_other w i j v 0 (omega arith) ∙ K.rest j l;
    }

pub kept_then : (k : ℕ) (old w new : List ℕ) → Kept k old w → Kept k w new → Kept k old new
kept_then k old w new K L =
    record { same_length = L.same_length ∙ K.same_length; rest = λ i h. L.rest i h ∙ K.rest i h }

pub restored : (k j : ℕ) (old w new : List ℕ) → k ≤ j → Blank j old → Kept k old w → new ≡ cleared k w → new ≡ old
restored k j old w new l B K e =
    e
    ∙ ext_get_or 0 (cleared k w) old (cleared_length k w ∙ K.same_length)
    (λ i h.
    elim (lt_or_ge i k) [
      | inl b ↦ cleared_first k w i b ∙ sym (B.zero i (omega arith))
      | inr g ↦ cleared_rest k w i g ∙ K.rest i g
    ])

pub blank_cleared : (k : ℕ) (work u : List ℕ) → k ≤ length work → u ≡ cleared k work → Blank k u
blank_cleared k work u l e =
    rw e (record { room = omega (arith, cleared_length k work); zero = λ i j. cleared_first k work i j })

-- what was cleared, changed only there, and cleared again
pub cleared_again : (k : ℕ) (old v : List ℕ) → Kept k (cleared k old) v → cleared k v ≡ cleared k old
cleared_again k old v K =
    ext_get_or 0 (cleared k v) (cleared k old) (cleared_length k v ∙ K.same_length)
    (λ i l.
    elim (lt_or_ge i k) [
      | inl h ↦ cleared_first k v i h ∙ sym (cleared_first k old i h)
      | inr g ↦ cleared_rest k v i g ∙ K.rest i g
    ])

pub once : (ends : ℕ) → ends ≤ 3 * ends
once ends = omega arith

pub ruleset restored_all = (restored, once)
