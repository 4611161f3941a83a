-- Stores into a part of a list.
--
-- outside_none, outside_set == no store; a store into the part
-- Assumes nothing.
use mathlib.Core.Path.{refl, ◌∙◌}
use mathlib.Core.List.{List}
use Prim.Native.Nat.{ℕ, ◌<◌, ◌≤◌}
use native.Mathlib.Omega.{arith}
use lib.ListN.{set, length-set}
use lib.Seq.{get_or-set_other}
use Rattle.lending.specs.Lists.{Outside}

module _ (a e : ℕ) where
  pub outside_none : (l : List ℕ) → Outside a e l l
  outside_none l = record { same_length = refl; before = λ i h. refl; after = λ i h. refl }

  pub outside_set : (old w : List ℕ) (i v : ℕ) → Outside a e old w → a ≤ i → i < e → Outside a e old (set w i v)
  outside_set old w i v O l h =
      record {
        same_length = length-set w i v ∙ O.same_length;
        before = λ j k. get_or-set_other w i j v 0 (omega arith) ∙ O.before j k;
        after = λ j k. get_or-set_other w i j v 0 (omega arith) ∙ O.after j k;
      }
