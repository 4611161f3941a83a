-- `reaching::tree::note_tree` meets its contract. Assumes nothing.
use native.Mathlib.Omega.{arith}
use Rattle.reaching.proofs.Told.{tree_noted}
use Rattle.reaching.proofs.tree.note_tree.Goals as goal

pub returns : goal.returns
returns c =
    record {
      by_index = tree_noted _ _ c.requires.0 _ _ _ c.spread-reached.ensures.by_index (omega arith);
      kept = c.spread-reached.ensures.kept;
    }
