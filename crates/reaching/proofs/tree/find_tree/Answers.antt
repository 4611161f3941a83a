-- `reaching::tree::find_tree` meets its contract. Assumes nothing.
use mathlib.Core.Path.{◌∙◌}
use native.Mathlib.Omega.{arith}
use Rattle.lending.proofs.Kept.{restored}
use Rattle.reaching.proofs.Told.{tree_not, tree_found}
use Rattle.reaching.proofs.tree.find_tree.Goals.{else-found, then-found}
use Rattle.reaching.proofs.tree.find_tree.Goals as goal

pub write_marks-requires : goal.write_marks-requires
write_marks-requires c = (c.note_tree-found.ensures.by_index c.args.marks.now 0 c.requires.1).marks

pub returns : goal.returns
returns c =
    record {
      by_index = λ s.
          let N = c.note_tree-found.ensures.by_index _ s c.requires.1 in
          elim c.if-found.branch [
            | then-found w ↦ tree_found _ _ _ _ _ N _ (w.marks-is ∙ w.write_marks.ensures) w.if-found.true
            | else-found w ↦ tree_not _ _ _ _ _ N _ w.marks-is w.if-found.false
          ];
      work_unchanged = restored _ _ _ _ _ (omega arith) c.requires.2 c.note_tree-found.ensures.kept c.clear.ensures;
    }
