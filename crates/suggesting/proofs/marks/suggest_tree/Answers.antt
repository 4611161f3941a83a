-- `suggesting::marks::suggest_tree` meets its contract. Assumes nothing.
use Rattle.std.proofs.Common.{not, ap}
use mathlib.Core.Path.{◌∙◌}
use Rattle.answers.specs.Answer.{number_of}
use Rattle.checking.proofs.Laws.{blank_still}
use Rattle.suggesting.proofs.Order.{later_4, later_21, later_none, later_turns}
use Rattle.suggesting.proofs.marks.suggest_tree.Goals as goal

pub returns-then-not-is_distinct : goal.returns-then-not-is_distinct
unfolding number_of
returns-then-not-is_distinct c =
    record {
      by_index = λ s. later_4 _ _ c.requires.1 _ c.is_distinct.ensures.decides s (ap not c.if-not-is_distinct.true);
      work_unchanged = c.is_distinct.ensures.work_unchanged;
    }

pub find_tree-requires : goal.find_tree-requires
find_tree-requires c = (later_turns _ c.requires.0 _ c.is_distinct.ensures.decides (ap not c.if-not-is_distinct.false), c.requires.1, blank_still _ _ _ c.requires.2 c.is_distinct.ensures.work_unchanged)

pub returns-then-not-find_tree : goal.returns-then-not-find_tree
unfolding number_of
returns-then-not-find_tree c =
    record {
      by_index = λ s. later_21 _ _ c.requires.1 _ c.is_distinct.ensures.decides s (ap not c.if-not-is_distinct.false) _ _ (c.find_tree.ensures.by_index s) (ap not c.if-not-find_tree.true);
      work_unchanged = c.find_tree.ensures.work_unchanged ∙ c.is_distinct.ensures.work_unchanged;
    }

pub returns : goal.returns
unfolding number_of
returns c =
    record {
      by_index = λ s. later_none _ _ c.requires.1 _ c.is_distinct.ensures.decides s (ap not c.if-not-is_distinct.false) _ _ (c.find_tree.ensures.by_index s) (ap not c.if-not-find_tree.false);
      work_unchanged = c.find_tree.ensures.work_unchanged ∙ c.is_distinct.ensures.work_unchanged;
    }
