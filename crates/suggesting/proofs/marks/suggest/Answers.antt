-- `suggesting::marks::suggest` meets its contract. Assumes nothing.
use Rattle.std.proofs.Common.{not, ap}
use Rattle.answers.specs.Answer.{number_of}
use Rattle.checking.proofs.Laws.{lengths_passed, work_fits, work_blank}
use Rattle.suggesting.proofs.Order.{first_1, first_2, first_3, first_later, first_ranged}
use Rattle.suggesting.proofs.marks.suggest.Goals as goal

pub returns-then-not-lengths_fit : goal.returns-then-not-lengths_fit
unfolding number_of
returns-then-not-lengths_fit c = λ s. first_1 _ _ _ _ c.lengths_fit.ensures s (ap not c.if-not-lengths_fit.true)

pub overflow_mul-k : goal.overflow_mul-k
overflow_mul-k c = work_fits _ _ _ c.lengths_fit.ensures (ap not c.if-not-lengths_fit.false)

pub returns-then-work-k : goal.returns-then-work-k
unfolding number_of
returns-then-work-k c = λ s. first_2 _ _ _ _ c.lengths_fit.ensures (ap not c.if-not-lengths_fit.false) s c.if-work-k.true

pub returns-then-not-entries_fit : goal.returns-then-not-entries_fit
unfolding number_of
returns-then-not-entries_fit c = λ s. first_3 _ _ _ _ c.lengths_fit.ensures (ap not c.if-not-lengths_fit.false) c.if-work-k.false _ c.entries_fit.ensures s (ap not c.if-not-entries_fit.true)

pub suggest_tree-requires : goal.suggest_tree-requires
suggest_tree-requires c = (
  first_ranged _ _ c.entries_fit.ensures (ap not c.if-not-entries_fit.false),
  (lengths_passed _ _ _ c.lengths_fit.ensures (ap not c.if-not-lengths_fit.false) 0).half,
  work_blank _ _ _ c.lengths_fit.ensures (ap not c.if-not-lengths_fit.false) _ _ c.if-work-k.false c.clear.ensures,
)

pub returns : goal.returns
returns c =
    λ s.
    first_later _ _ _ _ c.lengths_fit.ensures (ap not c.if-not-lengths_fit.false) c.if-work-k.false _ c.entries_fit.ensures s (ap not c.if-not-entries_fit.false) _ _ _ _ c.clear.ensures
    c.suggest_tree.ensures.work_unchanged
    (c.suggest_tree.ensures.by_index s)
