-- `checking::distinct::is_distinct` meets its contract. Assumes nothing.
use Rattle.lending.proofs.Kept.{restored_all}
use Rattle.checking.proofs.distinct.is_distinct.Goals as goal

pub returns-clause-work_unchanged : goal.returns-clause-work_unchanged
returns-clause-work_unchanged c = search restored_all
