-- `reaching::tree::joined_points` meets its contract. Assumes nothing.
use native.Mathlib.Omega.{arith}
use Rattle.lending.proofs.Kept.{restored}
use Rattle.reaching.proofs.Told.{points_not, points_are}
use Rattle.reaching.proofs.tree.joined_points.Goals as goal

pub returns-else-reached-ends : goal.returns-else-reached-ends
returns-else-reached-ends c =
    record {
      by_index = λ s. points_not _ _ c.requires.0 c.requires.1 _ _ _ c.spread-reached.ensures.by_index s c.if-reached-ends.false;
      work_unchanged = restored _ _ _ _ _ (omega arith) c.requires.2 c.spread-reached.ensures.kept c.clear.ensures;
    }

pub returns-then-reached-ends : goal.returns-then-reached-ends
returns-then-reached-ends c =
    record {
      by_index = λ s. points_are _ _ c.requires.0 c.requires.1 _ _ _ c.spread-reached.ensures.by_index s c.if-reached-ends.true;
      work_unchanged = restored _ _ _ _ _ (omega arith) c.requires.2 c.spread-reached.ensures.kept c.clear.ensures;
    }
