use native.Mathlib.Omega.{arith}
use Rattle.reaching.proofs.Writing.{copied_start, copied_fits, copied_more, copied_all}
use Rattle.reaching.proofs.tree.write_marks.Goals as goal

pub loop-e-init : goal.loop-e-init
loop-e-init c = search copied_start

pub overflow_cast-mark : goal.overflow_cast-mark
overflow_cast-mark c = copied_fits _ _ _ c.requires _ (omega (arith, c.loop-e.invariant.same_length))

pub loop-e-preserved : goal.loop-e-preserved
loop-e-preserved c = copied_more _ _ _ _ _ c.loop-e.invariant (omega (arith, c.loop-e.invariant.same_length))

pub returns : goal.returns
returns c = copied_all _ _ _ _ _ c.loop-e.invariant (omega (arith, c.loop-e.invariant.same_length, c.loop-e-test.false))
