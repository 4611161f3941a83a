use native.Mathlib.Omega.{arith}
use Rattle.reading.proofs.Numbers.{reading_more, reading_stops, reading_over, stands}
use Rattle.reading.proofs.fields.digits.Goals as goal

pub returns-in_default : goal.returns-in_default
returns-in_default c = reading_stops _ _ _ _ _ c.loop-value.invariant c.in_default.ensures c.loop-value-test.true

pub overflow_add-value : goal.overflow_add-value
overflow_add-value c =
    let D = stands _ _ c.in-Some.ensures in
    omega (arith, D.low)

pub loop-value-smaller : goal.loop-value-smaller
loop-value-smaller c = (reading_more _ _ _ _ _ c.loop-value.invariant _ c.in-Some.ensures c.loop-value-test.true).0

pub loop-value-preserved : goal.loop-value-preserved
loop-value-preserved c = (reading_more _ _ _ _ _ c.loop-value.invariant _ c.in-Some.ensures c.loop-value-test.true).1

pub returns : goal.returns
returns c = reading_over _ _ _ _ _ c.loop-value.invariant (omega arith)
