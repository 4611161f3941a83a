use native.Mathlib.Omega.{arith}
use Rattle.bits.proofs.Loops.{selected_from, selected_here, selected_none, bit_is, Selected-step}
use Rattle.bits.proofs.read.select_in_bits.Goals.{then-bit-v+else-left-eq0, else-bit-v}
use Rattle.bits.proofs.read.select_in_bits.Goals as goal

pub loop-k-init : goal.loop-k-init
loop-k-init c = selected_from _ _ _ _ _ (omega arith)

pub returns-then-left-eq0 : goal.returns-then-left-eq0
returns-then-left-eq0 c = (selected_here _ _ _ _ _ _ c.loop-k.invariant (omega arith) (search bit_is) c.if-left-eq0.true, omega arith)

pub loop-k-preserved : goal.loop-k-preserved
loop-k-preserved c =
    elim c.if-bit-v.branch [ then-bit-v+else-left-eq0 w ↦ search Selected-step | else-bit-v w ↦ search Selected-step ]

pub returns : goal.returns
returns c = (selected_none _ _ _ _ _ _ c.loop-k.invariant (omega arith), omega arith)
