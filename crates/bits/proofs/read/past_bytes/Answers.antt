use mathlib.Core.Path.{refl}
use native.Mathlib.Omega.{arith}
use Rattle.bits.proofs.Fields.{byte_ones}
use Rattle.bits.proofs.Loops.{selected_from, selected_skip}
use Rattle.bits.proofs.read.past_bytes.Goals as goal

pub loop-k-init : goal.loop-k-init
loop-k-init c = selected_from _ _ _ _ _ (omega arith)

pub loop-k-preserved : goal.loop-k-preserved
loop-k-preserved c =
    let t = byte_ones c.args.s.now c.loop-k.k _ refl (c.type_inv.s c.loop-k.k).fits in
    selected_skip _ _ _ _ _ 1 _ _ _ c.loop-k.invariant (omega arith) t.0 c.share-here.ensures.0 (omega arith)
