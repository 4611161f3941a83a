use native.Mathlib.Omega.{arith}
use Rattle.bits.proofs.Fields.{blocks_long, eight_ones}
use Rattle.bits.proofs.Loops.{selected_start, selected_block}
use Rattle.bits.proofs.read.past_blocks.Goals as goal

pub loop-b-init : goal.loop-b-init
loop-b-init c = selected_start _ _ _ _

pub loop-b-preserved : goal.loop-b-preserved
loop-b-preserved c =
    let long = c.as_chunks.ensures.front_len in
    let t = eight_ones _ _ _ c.requires long _ _ (λ i. (c.type_inv.s i).fits) c.as_chunks.ensures.front c.loop-b-test.true c.ones_in_eight.ensures.0 in
    selected_block _ _ _ _ _ _ _ _ c.loop-b.invariant (omega (arith, blocks_long _ _ _ c.requires long)) t c.share-here.ensures.0 (omega arith)
