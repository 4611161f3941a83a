use mathlib.Core.Path.{◌≡◌}
use Prim.Native.Nat.{◌+◌, ◌*◌, ◌/◌}
use native.Mathlib.Omega.{arith}
use native.Mathlib.Nat.{add_assoc}
use Rattle.bits.proofs.Fields.{blocks_long, eight_ones, rest_entry, rest_long, byte_ones}
use Rattle.bits.proofs.Loops.{counted_block, counted_more, counted_end, ranked}
use Rattle.bits.proofs.read.rank.Goals as goal

pub loop-block-preserved : goal.loop-block-preserved
loop-block-preserved c =
    let long = c.as_chunks.ensures.front_len in
    let t = eight_ones _ _ _ (omega arith) long _ _ (λ i. (c.type_inv.s i).fits) c.as_chunks.ensures.front c.loop-block-test.true c.ones_in_eight-ones.ensures.0 in
    counted_block _ _ _ _ _ _ c.loop-block.invariant (omega (arith, blocks_long _ _ _ (omega arith) long)) t

pub loop-x-preserved : goal.loop-x-preserved
loop-x-preserved c =
    let q = c.as_chunks.ensures.back in
    let h = rest_long c.args.s.now c.min-e.result _ (omega arith) q in
    let t = byte_ones c.args.s.now (c.min-e.result / 8 * 8 + c.loop-x.x-index) _ (rest_entry _ _ _ (omega arith) q c.loop-x.x-index (omega arith)) (c.type_inv.s _).fits in
    rw (← add_assoc (c.min-e.result / 8 * 8) c.loop-x.x-index 1) (counted_more _ _ _ _ 1 _ _ c.loop-x.invariant (omega arith) t.0 t.1)

pub returns : goal.returns
returns c =
    let h = rest_long c.args.s.now c.min-e.result _ (omega arith) c.as_chunks.ensures.back in
    let p : c.min-e.result / 8 * 8 + c.loop-x.x-index ≡ c.min-e.result = omega arith in
    let t = counted_end _ _ _ _ _ _ (rw p at c.loop-x.invariant) c.min-e.ensures c.ones_in_byte.ensures.0 c.ones_in_byte.ensures.1 in
    (ranked _ _ _ _ _ t.0 c.share.ensures.0, c.share.ensures.1)
