use mathlib.Core.Path.{refl, ◌∙◌}
use Rattle.sizing.proofs.Letters.{going_ready, going_counted, going_on, going_off, going_end}
use Rattle.sizing.proofs.counts.Strings.count.Goals as goal

pub pass-requires : goal.pass-requires
pass-requires c =
    let k = going_counted _ _ _ _ _ _ _ _ _ _ _ c.loop-p.invariant c.loop-p-test.true c.min-e.ensures _ c.count_in-k.ensures.0 c.count_in-k.ensures.1 in
    (going_ready _ _ _ _ _ _ _ _ _ _ _ c.loop-p.invariant c.loop-p-test.true c.min-e.ensures, k.0, k.1)

pub returns-in-Break : goal.returns-in-Break
returns-in-Break c = c.in-Break.ensures.1 ∙ going_off _ _ _ _ _ _ _ _ _ _ _ c.loop-p.invariant c.loop-p-test.true c.min-e.ensures _ refl c.in-Break.ensures.0

pub loop-p-preserved : goal.loop-p-preserved
loop-p-preserved c =
    let k = going_counted _ _ _ _ _ _ _ _ _ _ _ c.loop-p.invariant c.loop-p-test.true c.min-e.ensures _ c.count_in-k.ensures.0 c.count_in-k.ensures.1 in
    going_on _ _ _ _ _ _ _ _ _ _ _ c.loop-p.invariant c.loop-p-test.true c.min-e.ensures _ c.in-Continue.ensures _ k.0 k.1 refl

pub returns : goal.returns
returns c = going_end _ _ _ _ _ _ _ _ _ _ c.loop-p.invariant c.loop-p-test.false
