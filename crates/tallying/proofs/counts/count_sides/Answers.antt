use native.Mathlib.Omega.{arith}
use borrow.Author.Rules.{rules}
use Rattle.tallying.proofs.Counting.{tallied_start, tallied_position, tallied_area, sides_entry, firsts_entry, sides_fit, tallied_more, tallied_sides, tallied_firsts, tallied_all}
use Rattle.tallying.proofs.counts.count_sides.Goals as goal

pub loop-p-init : goal.loop-p-init
loop-p-init c = search tallied_start

pub note_side-requires : goal.note_side-requires
note_side-requires c =
    let T = c.loop-p.invariant in
    let Q = tallied_position _ _ _ _ _ _ T c.loop-p-test.true in
    let A = tallied_area _ _ _ _ _ _ T c.loop-p-test.true _ c.args.survey.now.holds.areas c.requires.whole _ c.from.ensures in
    (sides_entry _ _ _ _ _ _ T _ _ Q A, firsts_entry _ _ _ _ _ _ T _ _ Q A, sides_fit _ _ _ _ _ _ T _ _ Q A, search rules)

pub loop-p-preserved : goal.loop-p-preserved
loop-p-preserved c =
    let T = c.loop-p.invariant in
    let A = tallied_area _ _ _ _ _ _ T c.loop-p-test.true _ c.args.survey.now.holds.areas c.requires.whole _ c.from.ensures in
    tallied_more _ _ _ _ _ _ T _ _ _ _ c.note_side.ensures (omega arith) c.loop-p-test.true A

pub returns : goal.returns
returns c = search (tallied_sides, tallied_firsts, tallied_all)
