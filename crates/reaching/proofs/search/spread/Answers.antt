use native.Mathlib.Omega.{arith}
use borrow.Author.Rules.{rules}
use Rattle.lending.proofs.Kept.{kept_none}
use Rattle.reaching.proofs.Queue.{queue_none, queue_few}
use Rattle.reaching.proofs.Reach.{blank_whole, spread_none, search_start, search_next, search_flagged, search_at, search_more, search_kept, search_spread}
use Rattle.reaching.proofs.search.spread.Goals as goal

pub returns-then-ends-eq0 : goal.returns-then-ends-eq0
returns-then-ends-eq0 c =
    record {
      by_index = spread_none _ _ _ c.requires.2 c.if-ends-eq0.true;
      kept = kept_none _ _;
    }

pub gather-requires : goal.gather-requires
gather-requires c = (c.requires.0, omega (arith, c.if-ends-eq0.false), queue_none _ _ c.requires.2, blank_whole _ _ c.requires.2)

pub loop-head-init : goal.loop-head-init
loop-head-init c = search_start _ _ _ c.requires.0 c.requires.1 _ c.requires.2 (omega (arith, c.if-ends-eq0.false)) _ _ c.gather.ensures

pub overflow_add-h : goal.overflow_add-h
overflow_add-h c =
    let a = search_at _ _ _ c.requires.0 c.requires.1 _ _ _ _ _ c.loop-head.invariant c.loop-head-test.true in
    search (a, rules)

pub offset_bounds-work-ends : goal.offset_bounds-work-ends
offset_bounds-work-ends c =
    let a = search_at _ _ _ c.requires.0 c.requires.1 _ _ _ _ _ c.loop-head.invariant c.loop-head-test.true in
    search (a, rules)

pub bounds-work-ends : goal.bounds-work-ends
bounds-work-ends c = search_at _ _ _ c.requires.0 c.requires.1 _ _ _ _ _ c.loop-head.invariant c.loop-head-test.true

pub cross-reached-requires : goal.cross-reached-requires
cross-reached-requires c = (c.requires.0, c.requires.1, search_next _ _ _ c.requires.0 c.requires.1 _ _ _ _ _ c.loop-head.invariant c.loop-head-test.true, search_flagged _ _ _ c.requires.0 c.requires.1 _ _ _ _ _ c.loop-head.invariant c.loop-head-test.true, c.loop-head.invariant.reached)

pub loop-head-smaller : goal.loop-head-smaller
loop-head-smaller c = omega (arith, c.loop-head-test.true, queue_few _ _ _ c.loop-head.invariant.reached.queue)

pub loop-head-preserved : goal.loop-head-preserved
loop-head-preserved c = search_more _ _ _ c.requires.0 c.requires.1 _ _ _ _ _ c.loop-head.invariant c.loop-head-test.true _ _ _ c.cross-reached.ensures

pub shape_of-work : goal.shape_of-work
shape_of-work c = (search_kept _ _ _ c.requires.0 c.requires.1 _ _ _ _ _ c.loop-head.invariant _ _ _ _ c.gather.ensures).same_length

pub returns : goal.returns
returns c =
    record {
      by_index = search_spread _ _ _ c.requires.0 c.requires.1 _ _ _ _ _ c.loop-head.invariant (omega (arith, c.loop-head-test.false)) (omega (arith, c.if-ends-eq0.false));
      kept = search_kept _ _ _ c.requires.0 c.requires.1 _ _ _ _ _ c.loop-head.invariant _ _ _ _ c.gather.ensures;
    }
