use borrow.Author.Rules.{rules}
use Rattle.reaching.proofs.Gather.{gathering_start, gathering_end, gathering_in, gathering_length, gathering_fits, gathering_put, gathering_sum, gathering_tail, gathering_less, gathering_more, gathering_back}
use Rattle.reaching.proofs.search.gather.Goals as goal

pub loop-work-init : goal.loop-work-init
loop-work-init c = search (gathering_start, rules)

pub bounds-work-from : goal.bounds-work-from
bounds-work-from c = rw c.from.ensures (search gathering_in)

pub bounds-work-i : goal.bounds-work-i
bounds-work-i c = rw c.from-i.ensures (search gathering_in)

pub overflow_add-work : goal.overflow_add-work
overflow_add-work c = gathering_sum _ _ _ _ _ _ _ c.loop-work.invariant (rw c.from.ensures at c.loop-work-test.true) (search rules)

pub offset_bounds-work-ends : goal.offset_bounds-work-ends
offset_bounds-work-ends c = let f = gathering_fits _ _ _ _ _ _ _ c.loop-work.invariant (rw c.from.ensures at c.loop-work-test.true) in search (f, rules)

pub bounds-work-ends : goal.bounds-work-ends
bounds-work-ends c = rw c.from-i.ensures (gathering_put _ _ _ _ _ _ _ c.loop-work.invariant (rw c.from.ensures at c.loop-work-test.true))

pub overflow_add-end : goal.overflow_add-end
overflow_add-end c = gathering_tail _ _ _ _ _ _ _ c.loop-work.invariant (rw c.from.ensures at c.loop-work-test.true) (search rules)

pub bounds-turning-i : goal.bounds-turning-i
bounds-turning-i c = rw c.from-i.ensures (search gathering_end)

pub loop-work-smaller : goal.loop-work-smaller
loop-work-smaller c = let z = rw c.from.ensures at c.loop-work-test.true in search (gathering_less, z)

pub loop-work-preserved : goal.loop-work-preserved
loop-work-preserved c = let z = rw c.from.ensures at c.loop-work-test.true in rw c.from-i.ensures (search (gathering_more, z))

pub shape_of-work : goal.shape_of-work
shape_of-work c = search gathering_length

pub returns : goal.returns
returns c = let z = rw c.from.ensures at c.loop-work-test.false in search (gathering_back, z)
