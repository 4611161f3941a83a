-- `packing::checks::pack` meets its contract. Assumes nothing.
use Rattle.std.proofs.Common.{not, ap}
use Rattle.checking.proofs.Laws.{lengths_passed, work_fits, work_blank}
use Rattle.packing.proofs.Order.{pack_1, pack_long, pack_short, pack_3, pack_range, pack_done}
use Rattle.packing.proofs.checks.pack.Goals as goal

pub returns-then-not-lengths_fit : goal.returns-then-not-lengths_fit
returns-then-not-lengths_fit c = pack_1 _ _ _ _ _ _ c.lengths_fit.ensures (ap not c.if-not-lengths_fit.true)

pub overflow_mul-k : goal.overflow_mul-k
overflow_mul-k c = work_fits _ _ _ c.lengths_fit.ensures (ap not c.if-not-lengths_fit.false)

pub returns-then-work-k : goal.returns-then-work-k
returns-then-work-k c = pack_long _ _ _ _ _ _ c.lengths_fit.ensures (ap not c.if-not-lengths_fit.false) c.if-work-k.true

pub returns-then-out-lt-LONGEST : goal.returns-then-out-lt-LONGEST
returns-then-out-lt-LONGEST c = pack_short _ _ _ _ _ _ c.lengths_fit.ensures (ap not c.if-not-lengths_fit.false) c.if-work-k.false c.if-out-lt-LONGEST.true

pub in_range-requires : goal.in_range-requires
in_range-requires c = lengths_passed _ _ _ c.lengths_fit.ensures (ap not c.if-not-lengths_fit.false) _

pub returns-then-not-in_range : goal.returns-then-not-in_range
returns-then-not-in_range c =
    pack_3 _ _ _ _ _ _ c.lengths_fit.ensures (ap not c.if-not-lengths_fit.false) c.if-work-k.false c.if-out-lt-LONGEST.false _ c.in_range.ensures
    (ap not c.if-not-in_range.true)

pub checked-packed-requires : goal.checked-packed-requires
checked-packed-requires c = (
  lengths_passed _ _ _ c.lengths_fit.ensures (ap not c.if-not-lengths_fit.false) _,
  pack_range _ _ _ _ c.in_range.ensures (ap not c.if-not-in_range.false),
  work_blank _ _ _ c.lengths_fit.ensures (ap not c.if-not-lengths_fit.false) _ _ c.if-work-k.false c.clear.ensures,
  c.if-out-lt-LONGEST.false,
)

pub returns : goal.returns
returns c = pack_done _ _ _ _ _ _ c.lengths_fit.ensures (ap not c.if-not-lengths_fit.false) c.if-work-k.false c.if-out-lt-LONGEST.false _ c.in_range.ensures (ap not c.if-not-in_range.false) _ _ _ c.clear.ensures c.checked-packed.ensures.kept c.clear-2.ensures _ _ c.checked-packed.ensures.packs_later
