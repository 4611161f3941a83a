-- `printout::print::places_of` meets its contract. Assumes nothing.
use mathlib.Core.Path.{sym}
use native.Mathlib.Omega.{arith}
use lib.Seq.{length-take-le}
use Rattle.drawing.specs.Drawing.{lent}
use Rattle.printing.proofs.Stands.{stands_as}
use Rattle.printout.proofs.Mapped.{Mapped, map_mapped, declined_prints}
use Rattle.printout.proofs.print.places_of.Goals as goal

pub slice_bounds-map-end : goal.slice_bounds-map-end
slice_bounds-map-end c =
    let M : Mapped (lent c.args.turning.now c.args.marks.now 0) c.in-Ok.n c.pack.new.out
    = map_mapped _ _ _ (omega arith) (omega arith) c.pack.result c.pack.ensures.answers _ _ _ c.in-Ok.is c.pack.ensures.leaves.output in
    M.within

pub slice_bounds-list-end : goal.slice_bounds-list-end
slice_bounds-list-end c =
    let M : Mapped (lent c.args.turning.now c.args.marks.now 0) c.in-Ok.n c.pack.new.out
    = map_mapped _ _ _ (omega arith) (omega arith) c.pack.result c.pack.ensures.answers _ _ _ c.in-Ok.is c.pack.ensures.leaves.output in
    sym (length-take-le _ _ M.within)

pub returns-in-Ok : goal.returns-in-Ok
returns-in-Ok c =
    let M : Mapped (lent c.args.turning.now c.args.marks.now 0) c.in-Ok.n c.pack.new.out
    = map_mapped _ _ _ (omega arith) (omega arith) c.pack.result c.pack.ensures.answers _ _ _ c.in-Ok.is c.pack.ensures.leaves.output in
    let t =
    stands_as _ _ _ _ _ (sym M.prints) (c.list.ensures.value, c.list.ensures.out_after) in
    record { value = t.0; out_after = t.1 }

pub returns-in-Err : goal.returns-in-Err
returns-in-Err c =
    let t =
    stands_as _ _ _ _ _ (declined_prints (lent c.args.turning.now c.args.marks.now 0) _ _ (omega arith) (omega arith) c.pack.result c.pack.ensures.answers _ _ c.in-Err.is c.from.ensures)
    (c.refused.ensures.value, c.refused.ensures.out_after) in
    record { value = t.0; out_after = t.1 }
