-- `printout::print::places` meets its contract. Assumes nothing.
use mathlib.Core.Path.{sym}
use native.Mathlib.Omega.{arith}
use lib.Seq.{length-take-le}
use Rattle.printing.proofs.Stands.{stands_as}
use Rattle.printout.proofs.Denoted.{Denoted, read_denoted, denoted_printed, declined_printed}
use Rattle.printout.proofs.print.places.Goals as goal

pub overflow_mul-turning : goal.overflow_mul-turning
overflow_mul-turning c =
    let N : Denoted c.args.text.now c.in-Ok.m c.parse.new.turning c.parse.new.marks
    = read_denoted _ _ _ _ _ _ _ c.in-Ok.is c.parse.ensures.result_value c.parse.ensures.turning_after c.parse.ensures.marks_after in
    omega (arith, N.few)

pub slice_bounds-turning-end : goal.slice_bounds-turning-end
slice_bounds-turning-end c =
    let N : Denoted c.args.text.now c.in-Ok.m c.parse.new.turning c.parse.new.marks
    = read_denoted _ _ _ _ _ _ _ c.in-Ok.is c.parse.ensures.result_value c.parse.ensures.turning_after c.parse.ensures.marks_after in
    omega (arith, N.ends_within)

pub slice_bounds-places_of-end : goal.slice_bounds-places_of-end
slice_bounds-places_of-end c =
    let N : Denoted c.args.text.now c.in-Ok.m c.parse.new.turning c.parse.new.marks
    = read_denoted _ _ _ _ _ _ _ c.in-Ok.is c.parse.ensures.result_value c.parse.ensures.turning_after c.parse.ensures.marks_after in
    sym (length-take-le _ _ (omega (arith, N.ends_within)))

pub slice_bounds-marks-end : goal.slice_bounds-marks-end
slice_bounds-marks-end c =
    let N : Denoted c.args.text.now c.in-Ok.m c.parse.new.turning c.parse.new.marks
    = read_denoted _ _ _ _ _ _ _ c.in-Ok.is c.parse.ensures.result_value c.parse.ensures.turning_after c.parse.ensures.marks_after in
    N.marks_within

pub slice_bounds-places_of-end-in-Ok : goal.slice_bounds-places_of-end-in-Ok
slice_bounds-places_of-end-in-Ok c =
    let N : Denoted c.args.text.now c.in-Ok.m c.parse.new.turning c.parse.new.marks
    = read_denoted _ _ _ _ _ _ _ c.in-Ok.is c.parse.ensures.result_value c.parse.ensures.turning_after c.parse.ensures.marks_after in
    sym (length-take-le _ _ N.marks_within)

pub returns-in-Ok : goal.returns-in-Ok
returns-in-Ok c =
    let N : Denoted c.args.text.now c.in-Ok.m c.parse.new.turning c.parse.new.marks
    = read_denoted _ _ _ _ _ _ _ c.in-Ok.is c.parse.ensures.result_value c.parse.ensures.turning_after c.parse.ensures.marks_after in
    let t =
    stands_as _ _ _ _ _ (denoted_printed _ _ _ _ N) (c.places_of.ensures.value, c.places_of.ensures.out_after) in
    record { value = t.0; out_after = t.1 }

pub returns-in-Err : goal.returns-in-Err
returns-in-Err c =
    let t =
    stands_as _ _ _ _ _ (declined_printed _ _ _ _ c.in-Err.is c.from.ensures c.parse.ensures.result_value)
    (c.refused.ensures.value, c.refused.ensures.out_after) in
    record { value = t.0; out_after = t.1 }
