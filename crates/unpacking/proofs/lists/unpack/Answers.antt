-- `unpacking::lists::unpack` meets its contract. Assumes nothing.
use Rattle.answers.proofs.Passing.{passed_up}
use Rattle.unpacking.proofs.Answered.{unpack_declines, unpack_short_turning, unpack_short_marks, unpack_answers}
use Rattle.unpacking.proofs.lists.unpack.Goals as goal

pub returns-in_err-open : goal.returns-in_err-open
returns-in_err-open c =
    let t = unpack_declines c.args.map.now c.args.turning.now c.args.marks.now _ _ c.in_err-open.ensures.value in
    record { result_value = passed_up _ _ _ _ c.from_residual.ensures.1 t.0; turning_after = t.1.0; marks_after = t.1.1 }

pub returns-then-turning-m : goal.returns-then-turning-m
returns-then-turning-m c =
    let t =
    unpack_short_turning c.args.map.now c.args.turning.now c.args.marks.now
    c.borders-m.result c.borders-m.ensures.0 c.in_ok-open.ensures.value c.if-turning-m.true in
    record { result_value = t.0; turning_after = t.1.0; marks_after = t.1.1 }

pub returns-then-marks-m : goal.returns-then-marks-m
returns-then-marks-m c =
    let t =
    unpack_short_marks c.args.map.now c.args.turning.now c.args.marks.now
    c.borders-m.result c.borders-m.ensures.0 c.in_ok-open.ensures.value c.if-marks-m.true in
    record { result_value = t.0; turning_after = t.1.0; marks_after = t.1.1 }

pub returns : goal.returns
returns c =
    let t =
    unpack_answers c.args.map.now c.args.turning.now c.args.marks.now
    c.borders-m.result c.borders-m.ensures.0 c.in_ok-open.ensures.value _ _ _ c.in_ok-open.ensures.same c.if-turning-m.false c.if-marks-m.false
    c.write.ensures.turning_after c.write.ensures.marks_after in
    record { result_value = t.0; turning_after = t.1.0; marks_after = t.1.1 }
