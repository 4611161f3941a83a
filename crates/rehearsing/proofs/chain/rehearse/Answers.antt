-- `rehearsing::chain::rehearse` meets its contract. Assumes nothing.
use mathlib.Core.Path.{sym}
use lib.Seq.{length-take-le}
use Rattle.std.proofs.lemmas.Result.{err_from_is_err_and}
use Rattle.drawing.specs.Drawing.{lent}
use Rattle.rehearsing.proofs.Chained.{Packing, map_within, session_rehearsed, declined_rehearsed}
use Rattle.rehearsing.proofs.chain.rehearse.Goals as goal

pub slice_bounds-session-end : goal.slice_bounds-session-end
slice_bounds-session-end c =
    let P : Packing (lent c.args.turning.now c.args.marks.now c.args.start)
    (record { work = c.args.work.now; out = c.args.out.now; statuses = c.args.statuses.now; answers = c.args.answers.now })
    c.pack.new.work c.pack.new.out c.pack.result
    = record { packs = c.pack.ensures } in
    map_within P _ c.in_ok-length.was

pub slice_bounds-session-end-2 : goal.slice_bounds-session-end-2
slice_bounds-session-end-2 c =
    let P : Packing (lent c.args.turning.now c.args.marks.now c.args.start)
    (record { work = c.args.work.now; out = c.args.out.now; statuses = c.args.statuses.now; answers = c.args.answers.now })
    c.pack.new.work c.pack.new.out c.pack.result
    = record { packs = c.pack.ensures } in
    sym (length-take-le c.in_ok-length.length c.pack.new.out (map_within P _ c.in_ok-length.was))

pub returns : goal.returns
returns c =
    let P : Packing (lent c.args.turning.now c.args.marks.now c.args.start)
    (record { work = c.args.work.now; out = c.args.out.now; statuses = c.args.statuses.now; answers = c.args.answers.now })
    c.pack.new.work c.pack.new.out c.pack.result
    = record { packs = c.pack.ensures } in
    session_rehearsed P _ _ _ c.in_ok-length.was
    c.session-left.result _ _ c.session-left.ensures.result_value c.session-left.ensures.statuses_after c.session-left.ensures.answers_after

pub returns-in_err-length : goal.returns-in_err-length
returns-in_err-length c =
    let P : Packing (lent c.args.turning.now c.args.marks.now c.args.start)
    (record { work = c.args.work.now; out = c.args.out.now; statuses = c.args.statuses.now; answers = c.args.answers.now })
    c.pack.new.work c.pack.new.out c.pack.result
    = record { packs = c.pack.ensures } in
    let p = err_from_is_err_and c.from_residual.result c.from_residual.ensures.1 in
    rw (p.1, p.2) (declined_rehearsed P _ _ _ c.in_err-length.was)
