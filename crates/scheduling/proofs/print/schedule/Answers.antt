-- `scheduling::print::schedule` meets its contract. Assumes nothing.
use mathlib.Core.Path.{◌≡◌, sym, ap, ◌∙◌}
use Rattle.answers.specs.Means.{means}
use Rattle.opening.specs.Checks.{open_check}
use Rattle.text.specs.Schedule.{schedule, schedule_of}
use Rattle.printing.specs.Writing.{Wrote}
use Rattle.printing.proofs.Shown.{shown_err, shown_ok}
use Rattle.scheduling.proofs.print.schedule.Goals as goal

pub returns-in-Ok : goal.returns-in-Ok
unfolding schedule_of open_check
returns-in-Ok c =
    let same : c.in-Ok.open.bytes.now ≡ c.args.map.now = rw c.in-Ok.is at c.open_map.ensures.same in
    let W : Wrote c.args.out.now 0 (schedule c.args.map.now) c.put_schedule.result c.put_schedule.new.out = rw same at c.put_schedule.ensures in
    let t =
    shown_ok schedule c.args.map.now c.args.out.now _ c.put_schedule.result (sym (ap (means (λ o. tt {0})) c.in-Ok.is) ∙ c.open_map.ensures.value) W in
    record { value = t.0; out_after = t.1 }

pub returns-in-Err : goal.returns-in-Err
unfolding schedule_of open_check
returns-in-Err c =
    let t =
    shown_err schedule c.args.map.now c.args.out.now _ c.refused.result _ _ c.from.ensures (sym (ap (means (λ o. tt {0})) c.in-Err.is) ∙ c.open_map.ensures.value) (c.refused.ensures.value, c.refused.ensures.out_after) in
    record { value = t.0; out_after = t.1 }
