use mathlib.Core.Path.{ap, ◌∙◌}
use Rattle.answers.specs.declared.numbers.Place.{Place}
use Rattle.sessions.proofs.Passing.{partway_found, partway_refused}
use Rattle.sessions.proofs.runs.run.Goals.{in-Ok, in-Err}
use Rattle.sessions.proofs.runs.run.Goals as goal

pub loop-i-preserved : goal.loop-i-preserved
loop-i-preserved c =
    elim c.match-tell.branch [
      | in-Ok w ↦
          partway_found _ _ _ _ _ _ _ _ _ c.loop-i.invariant _ _ _ _ c.loop-i-test.true c.tell.ensures
          _ w.in-Ok.is w.statuses-is _ w.entry.ensures w.answers-is (ap (λ (x : Place). x.0) w.place-is ∙ w.place_after-place.ensures)
      | in-Err w ↦
          partway_refused _ _ _ _ _ _ _ _ _ c.loop-i.invariant _ _ _ _ c.loop-i-test.true c.tell.ensures
          _ w.in-Err.is _ w.from.ensures w.statuses-is w.answers-is (ap (λ (x : Place). x.0) w.place-is)
    ]
