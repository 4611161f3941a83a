-- `sessions::runs::run` meets its contract. The loop keeps `Partway`: the session of the calls that are left makes up the whole one. Assumes nothing.
use Rattle.sessions.proofs.Passing.{Partway}
use Rattle.sessions.proofs.runs.run.Given as goal

abbrev pub invariant-loop-i : goal.invariant-loop-i
invariant-loop-i l = Partway l.survey.map.now l.initial.place.0 l.calls l.initial.statuses l.initial.answers l.statuses l.answers l.place.0 l.i
