-- `walking::word::back_at` meets its contract. Assumes nothing.
use Rattle.std.proofs.Common.{rules}
use Rattle.walking.proofs.Walks.{step_position}
use Rattle.walking.proofs.word.back_at.Goals as goal

pub mate_at-requires : goal.mate_at-requires
mate_at-requires c = search (step_position, rules)
