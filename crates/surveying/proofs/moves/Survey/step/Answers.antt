-- `surveying::moves::Survey::step` meets its contract. Assumes nothing.
use Rattle.walking.proofs.Walks.{after_below, after_few, step_is, step_position}
use Rattle.surveying.proofs.moves.Survey.step.Goals as goal

pub after-requires : goal.after-requires
after-requires c = (search after_below, search after_few)

pub returns : goal.returns
returns c =
    record {
      value = search step_is;
      position = search step_position;
    }
