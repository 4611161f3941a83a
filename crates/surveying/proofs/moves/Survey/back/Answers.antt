-- `surveying::moves::Survey::back` meets its contract. Assumes nothing.
use Rattle.walking.proofs.Walks.{after_below, step_position, back_is}
use borrow.Author.Rules.{rules}
use Rattle.surveying.proofs.moves.Survey.back.Goals as goal

pub before-requires : goal.before-requires
before-requires c = search after_below

pub mate-requires : goal.mate-requires
mate-requires c = search (step_position, rules)

pub returns : goal.returns
returns c =
    record {
      value = search back_is;
      position = search rules;
    }
