-- `surveying::lists::Lists::survey` meets its contract. Assumes nothing.
use borrow.Author.Rules.{rules}
use Rattle.surveying.proofs.Laws.{mates_long, numbers_long}
use Rattle.surveying.proofs.lists.Lists.survey.Goals as goal

pub returns : goal.returns
returns c = record { of_map = search rules; whole = (search mates_long, search numbers_long, search numbers_long) }
