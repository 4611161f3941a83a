-- `surveying::moves::Survey::own_mate` meets its contract. Assumes nothing.
use Rattle.surveying.proofs.Looked.{cross_in, cross_in_at}
use Rattle.surveying.proofs.moves.Survey.own_mate.Goals as goal

pub returns-then-p-self : goal.returns-then-p-self
returns-then-p-self c = (search cross_in, search cross_in_at)
