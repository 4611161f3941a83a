-- `surveying::moves::number_in` meets its contract. Assumes nothing.
use Rattle.surveying.proofs.Looked.{number_in}
use Rattle.surveying.proofs.moves.number_in.Goals as goal

pub returns-then-p-numbers : goal.returns-then-p-numbers
returns-then-p-numbers c = search number_in
