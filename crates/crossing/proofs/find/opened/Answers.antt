-- `crossing::find::opened` meets its contract. Assumes nothing.
use Rattle.crossing.proofs.Climb.{opened_all}
use Rattle.crossing.proofs.find.opened.Goals as goal

pub border_in-requires : goal.border_in-requires
border_in-requires c = search opened_all

pub returns : goal.returns
returns c = search opened_all
