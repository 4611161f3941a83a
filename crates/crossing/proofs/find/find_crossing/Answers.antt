-- `crossing::find::find_crossing` meets its contract. Assumes nothing.
use Rattle.crossing.proofs.Emptied.{third_zeroed}
use Rattle.crossing.proofs.find.find_crossing.Goals as goal

pub returns-clause-zeroed : goal.returns-clause-zeroed
returns-clause-zeroed c = search third_zeroed
