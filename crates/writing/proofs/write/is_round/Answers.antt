-- `writing::write::is_round` meets its contract. Assumes nothing.
use Rattle.writing.proofs.Filling.{round_place, round_family}
use Rattle.writing.proofs.write.is_round.Goals as goal

pub bounds-marks-border_in : goal.bounds-marks-border_in
bounds-marks-border_in c = search round_place

pub returns : goal.returns
returns c = search round_family
