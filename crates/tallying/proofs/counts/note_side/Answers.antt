-- `tallying::counts::note_side` meets its contract. Assumes nothing.
use Rattle.tallying.proofs.Lookups.{side_fits, side_counted, first_noted}
use Rattle.tallying.proofs.counts.note_side.Goals as goal

pub overflow_add-sides : goal.overflow_add-sides
overflow_add-sides c = search side_fits

pub returns : goal.returns
returns c = search (side_counted, first_noted)
