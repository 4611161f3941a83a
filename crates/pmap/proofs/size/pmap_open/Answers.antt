use Rattle.pmap.proofs.Given.{borders_fit, points_fit}
use Rattle.pmap.proofs.size.pmap_open.Goals as goal

pub give_size-requires : goal.give_size-requires
give_size-requires c = (search borders_fit, search points_fit)
