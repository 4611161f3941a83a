-- `lettering::put::Letters::put_letter` meets its contract. Assumes nothing.
use Rattle.lettering.proofs.Keeping.{letter_put}
use Rattle.lettering.proofs.put.Letters.put_letter.Goals as goal

pub returns-clause-out_after : goal.returns-clause-out_after
returns-clause-out_after c = search letter_put
