-- `lettering::put::write_header` meets its contract. Assumes nothing.
use Rattle.lettering.proofs.Holding.{headed_is}
use Rattle.lettering.proofs.put.write_header.Goals as goal

pub returns : goal.returns
returns c = headed_is _ _ _ _ _ _ c.requires.0 c.put_two.ensures c.put_two-2.ensures c.put_two-3.ensures
