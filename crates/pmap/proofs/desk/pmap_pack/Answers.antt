use Rattle.pmap.proofs.Drawings.{pack_small, pack_returns}
use Rattle.pmap.proofs.desk.pmap_pack.Goals as goal

pub give_length-requires : goal.give_length-requires
give_length-requires c = search pack_small

pub returns : goal.returns
returns c = search pack_returns
