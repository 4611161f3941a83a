-- `lettering::put::begin_map` meets its contract. Assumes nothing.
use Rattle.lettering.proofs.Keeping.{starts_are, begun_made}
use Rattle.lettering.proofs.put.begin_map.Goals as goal

pub returns-clause-out_after : goal.returns-clause-out_after
returns-clause-out_after c = begun_made _ _ _ _ _ c.bytes_for-b.ensures.0 c.bytes_for.ensures.0 c.bytes_for-2.ensures.0 _ _ _ c.clear.ensures c.write_header.ensures

pub returns-clause-b_value : goal.returns-clause-b_value
returns-clause-b_value c = starts_are _ _ _ _ _ c.bytes_for-b.ensures.0 c.bytes_for.ensures.0 c.bytes_for-2.ensures.0
