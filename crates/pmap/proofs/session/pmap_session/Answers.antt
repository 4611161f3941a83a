use Rattle.pmap.proofs.Given.{left_status}
use Rattle.pmap.proofs.session.pmap_session.Goals as goal

pub returns-clause-value : goal.returns-clause-value
returns-clause-value c = search left_status
