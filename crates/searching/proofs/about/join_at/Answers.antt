-- `searching::about::join_at` meets its contract. Assumes nothing.
use Rattle.searching.proofs.Joins.{join_empty, join_start, join_full}
use Rattle.searching.proofs.about.join_at.Goals as goal

pub returns-then-bits_a-eq0 : goal.returns-then-bits_a-eq0
returns-then-bits_a-eq0 c = search join_empty

pub join_about-requires : goal.join_about-requires
join_about-requires c = search join_start

pub returns : goal.returns
returns c = search join_full
