use Rattle.crossing.proofs.Climb.{above_all}
use Rattle.crossing.proofs.find.above.Goals as goal

pub loop-i-init : goal.loop-i-init
loop-i-init c = search above_all

pub opened-requires : goal.opened-requires
opened-requires c = search above_all

pub overflow_add-i : goal.overflow_add-i
overflow_add-i c = search above_all

pub loop-i-smaller : goal.loop-i-smaller
loop-i-smaller c = search above_all

pub loop-i-preserved : goal.loop-i-preserved
loop-i-preserved c = search above_all

pub overflow_add-i-2 : goal.overflow_add-i-2
overflow_add-i-2 c = search above_all

pub opened-requires-2 : goal.opened-requires-2
opened-requires-2 c = search above_all

pub returns : goal.returns
returns c = search above_all
