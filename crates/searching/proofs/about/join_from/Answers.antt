use Rattle.searching.proofs.Joins.{joining_start, joining_on, joining_here, joining_back, joining_more}
use Rattle.searching.proofs.about.join_from.Goals as goal

pub loop-left-init : goal.loop-left-init
loop-left-init c = search joining_start

pub loop-left-preserved : goal.loop-left-preserved
loop-left-preserved c = search joining_on

pub returns-then-left-eq0 : goal.returns-then-left-eq0
returns-then-left-eq0 c = search joining_more

pub returns-then-at-to : goal.returns-then-at-to
returns-then-at-to c = search joining_here

pub returns-then-r-p : goal.returns-then-r-p
returns-then-r-p c = search joining_back
