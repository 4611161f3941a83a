use Rattle.std.proofs.Common.{rules}
use Rattle.neighbouring.proofs.Counting.{counting_start, counting_more}
use Rattle.neighbouring.proofs.across.count_in.Goals as goal

pub loop-k-init : goal.loop-k-init
loop-k-init c = search (counting_start, rules)

pub loop-k-preserved : goal.loop-k-preserved
loop-k-preserved c = search counting_more
