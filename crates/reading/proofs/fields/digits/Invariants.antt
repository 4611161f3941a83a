-- `reading::fields::digits` meets its contract. The loop keeps `Reading`: the rest of the digits decides as all of them do. Assumes nothing.
use lib.ListN.{length}
use Rattle.reading.proofs.Numbers.{Reading}
use Rattle.reading.proofs.fields.digits.Given as goal

abbrev pub invariant-loop-value : goal.invariant-loop-value
invariant-loop-value l = Reading l.text l.most l.x l.rest l.value

abbrev pub decreases-loop-value : goal.decreases-loop-value
decreases-loop-value l = length l.rest
