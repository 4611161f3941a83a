-- `printing::page::put_digits` meets its contract. The loop keeps `Digits`: the digits from byte i on stand. Assumes nothing.
use Rattle.printing.proofs.Columns.{Digits}
use Rattle.printing.proofs.page.put_digits.Given as goal

abbrev pub invariant-loop-rest : goal.invariant-loop-rest
invariant-loop-rest l = Digits l.initial.out l.end l.x l.i l.rest l.out

abbrev pub decreases-loop-rest : goal.decreases-loop-rest
decreases-loop-rest l = l.rest
