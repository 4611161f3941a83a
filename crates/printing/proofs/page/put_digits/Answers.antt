-- `printing::page::put_digits` meets its contract. Assumes nothing.
use Rattle.printing.proofs.Columns.{digits_all}
use Rattle.printing.proofs.page.put_digits.Goals as goal

pub overflow_sub-i : goal.overflow_sub-i
overflow_sub-i c = search digits_all

pub bounds-out-i : goal.bounds-out-i
bounds-out-i c = search digits_all

pub overflow_sub-out : goal.overflow_sub-out
overflow_sub-out c = search digits_all

pub bounds-out-i-2 : goal.bounds-out-i-2
bounds-out-i-2 c = search digits_all

pub returns : goal.returns
returns c = search digits_all
