-- `reading::lines::line` meets its contract. Assumes nothing.
use Rattle.reading.proofs.Rows.{line_missing, line_other, line_on}
use Rattle.reading.proofs.lines.line.Goals as goal

pub returns-in_err-number : goal.returns-in_err-number
returns-in_err-number c = rw c.from_residual.ensures (line_missing _ _ c.in_err-number.ensures)

pub returns-then-number-e : goal.returns-then-number-e
returns-then-number-e c = line_other _ _ _ c.in_ok-number.ensures c.if-number-e.true

pub returns : goal.returns
returns c = line_on _ _ _ c.in_ok-number.ensures _ c.if-number-e.false c.entries.ensures
