-- `reading::lines::entries` meets its contract. Assumes nothing.
use native.Mathlib.Omega.{arith}
use Rattle.reading.proofs.Rows.{field_small, entries_first, entries_second, entries_mark, entries_all}
use Rattle.reading.proofs.lines.entries.Goals as goal

pub returns-in_err-first : goal.returns-in_err-first
returns-in_err-first c = rw c.from_residual.ensures (entries_first _ c.in_err-first.ensures)

pub returns-in_err-second : goal.returns-in_err-second
returns-in_err-second c = rw c.from_residual-in_err-second.ensures (entries_second _ _ c.in_ok-first.ensures c.in_err-second.ensures)

pub returns-in_err-mark : goal.returns-in_err-mark
returns-in_err-mark c =
    rw c.from_residual-in_err-mark.ensures (entries_mark _ _ c.in_ok-first.ensures _ c.in_ok-second.ensures c.in_err-mark.ensures)

pub overflow_cast-result : goal.overflow_cast-result
overflow_cast-result c = omega (arith, field_small _ _ _ _ c.in_ok-first.ensures)

pub overflow_cast-result-2 : goal.overflow_cast-result-2
overflow_cast-result-2 c = omega (arith, field_small _ _ _ _ c.in_ok-second.ensures)

pub overflow_cast-result-3 : goal.overflow_cast-result-3
overflow_cast-result-3 c = omega (arith, field_small _ _ _ _ c.in_ok-mark.ensures)

pub returns : goal.returns
returns c = entries_all _ _ c.in_ok-first.ensures _ c.in_ok-second.ensures _ c.in_ok-mark.ensures
