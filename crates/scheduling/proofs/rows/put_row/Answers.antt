-- `scheduling::rows::put_row` meets its contract. Assumes nothing.
use native.Mathlib.Omega.{arith}
use Rattle.scheduling.proofs.Columns.{five_digits, row_puts}
use Rattle.scheduling.proofs.rows.put_row.Goals as goal

pub column-requires : goal.column-requires
column-requires c = (five_digits c.args.area.0 c.requires.0 5 (omega arith), omega arith)

pub column-requires-2 : goal.column-requires-2
column-requires-2 c = (five_digits c.args.sides c.requires.1 7 (omega arith), omega arith)

pub column-requires-3 : goal.column-requires-3
column-requires-3 c = (five_digits c.args.first.0 c.requires.2 7 (omega arith), omega arith)

pub returns : goal.returns
returns c =
    let t =
    row_puts c.args.page.now _ _ _ _ (record { area = c.args.area.0; sides = c.args.sides; first = c.args.first.0 }) c.requires.0 c.requires.1 c.requires.2 c.requires.3
    c.column.ensures.0 c.column-2.ensures.0 c.column-3.ensures.0 c.byte.ensures in
    record { wrote = t.0; value = t.1 }
