-- `scheduling::rows::put_total` meets its contract. Assumes nothing.
use native.Mathlib.Omega.{arith}
use Rattle.text.specs.Decimal.{codes}
use Rattle.scheduling.proofs.Columns.{five_digits, total_puts}
use Rattle.scheduling.proofs.rows.put_total.Goals as goal

pub column-requires : goal.column-requires
column-requires c = (five_digits c.args.sum c.requires.0 7 (omega arith), omega arith)

pub returns : goal.returns
unfolding codes
returns c = total_puts c.args.page.now _ _ _ c.args.sum c.requires.0 (omega arith) c.text.ensures c.column.ensures.0 c.byte.ensures
