-- `listing::line::put_line` meets its contract. Assumes nothing.
use native.Mathlib.Omega.{arith}
use Rattle.listing.proofs.Listed.{line_puts}
use Rattle.listing.proofs.line.put_line.Goals as goal

pub returns : goal.returns
returns c = (
  line_puts c.args.line c.args.page.now _ _ _ _ _ _ c.requires.1 c.number.ensures.0 c.byte.ensures c.byte-2.ensures c.number-2.ensures.0
      c.number-3.ensures.0 c.number-4.ensures.0,
  omega arith,
)
