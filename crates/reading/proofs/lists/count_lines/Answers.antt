use native.Mathlib.Omega.{arith}
use borrow.Author.Rules.{rules}
use Rattle.reading.proofs.Passes.{counting_start, counting_more, counting_full, counting_missing, counting_end}
use Rattle.reading.proofs.lists.count_lines.Goals as goal

pub loop-rest-init : goal.loop-rest-init
loop-rest-init c = counting_start c.args.text.now

pub returns-then-e-eq-MOST_BORDERS : goal.returns-then-e-eq-MOST_BORDERS
returns-then-e-eq-MOST_BORDERS c = counting_full _ _ _ c.loop-rest.invariant (search rules) (omega arith)

pub returns-in_err-row : goal.returns-in_err-row
returns-in_err-row c = rw c.from_residual.ensures (counting_missing _ _ _ c.loop-rest.invariant (search rules) c.in_err-row.ensures)

pub loop-rest-preserved : goal.loop-rest-preserved
loop-rest-preserved c = counting_more _ _ _ c.loop-rest.invariant (omega arith) _ c.in_ok-row.ensures

pub returns : goal.returns
returns c = counting_end _ _ _ c.loop-rest.invariant (search rules)
