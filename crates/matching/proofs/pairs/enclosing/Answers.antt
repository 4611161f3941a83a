-- `matching::pairs::enclosing` meets its contract. Assumes nothing.
use native.Mathlib.Omega.{arith}
use borrow.Author.Rules.{rules}
use Rattle.matching.proofs.Partners.{enclosing_past, enclosing_first, enclosing_on, enclosing_room}
use Rattle.matching.proofs.pairs.enclosing.Goals as goal

pub returns-then-s-k : goal.returns-then-s-k
returns-then-s-k c = enclosing_past _ _ c.if-s-k.true

pub overflow_add-result : goal.overflow_add-result
overflow_add-result c = record { fits = omega (arith, (enclosing_first _ _ _ _ (search rules) c.behind_bits-w.ensures c.if-w-ne0.true).1) }

pub returns-then-w-ne0 : goal.returns-then-w-ne0
returns-then-w-ne0 c = enclosing_first _ _ _ _ (search rules) c.behind_bits-w.ensures c.if-w-ne0.true

pub behind_bytes-requires : goal.behind_bytes-requires
behind_bytes-requires c = (
  search rules,
  omega (arith, enclosing_room _ _ _ _ (search rules) c.behind_bits-w.ensures),
)

pub returns : goal.returns
returns c = enclosing_on _ _ _ _ (search rules) c.behind_bits-w.ensures _ c.if-w-ne0.false c.behind_bytes.ensures
