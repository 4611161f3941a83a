-- `bits::read::unused_zero` meets its contract. Assumes nothing.
use mathlib.Core.Path.{◌∙◌}
use borrow.Author.Tests.{ne_eqb}
use Rattle.std.proofs.lemmas.List.{take_rest}
use Rattle.bits.proofs.Loops.{unused_not, unused_both}
use Rattle.bits.proofs.read.unused_zero.Goals as goal

pub returns-then-byte-k-eq0 : goal.returns-then-byte-k-eq0
returns-then-byte-k-eq0 c =
    unused_both _ _ (λ i. (c.type_inv.s i).fits) _ c.min.ensures (rw c.byte.ensures.0 at c.if-byte-k-eq0.true) _
    (rw (take_rest c.args.s.now c.min.result) at c.all_zero.ensures)

pub returns-else-byte-k-eq0 : goal.returns-else-byte-k-eq0
returns-else-byte-k-eq0 c =
    ne_eqb _ 0 c.if-byte-k-eq0.false ∙ unused_not _ _ (λ i. (c.type_inv.s i).fits) (rw c.byte.ensures.0 at c.if-byte-k-eq0.false)
