-- `matching::forwards::ahead_from` meets its contract. Assumes nothing.
use native.Mathlib.Omega.{arith}
use Rattle.matching.proofs.Partners.{ahead_goes}
use Rattle.matching.proofs.forwards.ahead_from.Goals as goal

pub returns : goal.returns
returns c = ahead_goes _ _ _ _ _ (omega arith) (omega arith) _ c.ahead_bits-first.ensures _ c.if-first-ne0.false c.ahead_bytes.ensures
