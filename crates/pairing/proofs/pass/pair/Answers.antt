-- `pairing::pass::pair` meets its contract. Assumes nothing.
use native.Mathlib.Omega.{arith}
use Rattle.words.specs.declared.family.Family.TheVariants.{Square as square}
use Rattle.pairing.proofs.Passed.{opened_few}
use Rattle.pairing.proofs.pass.pair.Goals as goal

pub overflow_add-round : goal.overflow_add-round
overflow_add-round c = record { fits = omega (arith, opened_few _ _ square c.requires.0, c.requires.1) }
