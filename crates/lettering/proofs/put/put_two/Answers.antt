-- `lettering::put::put_two` meets its contract. Assumes nothing.
use mathlib.Core.Path.{refl}
use Rattle.lettering.specs.Lettering.{with_two}
use Rattle.lettering.proofs.put.put_two.Goals as goal

pub returns : goal.returns
unfolding with_two
returns c = refl
