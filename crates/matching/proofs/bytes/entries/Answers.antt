-- `matching::bytes::entries` meets its contract: antt computes the entry of every byte. Assumes nothing.
use mathlib.Core.Path.{refl}
use Rattle.matching.specs.Bytes.{entries}
use Rattle.matching.proofs.bytes.entries.Goals as goal

pub returns : goal.returns
unfolding entries
returns c = refl
