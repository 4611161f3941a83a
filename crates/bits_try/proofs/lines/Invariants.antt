-- The measure of `lines` is what is left of 4,200. Assumes nothing.
use Rattle.std.proofs.Common.{◌-◌}
use Rattle.bits_try.proofs.lines.Given as goal

abbrev pub decreases-loop-n : goal.decreases-loop-n
decreases-loop-n g l = 4201 - l.n
