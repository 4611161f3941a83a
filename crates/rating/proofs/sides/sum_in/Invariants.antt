-- `rating::sides::sum_in` meets its contract. The loop keeps that the factors of the areas before the index are added. Assumes nothing.
use Rattle.std.proofs.Common.{◌≡◌, take}
use Rattle.tariff.specs.Tariff.{sum_across}
use Rattle.rating.proofs.sides.sum_in.Given as goal

abbrev pub invariant-loop-k : goal.invariant-loop-k
invariant-loop-k l = l.sum ≡ sum_across l.tariff.kinds.now l.tariff.values.now (take l.k-index l.list)
