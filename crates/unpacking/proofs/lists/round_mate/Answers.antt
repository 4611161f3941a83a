-- `unpacking::lists::round_mate` meets its contract. Assumes nothing.
use Rattle.unpacking.proofs.Written.{part_fits, rest_fits, sum_fits, round_mate_is}
use Rattle.unpacking.proofs.lists.round_mate.Goals as goal

pub overflow_mul-result : goal.overflow_mul-result
overflow_mul-result c = search part_fits

pub overflow_mul-result-2 : goal.overflow_mul-result-2
overflow_mul-result-2 c = search rest_fits

pub overflow_add-result : goal.overflow_add-result
overflow_add-result c = search sum_fits

pub returns : goal.returns
returns c = search round_mate_is
