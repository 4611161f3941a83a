-- `opening::numbers::is_number` meets its contract. Assumes nothing.
use Rattle.opening.proofs.Refused.{number_zero_not, number_tests}
use Rattle.opening.proofs.numbers.is_number.Goals as goal

pub returns-then-k-eq0 : goal.returns-then-k-eq0
returns-then-k-eq0 c = search number_zero_not

pub returns : goal.returns
returns c = search number_tests
