-- `scheduling::print::put_schedule` meets its contract. Assumes nothing.
use borrow.Author.Rules.{rules}
use Rattle.tallying.proofs.Counting.{blank_zeros}
use Rattle.scheduling.proofs.print.put_schedule.Goals as goal

pub tally-requires : goal.tally-requires
tally-requires c = (search rules, blank_zeros 2049, blank_zeros 2049)
