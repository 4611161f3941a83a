-- `matching::bytes::entry` meets its contract. Assumes nothing.
use borrow.Author.Rules.{rules}
use Rattle.matching.proofs.Passing.{entry_is}
use Rattle.matching.proofs.bytes.entry.Goals as goal

pub returns : goal.returns
returns c = entry_is c.requires (search rules) c.from.ensures c.from-2.ensures
