-- `tallying::entries::sides_of` meets its contract. Assumes nothing.
use borrow.Author.Rules.{rules}
use Rattle.tallying.proofs.Lookups.{entry_found}
use Rattle.tallying.proofs.entries.sides_of.Goals as goal

pub returns : goal.returns
returns c = (search entry_found, search rules)
