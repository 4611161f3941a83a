-- `sessions::codes::are_calls` meets its contract. Assumes nothing.
use borrow.Author.Rules.{rules}
use Rattle.sessions.proofs.Coded.{codes_same}
use Rattle.sessions.proofs.codes.are_calls.Goals as goal

pub returns : goal.returns
returns c = codes_same _ _ (search rules)
