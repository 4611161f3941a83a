-- `surveying::moves::Survey::mate` meets its contract. Assumes nothing.
use Rattle.walking.proofs.Walks.{mate_other}
use Rattle.surveying.proofs.Looked.{cross_in_at, mate_in_entry}
use borrow.Author.Rules.{rules}
use Rattle.surveying.proofs.moves.Survey.mate.Goals as goal

pub returns-then-bit-family_bit : goal.returns-then-bit-family_bit
returns-then-bit-family_bit c =
    record {
      value = search mate_in_entry;
      position = search cross_in_at;
    }

pub returns : goal.returns
returns c =
    record {
      value = search mate_other;
      position = search rules;
    }
