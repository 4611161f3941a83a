-- `reading::fields::digit` meets its contract. Assumes nothing.
use borrow.Author.Rules.{rules}
use Rattle.reading.proofs.Numbers.{digit_short, digit_under, digit_over, digit_is}
use Rattle.reading.proofs.fields.digit.Goals as goal
use Rattle.reading.proofs.fields.digit.Goals.{in_default-via-then-text-lt1, in_default-via-else-text-lt1+then-text-lt48, in_default-via-else-text-lt1+else-text-lt48+else-text-lt58}

pub returns-in-48-to-57 : goal.returns-in-48-to-57
returns-in-48-to-57 c = digit_is c.args.text.now c.from.result (search rules) (search rules) (search rules) c.from.ensures

pub returns-in_default : goal.returns-in_default
returns-in_default c =
    elim c.in_default.branch [
      | in_default-via-then-text-lt1 w ↦ digit_short c.args.text.now (search rules)
      | in_default-via-else-text-lt1+then-text-lt48 w ↦ digit_under c.args.text.now (search rules)
      | in_default-via-else-text-lt1+else-text-lt48+else-text-lt58 w ↦ digit_over c.args.text.now (search rules)
    ]
