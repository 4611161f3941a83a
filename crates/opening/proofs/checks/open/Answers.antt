-- `opening::checks::open` meets its contract. Assumes nothing.
use Rattle.answers.proofs.Passing.{passed_up}
use mathlib.Core.Path.{◌≡◌}
use Rattle.answers.specs.Answer.{answer}
use Rattle.opening.specs.Checks.{open_check}
use Rattle.opening.proofs.Rows.{opens_size, opens_not, answer_opens}
use Rattle.opening.proofs.checks.open.Goals as goal

pub returns-in_err-check : goal.returns-in_err-check
returns-in_err-check c =
    record {
      result_value = passed_up _ _ _ _ c.from_residual.ensures.1 (opens_not _ _ _ c.in_err-check.ensures.value);
      opens = search answer_opens;
    }

pub returns : goal.returns
returns c =
    record {
      result_value = let h : answer (tt {0}) ≡ open_check c.args.map.now = c.in_ok-check.ensures.value in search opens_size;
      opens = search answer_opens;
    }
