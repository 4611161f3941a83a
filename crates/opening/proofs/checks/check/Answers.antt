-- `opening::checks::check` meets its contract. Assumes nothing.
use Rattle.answers.proofs.Passing.{passed_up}
use Rattle.opening.proofs.Rows.{header_refuses, strings_refuse, strings_pass, passes, fails, bytes_open}
use Rattle.opening.proofs.checks.check.Goals as goal

pub returns-in_err-check_header : goal.returns-in_err-check_header
returns-in_err-check_header c =
    record {
      value = passed_up _ _ _ _ c.from_residual.ensures.1 (header_refuses _ _ _ c.in_err-check_header.ensures);
      opens = search bytes_open;
    }

pub returns-then-not-unused_fits : goal.returns-then-not-unused_fits
returns-then-not-unused_fits c =
    record {
      value = strings_refuse _ c.in_ok-check_header.ensures 0 tt (search fails);
      opens = search bytes_open;
    }

pub returns-then-not-ones_fit : goal.returns-then-not-ones_fit
returns-then-not-ones_fit c =
    record {
      value = strings_refuse _ c.in_ok-check_header.ensures 1 (search passes) (search fails);
      opens = search bytes_open;
    }

pub returns-then-not-brackets_fit : goal.returns-then-not-brackets_fit
returns-then-not-brackets_fit c =
    record {
      value = strings_refuse _ c.in_ok-check_header.ensures 2 (search passes) (search fails);
      opens = search bytes_open;
    }

pub returns : goal.returns
returns c =
    record {
      value = strings_pass _ c.in_ok-check_header.ensures (search passes);
      opens = search bytes_open;
    }
