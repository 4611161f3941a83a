-- `opening::checks::check_header` meets its contract. Assumes nothing.
use Rattle.answers.specs.Answer.{answer}
use Rattle.answers.proofs.Steps.{refuses_at, answers_all}
use Rattle.opening.specs.Checks.{header_checks, header_check}
use Rattle.opening.proofs.Rows.{passes, fails}
use Rattle.opening.proofs.checks.check_header.Goals as goal

pub returns-then-not-size_fits : goal.returns-then-not-size_fits
unfolding header_check
returns-then-not-size_fits c = refuses_at (header_checks _) (answer (tt {0})) 0 tt (search fails)

pub returns-then-not-areas_fit : goal.returns-then-not-areas_fit
unfolding header_check
returns-then-not-areas_fit c = refuses_at (header_checks _) (answer (tt {0})) 1 (search passes) (search fails)

pub returns-then-not-length_fits : goal.returns-then-not-length_fits
unfolding header_check
returns-then-not-length_fits c = refuses_at (header_checks _) (answer (tt {0})) 2 (search passes) (search fails)

pub returns : goal.returns
unfolding header_check
returns c = answers_all (header_checks _) (answer (tt {0})) (search passes)
