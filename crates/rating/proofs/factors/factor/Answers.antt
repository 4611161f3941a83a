-- `rating::factors::factor` meets its contract. Assumes nothing.
use mathlib.Core.Path.{◌≡◌}
use Rattle.answers.specs.Answer.{answer, Kind}
use Rattle.opening.specs.Checks.{cell_check}
use Rattle.walking.proofs.Checked.{cell_numbered}
use Rattle.rating.proofs.Prices.{lists_lent, factor_held}
use Rattle.rating.proofs.factors.factor.Goals as goal

pub mean_across-requires : goal.mean_across-requires
mean_across-requires c = let h : answer (tt {0}) ≡ cell_check c.args.map.now Kind.area c.args.area.0 = c.in_ok-check_cell.ensures in (search cell_numbered, search lists_lent)

pub returns-in-Held : goal.returns-in-Held
returns-in-Held c = let h : answer (tt {0}) ≡ cell_check c.args.map.now Kind.area c.args.area.0 = c.in_ok-check_cell.ensures in search factor_held
