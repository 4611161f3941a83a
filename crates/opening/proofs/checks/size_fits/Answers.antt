-- `opening::checks::size_fits` meets its contract. Assumes nothing.
use Rattle.opening.proofs.Rows.{too_short, too_many, no_point, points_fit}
use Rattle.opening.proofs.checks.size_fits.Goals as goal

pub returns-then-map-lt-HEADER : goal.returns-then-map-lt-HEADER
returns-then-map-lt-HEADER c = search too_short

pub returns-then-m-gt-MOST_BORDERS : goal.returns-then-m-gt-MOST_BORDERS
returns-then-m-gt-MOST_BORDERS c = search too_many

pub returns-then-n-lt1 : goal.returns-then-n-lt1
returns-then-n-lt1 c = search no_point

pub returns : goal.returns
returns c = search points_fit
