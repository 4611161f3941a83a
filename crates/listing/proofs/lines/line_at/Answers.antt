-- `listing::lines::line_at` meets its contract. Assumes nothing.
use mathlib.Core.Path.{refl}
use Rattle.listing.proofs.Listed.{line_says}
use Rattle.listing.proofs.lines.line_at.Goals as goal

pub returns : goal.returns
returns c =
    line_says _ _ c.own_mate-mate.result _ c.requires.0 c.requires.1 refl c.own_mate-mate.ensures.0 c.own_mate-mate.ensures.1 refl
    c.point-node.ensures c.area-area.ensures
