-- `sizing::counts::Strings::pass` meets its contract. Assumes nothing.
use Rattle.sizing.proofs.Letters.{pass_none, pass_deep}
use Rattle.sizing.proofs.counts.Strings.pass.Goals as goal

pub returns-then-k-eq0 : goal.returns-then-k-eq0
returns-then-k-eq0 c = pass_none _ _ _ _ _ _ _ _ _ c.requires.1 _ c.if-k-eq0.true c.flat.ensures.0

pub returns-then-k-at : goal.returns-then-k-at
returns-then-k-at c = pass_deep _ _ _ _ _ _ _ _ _ c.requires.1 _ c.ahead.ensures c.requires.0.depth_few c.if-k-at.true
