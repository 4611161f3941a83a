use Rattle.sizing.proofs.Letters.{lettering_neither, lettering_goes, lettering_leaves, lettering_end}
use Rattle.sizing.proofs.counts.Strings.letters.Goals.{else-x-self, then-x-self+else-depth-closing}
use Rattle.sizing.proofs.counts.Strings.letters.Goals as goal

pub returns-then-depth-closing : goal.returns-then-depth-closing
returns-then-depth-closing c = lettering_leaves _ _ _ _ _ _ _ _ _ _ _ _ _ c.loop-q.invariant c.loop-q-test.true _ c.flat-found.ensures.0 c.if-x-self.true c.if-depth-closing.true

pub loop-q-preserved : goal.loop-q-preserved
loop-q-preserved c =
    elim c.if-x-self.branch [
      | then-x-self+else-depth-closing w ↦ lettering_goes _ _ _ _ _ _ _ _ _ _ _ _ _ c.loop-q.invariant c.loop-q-test.true _ _ _ c.flat-found.ensures.0 c.flat-found.ensures.1 w.if-x-self.true w.if-depth-closing.false w.y-is w.depth-is
      | else-x-self w ↦ lettering_neither _ _ _ _ _ _ _ _ _ _ _ _ _ c.loop-q.invariant c.loop-q-test.true _ _ _ c.flat-found.ensures.0 c.flat-found.ensures.1 w.if-x-self.false w.y-is w.depth-is
    ]

pub returns : goal.returns
returns c = lettering_end _ _ _ _ _ _ _ _ _ _ _ _ _ c.loop-q.invariant c.loop-q-test.false
