use Rattle.landing.proofs.Gathering.{passing_start, passing_end, mate_index, passing_side, passing_other}
use Rattle.landing.proofs.across.gather.Goals.{else-own-k, then-own-k}
use Rattle.landing.proofs.across.gather.Goals as goal

pub loop-p-init : goal.loop-p-init
loop-p-init c =
    let S = c.args.survey.now.holds in
    passing_start _ _ _ _ _ _ S.opens c.bits_a-n.ensures.0 S.mates S.areas c.requires.0 c.requires.1 c.requires.2

pub bounds-areas-q : goal.bounds-areas-q
bounds-areas-q c = search mate_index

pub loop-p-preserved : goal.loop-p-preserved
loop-p-preserved c =
    elim c.if-own-k.branch [
      | then-own-k w ↦ passing_side _ _ _ _ _ _ _ _ _ c.loop-p.invariant c.loop-p-test.true _ c.from-q.ensures _ c.from-own.ensures _ w.if-own-k.true w.c-is
      | else-own-k w ↦ passing_other _ _ _ _ _ _ _ _ _ c.loop-p.invariant c.loop-p-test.true _ c.from-q.ensures _ c.from-own.ensures _ w.if-own-k.false w.c-is
    ]

pub returns : goal.returns
returns c = search passing_end
