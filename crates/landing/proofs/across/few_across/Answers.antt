-- `landing::across::few_across` meets its contract. Assumes nothing.
use native.Mathlib.Omega.{arith}
use Rattle.landing.proofs.Gathering.{walking_start, area_fits, walking_more, walking_end, landed_own, landed_none}
use Rattle.landing.proofs.across.few_across.Goals as goal

pub returns-then-n-eq0 : goal.returns-then-n-eq0
returns-then-n-eq0 c = search landed_none

pub loop-work-init : goal.loop-work-init
loop-work-init c = search walking_start

pub overflow_cast-list : goal.overflow_cast-list
overflow_cast-list c = record { fits = search area_fits }

pub loop-work-preserved : goal.loop-work-preserved
loop-work-preserved c =
    walking_more _ _ _ _ _ _ _ _ c.loop-work.invariant _ _ _ c.own_mate_at-q.ensures.1 c.own_mate_at-q.ensures.0 c.number_at.ensures
    c.loop-work-test.true c.step_past-r.ensures.value _ (omega (arith, c.abs_diff.ensures)) c.step_past-r.ensures.position (omega (arith, c.if-r-p))

pub returns-then-r-p : goal.returns-then-r-p
returns-then-r-p c =
    landed_own _ _ _ c.first_at-p.ensures.value c.first_at-p.ensures.position _ _
    (walking_end _ _ _ _ _ _ _ _ c.loop-work.invariant _ _ _ c.own_mate_at-q.ensures.1 c.own_mate_at-q.ensures.0 c.number_at.ensures
    c.loop-work-test.true c.step_past-r.ensures.value (omega (arith, c.if-r-p)))
