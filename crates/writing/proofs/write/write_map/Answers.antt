use mathlib.Core.Path.{ap, ◌∙◌}
use Prim.Native.Nat.{◌+◌}
use native.Mathlib.Omega.{arith}
use Rattle.lettering.proofs.Keeping.{lettered_begun, lettered_fresh, lettered_then, lettered_asks, lettered_more}
use Rattle.lettering.proofs.Ending.{lettered_length, lettered_all}
use Rattle.writing.proofs.Filling.{closing_is, chart_counted}
use Rattle.writing.proofs.write.write_map.Goals as goal

pub loop-p-init : goal.loop-p-init
loop-p-init c =
    let b = c.begin_map-letters.ensures in
    record {
      lettered =
          rw b.at_first.1
          (lettered_fresh _ _ _ _ _ _ (lettered_begun _ _ (chart_counted _ _ _ c.requires.0 c.requires.1) _ c.requires.2 _ b.out_after));
      next = b.at_first.0;
      b_at = b.b_value.0;
      c_at = b.b_value.1;
      end_at = b.b_value.2;
    }

pub put_letter-requires : goal.put_letter-requires
put_letter-requires c =
    let I = c.loop-p.invariant in
    rw I.next (lettered_asks _ _ _ _ _ _ I.lettered (omega arith) _ _ I.b_at I.c_at)

pub loop-p-preserved : goal.loop-p-preserved
loop-p-preserved c =
    let I = c.loop-p.invariant in
    let v = c.put_letter.ensures.value in
    record {
      lettered =
          lettered_more _ _ _ _ _ _ I.lettered (omega arith) _ _ I.b_at I.c_at _ _
          c.is_round.ensures (closing_is _ _ _) _ (rw I.next at c.put_letter.ensures.out_after) _ (ap (λ x. x.rounds) v);
      next = ap (λ x. x.p) v ∙ ap (λ x. x + 1) I.next;
      b_at = ap (λ x. x.b) v ∙ I.b_at;
      c_at = ap (λ x. x.c) v ∙ I.c_at;
      end_at = ap (λ x. x.end) v ∙ I.end_at;
    }

pub returns : goal.returns
returns c =
    let I = c.loop-p.invariant in
    let b = lettered_begun _ _ I.lettered.counted _ c.requires.2 _ c.begin_map-letters.ensures.out_after in
    record {
      value = I.end_at ∙ lettered_length _ _ I.lettered.counted;
      out_after =
          lettered_all _ _ _ _ _ _ (lettered_then _ _ _ _ _ _ b _ _ _ I.lettered) (omega (arith, c.loop-p-test.false));
    }
