use native.Mathlib.Omega.{arith}
use Rattle.pairing.proofs.Filling.{filling_start, mates_end, squares_end, rounds_end, square_room, round_room, read_few, filling_passable, filling_more}
use Rattle.pairing.proofs.pass.fill.Goals as goal

pub loop-p-init : goal.loop-p-init
loop-p-init c = search filling_start

pub overflow_add-unread : goal.overflow_add-unread
overflow_add-unread c = record { fits = omega (arith, read_few _ _ _ _ _ _ _ _ _ _ _ _ _ c.loop-p.invariant _ c.loop-p-test.true c.bit-x.ensures.0) }

pub bounds-rounds-p : goal.bounds-rounds-p
bounds-rounds-p c = search round_room

pub bounds-squares-p : goal.bounds-squares-p
bounds-squares-p c = search square_room

pub pass-requires : goal.pass-requires
pass-requires c = search filling_passable

pub loop-p-preserved : goal.loop-p-preserved
loop-p-preserved c = search filling_more

pub returns : goal.returns
returns c =
    record {
      mates_after = search mates_end;
      squares_after = search squares_end;
      rounds_after = search rounds_end;
    }
