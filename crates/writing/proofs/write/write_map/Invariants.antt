-- `writing::write::write_map` meets its contract. The loop keeps `Lettered`: the letters passed are written. Assumes nothing.
use mathlib.Core.Path.{◌≡◌}
use lib.ListN.{length}
use Rattle.words.specs.declared.family.Family.TheVariants.{Round as round, Square as square}
use Rattle.format.specs.Bytes.{start_b, map_length}
use Rattle.lettering.specs.Lettering.{Lettered}
use Rattle.writing.specs.Writing.{word_at}
use Rattle.writing.proofs.write.write_map.Given as goal

abbrev pub invariant-loop-p : goal.invariant-loop-p
invariant-loop-p l =
    record {
      lettered : Lettered (record { m = length l.marks; n = l.n }) (word_at l.marks l.work) l.initial.out l.p l.letters.rounds l.out;
      next : l.letters.p ≡ l.p;
      b_at : l.letters.b ≡ start_b round (record { m = length l.marks; n = l.n });
      c_at : l.letters.c ≡ start_b square (record { m = length l.marks; n = l.n });
      end_at : l.letters.end ≡ map_length (record { m = length l.marks; n = l.n });
    }
