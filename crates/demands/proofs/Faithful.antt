-- The word of a drawing that passes 1 to 7 speaks for it, and its bytes hold that word.
--
-- passes_faithful  == crossing and stepping in the word are crossing and turning in the drawing
-- packed_alike     == the word in the bytes is the drawing's, letter by letter
-- Assumes nothing.
use mathlib.Core.Path.{◌≡◌, ap, ◌∙◌}
use Prim.Native.Nat.{ℕ, ◌<◌}
use Rattle.words.specs.Brackets.{step}
use Rattle.words.specs.declared.family.Family.TheVariants.{Round as round}
use Rattle.words.specs.Word.{seen}
use Rattle.words.proofs.Step.{step_below}
use Rattle.drawing.specs.Drawing.{Drawing, ends, turn, end_at, position_of}
use Rattle.drawing.specs.Checks.{PassesSeven}
use Rattle.format.specs.Bytes.{word_in}
use Rattle.format.specs.Pack.{word_of, size_for, packed_bytes}
use Rattle.format.proofs.Encode.{decode_encode}
use Rattle.agreement.specs.Toured.{Toured}
use Rattle.agreement.proofs.Nesting.{word_balanced, cross_mate}
use Rattle.agreement.proofs.Steps.{turn_end}
use Rattle.agreement.proofs.Passed.{passes_toured, passes_fits}
use Rattle.roundtrip.specs.Faithful.{Faithful}
use Rattle.demands.proofs.Alike.{Alike}

turn_step : {D : Drawing} → Toured D → (p : ℕ) → p < ends D
    → position_of D (turn D (end_at D p)) ≡ step (seen round (word_of D)) (ends D) p
turn_step {D} T p l =
    ap (position_of D) (turn_end T p l)
    ∙ T.meets.position_end (step (seen round (word_of D)) (ends D) p) (step_below (seen round (word_of D)) (ends D) (word_balanced T round) p l)

module _ (D : Drawing) (seven : PassesSeven D) where
  pub passes_faithful : Faithful D
  passes_faithful =
      let T : Toured D = passes_toured D seven in
      record {
        range = seven.six.range;
        turns = T.permutes;
        meets = T.meets;
        balanced = word_balanced T;
        crosses = cross_mate T;
        steps = turn_step T;
      }

  pub packed_alike : Alike (word_in (packed_bytes D)) (word_of D)
  unfolding packed_bytes
  packed_alike =
      let same = decode_encode (size_for D) (word_of D) (passes_fits D seven) in
      record { sizes = same.0; letters = same.1 }
