-- What turn and turn back answer, from the positions that were found.
--
-- turn_is, turn_back_is == the place, and the sign by one comparison
-- Assumes nothing.
use mathlib.Core.Path.{◌≡◌, sym, ap, ap₂, ◌∙◌}
use mathlib.Core.Bool.{Bool}
use mathlib.Core.List.{List}
use Prim.Native.Nat.{ℕ, ◌+◌}
use native.Mathlib.Omega.{arith}
use lib.Dec.{leb}
use Rattle.words.specs.Brackets.{Bracket, step, back}
use Rattle.words.specs.declared.family.Family.TheVariants.{Round as round}
use Rattle.words.specs.Word.{seen}
use Rattle.words.proofs.Round.{last_falls, first_rises}
use Rattle.drawing.specs.Session.{Call}
use Rattle.format.specs.Bytes.{size_in, bits_a, word_in}
use Rattle.format.specs.Calls.{move_in, sign_in, reply_in}
use Rattle.walking.specs.Positions.{Position}
use Rattle.walking.proofs.Decoded.{nested}

module _ (s : List ℕ) (p r : ℕ) (P : Position s p) where
  abbrev b : ℕ → Bracket
  b = seen round (word_in s)

  abbrev n : ℕ
  n = bits_a (size_in s)

  pub turn_is : r ≡ step b n p → record { value = r + 1; sign = leb r p } ≡ reply_in (word_in s) Call.turn p
  unfolding move_in sign_in word_in
  turn_is e =
      ap₂ (λ (x : ℕ) (t : Bool). record { value = x; sign = t }) (omega arith)
      (ap (λ x. leb x p) e ∙ sym (last_falls b n (nested s round P.opens) p P.below))

  pub turn_back_is : r ≡ back b n p → record { value = r + 1; sign = leb p r } ≡ reply_in (word_in s) Call.turn_back p
  unfolding move_in sign_in word_in
  turn_back_is e =
      ap₂ (λ (x : ℕ) (t : Bool). record { value = x; sign = t }) (omega arith)
      (ap (leb p) e ∙ sym (first_rises b n (nested s round P.opens) p P.below))
