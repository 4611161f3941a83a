-- The kind of a bracket, from the bits of the strings.
--
-- kind_round_closes, kind_round_opens, kind_square_closes, kind_square_opens == the byte of each kind: ) ( ] [
-- Assumes nothing.
use mathlib.Core.Path.{◌≡◌}
use mathlib.Core.List.{[], ◌∷◌}
use Prim.Native.Nat.{ℕ}
use borrow.Author.Tests.{eq-eqb, ne_eqb}
use Rattle.text.specs.Listing.{kind}
use Rattle.text.specs.Running.{letter_from}

-- 01: "In listings the four kinds are ( ) for B and [ ] for B*."
module _ (x b c : ℕ) where
  pub kind_round_closes : x ≡ 1 → b ≡ 1 → kind (letter_from x b c) ≡ 41 ∷ []
  unfolding kind
  kind_round_closes e h = rw (eq-eqb x 1 e, eq-eqb b 1 h)

  pub kind_round_opens : x ≡ 1 → (b ≡ 1 → ⊥) → kind (letter_from x b c) ≡ 40 ∷ []
  unfolding kind
  kind_round_opens e h = rw (eq-eqb x 1 e, ne_eqb b 1 h)

  pub kind_square_closes : (x ≡ 1 → ⊥) → c ≡ 1 → kind (letter_from x b c) ≡ 93 ∷ []
  unfolding kind
  kind_square_closes e h = rw (ne_eqb x 1 e, eq-eqb c 1 h)

  pub kind_square_opens : (x ≡ 1 → ⊥) → (c ≡ 1 → ⊥) → kind (letter_from x b c) ≡ 91 ∷ []
  unfolding kind
  kind_square_opens e h = rw (ne_eqb x 1 e, ne_eqb c 1 h)
