-- What a call leaves in the memory lent to it (document 01, "Numbers returned when a call declines").
--
-- laid new old     == new in place of the first entries of old
-- leaves put a old == memory that held old, after a call gave a: what `put` makes of the answer and old; old where the call declines
-- itself x old     == the answer itself, in memory for one number
-- cleared k l      == the list l with its first k entries 0; all of them where it has fewer
-- Assumes nothing.
use Rattle.std.specs.Prelude.{List, ◌++◌, ℕ, min, length, drop, replicate}
use Rattle.answers.specs.Answer.{Answer, answer, refused_with}

-- 01: "touches nothing beyond"
abbrev pub laid : List ℕ → List ℕ → List ℕ
laid new old = new ++ drop (length new) old

-- 01: "Output memory is unchanged." "An accepted pack writes the map's bytes and its length and touches nothing beyond."
unfoldable pub leaves : {A B : Type 0} → (A → B → B) → Answer A → B → B
leaves put (answer x) old = put x old
leaves put (refused_with k xs) old = old

abbrev pub itself : {A : Type 0} → A → A → A
itself x old = x

unfoldable pub cleared : ℕ → List ℕ → List ℕ
cleared k l = replicate (min k (length l)) 0 ++ drop k l
