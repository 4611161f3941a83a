-- The word that a string of families and two strings of brackets hold (document 01, "Tour and packed map").
--
-- family_of x, family_bit K == the family that a bit of A stands for, and the bit of a family
-- closing_bit t     == the bit of a family's string: 1 where the letter closes (t)
-- letter_in A B p   == the letter at position p, where B K j is bit j of the string of family K
-- spelled A B n    == the word of n such letters
-- Assumes nothing.
use Rattle.std.specs.Prelude.{Bool, true, false, List, ℕ, eqb}
use Rattle.count.specs.Below.{pick}
use Rattle.words.specs.declared.family.Family.{Family}
use Rattle.words.specs.declared.family.Family.TheVariants.{Round as round, Square as square}
use Rattle.words.specs.Word.{Letter, Word}
use Rattle.bits.specs.Strings.{bit, rank}

-- 01: "A: bit i is 1 if place i is of a marked border. B: for the marked places in order, 0 at a border's first place, 1 at
-- its second. B* is the same for the unmarked ones."
abbrev pub family_of : ℕ → Family
family_of x = pick (eqb x 1) round square

abbrev pub family_bit : Family → ℕ
family_bit round = 1
family_bit square = 0

abbrev pub closing_bit : Bool → ℕ
closing_bit true = 1
closing_bit false = 0

-- A says the family, and the next unread bit of that family's string whether it closes
abbrev pub letter_in : List ℕ → (Family → ℕ → ℕ) → ℕ → Letter
letter_in A B p =
    let K : Family = family_of (bit A p) in
    record { family = K; closing = eqb (B K (rank (family_bit K) A p)) 1 }

abbrev pub spelled : List ℕ → (Family → ℕ → ℕ) → ℕ → Word
spelled A B n = record { size = n; letter = letter_in A B }
