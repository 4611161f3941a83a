-- From numbers that were read and computed to the definitions of the parts. Sizes, starts and the length the check finds alone.
--
-- past_header  == B or B* begins past the header
-- a_is         == A stands between the header and B
-- b_is         == B or B* stands from its start on, for the bytes that its bits take
-- Assumes nothing.
use mathlib.Core.Path.{◌≡◌, refl, ap, ◌∙◌}
use mathlib.Core.List.{List}
use Prim.Native.Nat.{ℕ, ◌+◌, ◌≤◌}
use native.Mathlib.Omega.{arith}
use Rattle.answers.specs.declared.given.Size.{Size}
use Rattle.words.specs.declared.family.Family.{Family}
use Rattle.words.specs.declared.family.Family.TheVariants.{Round as round, Square as square}
use Rattle.bits.specs.Strings.{bytes_for}
use Rattle.format.specs.Bytes.{header, size_in, bits_b, start_b, map_length, part, part_a, part_b}

pub past_header : (z : Size) (K : Family) (e : ℕ) → e ≡ start_b K z → header ≤ e
unfolding start_b
past_header z round e p = omega arith
past_header z square e p = omega arith

pub a_is : (s r : List ℕ) (e : ℕ) → e ≡ start_b round (size_in s) → r ≡ part s header e → r ≡ part_a s
unfolding part_a
a_is s r e p h = h ∙ ap (part s header) p

b_part : (s : List ℕ) (K : Family) → part s (start_b K (size_in s)) (start_b K (size_in s) + bytes_for (bits_b K (size_in s))) ≡ part_b K s
unfolding part_b map_length start_b
b_part s round = refl
b_part s square = refl

pub b_is : (s r : List ℕ) (K : Family) (a b f : ℕ) → a ≡ start_b K (size_in s) → b ≡ bits_b K (size_in s) → f ≡ bytes_for b → r ≡ part s a (a + f) → r ≡ part_b K s
b_is s r K a b f p q h i =
    let e : f ≡ bytes_for (bits_b K (size_in s)) = h ∙ ap bytes_for q in
    i ∙ rw (p, e) (b_part s K)
