-- The word that strings of bits spell, what the pass over it asks, and what it fills its lists with.
--
-- word_at a n t us   == the word of n letters: bit p of a has the family of letter p, and the brackets of a family are the bits of t, in
--                      order, from the one on that us has at the bit of the family (0 square, 1 round)
-- most_letters       == so many letters a word may have
-- opened_in K w      == how many brackets of a family open
-- Pairable w us     == what is asked: few letters, balanced in both families, and no place in t is too large a number
-- mates_of w         == the mate of each position
-- numbers_of K w     == the number of each position in a family
-- Assumes nothing.
use Rattle.std.specs.Prelude.{List, ℕ, ◌+◌, ◌^◌, ◌<◌, ◌≤◌, get_or}
use Rattle.count.specs.Below.{count, table}
use Rattle.words.specs.Brackets.{is_opens, Balanced, number}
use Rattle.words.specs.declared.family.Family.{Family}
use Rattle.words.specs.Word.{Word, seen, mate_in}
use Rattle.bits.specs.Strings.{bit, rank}
use Rattle.bits.specs.Letters.{family_bit, spelled}

unfoldable pub word_at : List ℕ → ℕ → List ℕ → List ℕ → Word
unfolding bit rank
word_at a n t us = spelled a (λ K j. bit t (get_or us (family_bit K) 0 + j)) n

abbrev pub most_letters : ℕ
most_letters = 4096

abbrev pub opened_in : Family → Word → ℕ
opened_in K w = count (λ p. is_opens (seen K w p)) w.size

pub record Pairable (w : Word) (us : List ℕ) : Type 0 where
  pub few : w.size ≤ most_letters
  pub nested : (K : Family) → Balanced (seen K w) w.size
  pub fits : (K : Family) → get_or us (family_bit K) 0 + w.size < 2 ^ 64

unfoldable pub mates_of : Word → List ℕ
unfolding table mate_in
mates_of w = table (mate_in w) w.size

unfoldable pub numbers_of : Family → Word → List ℕ
unfolding table number seen
numbers_of K w = table (number (seen K w)) w.size
