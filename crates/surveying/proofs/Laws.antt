-- What a caller knows of the lists that the pass has filled.
--
-- mates_are, numbers_are == a list that was laid out so has each place's mate, each place's number
-- mates_long, numbers_long == and has 4,096 entries still
-- listed_size     == the degree of a point (the sides of an area): how many entries have its number
-- listed_first    == its first position: the first entry that has its number
-- listed_across   == the area (the point) across a place: the number at its mate
-- early_is, early_full == a place that is found is the answer; it is found if all places may be looked at
-- In turning order, or along the area's walk, its positions come in rising order (`walk_rises`, `walk_returns` of `words`).
-- Assumes nothing.
use mathlib.Core.Path.{◌≡◌, refl, sym, ap, ◌∙◌}
use mathlib.Core.Bool.{false}
use mathlib.Core.List.{List}
use Prim.Native.Nat.{ℕ, ◌<◌, ◌≤◌}
use native.Mathlib.Omega.{arith}
use lib.Dec.{eqb}
use lib.ListN.{length, get_or, drop, length-append, length-drop}
use Rattle.std.specs.Prelude.{Option, Some, None, IsSome}
use Rattle.count.specs.Below.{count, find, table}
use Rattle.count.proofs.Logic.{true_not_false}
use Rattle.count.proofs.Below.{count_same}
use Rattle.count.proofs.Search.{find_same}
use Rattle.count.proofs.Lists.{table_length}
use Rattle.answers.specs.Lent.{laid}
use Rattle.lending.proofs.Laying.{laid_here}
use Rattle.words.specs.Brackets.{number, first, size}
use Rattle.words.specs.declared.family.Family.{Family}
use Rattle.words.specs.Word.{seen, mate_in}
use Rattle.words.proofs.Mates.{mate_in_below}
use Rattle.format.specs.Bytes.{size_in, bits_a, word_in}
use Rattle.format.specs.Open.{open_refusal}
use Rattle.walking.proofs.Decoded.{nested, places_most}
use Rattle.surveying.specs.Surveyed.{mates_in, numbers_in, Mates, Numbers, Early}

module _ (s l old : List ℕ) where
  pub mates_are : l ≡ laid (mates_in s) old → Mates s l
  unfolding mates_in
  mates_are e =
      let f : ℕ → ℕ = mate_in (word_in s) in
      let n : ℕ = bits_a (size_in s) in
      rw e (record { at = λ p i j. laid_here f n old p i })

  pub numbers_are : (K : Family) → l ≡ laid (numbers_in K s) old → Numbers K s l
  unfolding numbers_in
  numbers_are K e =
      let f : ℕ → ℕ = number (seen K (word_in s)) in
      let n : ℕ = bits_a (size_in s) in
      rw e (record { at = λ p i j. laid_here f n old p i })

module _ (s l : List ℕ) (K : Family) (N : Numbers K s l) (r : bits_a (size_in s) ≤ length l) where
  same_test : (k p : ℕ) → p < bits_a (size_in s) → eqb (number (seen K (word_in s)) p) k ≡ eqb (get_or l p 0) k
  same_test k p i = ap (λ x. eqb x k) (sym (N.at p i (omega arith)))

  pub listed_size : (k : ℕ) → size (seen K (word_in s)) (bits_a (size_in s)) k ≡ count (λ p. eqb (get_or l p 0) k) (bits_a (size_in s))
  unfolding size
  listed_size k =
      count_same (λ p. eqb (number (seen K (word_in s)) p) k) (λ p. eqb (get_or l p 0) k) (bits_a (size_in s)) (same_test k)

  pub listed_first : (k : ℕ) → first (seen K (word_in s)) (bits_a (size_in s)) k ≡ find (λ p. eqb (get_or l p 0) k) (bits_a (size_in s))
  unfolding first
  listed_first k =
      find_same (λ p. eqb (number (seen K (word_in s)) p) k) (λ p. eqb (get_or l p 0) k) (bits_a (size_in s)) (same_test k)

  pub listed_across : (m : List ℕ) (p : ℕ) → open_refusal s ≡ 0 → Mates s m → bits_a (size_in s) ≤ length m → p < bits_a (size_in s)
      → get_or l (get_or m p 0) 0 ≡ number (seen K (word_in s)) (mate_in (word_in s) p)
  unfolding word_in
  listed_across m p o M h i =
      let e : get_or m p 0 ≡ mate_in (word_in s) p = M.at p i (omega arith) in
      let b = mate_in_below (word_in s) (λ X. nested s X o) p i in
      ap (λ x. get_or l x 0) e ∙ N.at (mate_in (word_in s) p) b (omega arith)

-- ---- lists of the whole map
module _ (s old l : List ℕ) (O : open_refusal s ≡ 0) (h : length old ≡ 4096) where
  laid_long : (f : ℕ → ℕ) → l ≡ laid (table f (bits_a (size_in s))) old → 4096 ≡ length l
  laid_long f e =
      let new : List ℕ = table f (bits_a (size_in s)) in
      let t : length l ≡ length (laid new old) = ap length e in
      omega (arith, t, table_length f (bits_a (size_in s)), places_most s O, length-append new (drop (length new) old), length-drop (length new) old)

  pub mates_long : l ≡ laid (mates_in s) old → 4096 ≡ length l
  unfolding mates_in
  mates_long e = laid_long (mate_in (word_in s)) e

  pub numbers_long : (K : Family) → l ≡ laid (numbers_in K s) old → 4096 ≡ length l
  unfolding numbers_in
  numbers_long K e = laid_long (number (seen K (word_in s))) e

-- ---- a place that may be missing
module _ (m n most x : ℕ) (r : Option ℕ) (hn : m ≡ n) (E : Early n most x r) where
  pub early_is : (y : ℕ) → r ≡ Some y → y ≡ x
  early_is y e = E.is y e

  pub early_full : most ≡ m → r ≡ Some x
  early_full e = full r refl (E.enough (omega arith))
    where
      full : (o : Option ℕ) → r ≡ o → IsSome o → r ≡ Some x
      full (Some y) f h = f ∙ ap Some (E.is y f)
      full None f h = absurd (true_not_false false h refl)
