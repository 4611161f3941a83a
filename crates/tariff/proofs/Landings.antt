-- The areas across the sides of an area of a map that opens: each is an area of the map, and there are at most 4,096.
--
-- landings_length == one for each side
-- landings_each   == what holds of the area across every side holds of each of them
-- landings_long   == in a word there are as many as the area has places
-- landings_in_lem     == landings_each, in a word that is balanced in both families
-- landings_areas  == on a map that opens they are numbers of its areas
-- landings_few    == and no more than it has places
-- Assumes nothing.
use mathlib.Core.Path.{◌≡◌, refl, sym, ap, subst}
use mathlib.Core.List.{List}
use Prim.Native.Nat.{ℕ, zero, suc, ◌≤◌, ◌<◌}
use native.Mathlib.Omega.{arith}
use lib.Dec.{eqb}
use lib.ListN.{length, get_or}
use Rattle.count.proofs.Below.{count_le}
use Rattle.answers.specs.Answer.{Kind}
use Rattle.words.specs.Brackets.{Balanced, step, number, first, size}
use Rattle.words.specs.declared.family.Family.{Family}
use Rattle.words.specs.declared.family.Family.TheVariants.{Square as square}
use Rattle.words.specs.Word.{Word, seen, mate_in}
use Rattle.words.proofs.Step.{step_below}
use Rattle.words.proofs.Mates.{mate_in_below}
use Rattle.words.proofs.Sizes.{first_below}
use Rattle.drawing.specs.Neighbours.{landings}
use Rattle.format.specs.Bytes.{size_in, bits_a, word_in}
use Rattle.format.specs.Open.{open_refusal}
use Rattle.format.specs.Calls.{cells_in, places_in, landings_in}
use Rattle.format.proofs.Passes.{opens_passes}
use Rattle.format.proofs.Decode.{passes_nested}
use Rattle.format.proofs.Openings.{number_cells}

module _ (area cross along : ℕ → ℕ) where
  pub landings_length : (d p : ℕ) → length (landings area cross along d p) ≡ d
  unfolding landings
  landings_length zero p = refl
  landings_length (suc d) p = ap suc (landings_length d (along p))

  pub landings_each : (P : ℕ → Type 0) (n : ℕ) → ((p : ℕ) → p < n → P (area (cross p))) → ((p : ℕ) → p < n → along p < n)
      → (d p i : ℕ) → i < d → p < n → P (get_or (landings area cross along d p) i 0)
  unfolding landings
  landings_each P n a s zero p i l h = absurd (omega arith)
  landings_each P n a s (suc d) p zero l h = a p h
  landings_each P n a s (suc d) p (suc i) l h = landings_each P n a s d (along p) i (omega arith) (s p h)

module _ (w : Word) (k : ℕ) where
  pub landings_long : length (landings_in w k) ≡ places_in w Kind.area k
  unfolding landings_in
  landings_long =
      landings_length (number (seen square w)) (mate_in w) (step (seen square w) w.size) (places_in w Kind.area k)
      (first (seen square w) w.size k)

  places_most : places_in w Kind.area k ≤ w.size
  unfolding places_in size
  places_most = count_le (λ p. eqb (number (seen square w) p) k) w.size

  landings_in_lem : (P : ℕ → Type 0) → ((K : Family) → Balanced (seen K w) w.size)
      → ((p : ℕ) → p < w.size → P (number (seen square w) p)) → (i : ℕ) → i < length (landings_in w k) → P (get_or (landings_in w k) i 0)
  unfolding landings_in places_in
  landings_in_lem P bal a i l =
      let b = seen square w in
      let n = w.size in
      let h : i < size b n k = omega (arith, landings_long) in
      landings_each (number b) (mate_in w) (step b n) P n (λ p u. a (mate_in w p) (mate_in_below w bal p u)) (step_below b n (bal square))
      (size b n k) (first b n k) i h (first_below b n k (omega arith))

word_size : (s : List ℕ) → (word_in s).size ≡ bits_a (size_in s)
unfolding word_in
word_size s = refl

module _ (s : List ℕ) (k : ℕ) (o : open_refusal s ≡ 0) where
  pub landings_areas : (i : ℕ) → i < length (landings_in (word_in s) k)
      → (1 ≤ get_or (landings_in (word_in s) k) i 0) × (get_or (landings_in (word_in s) k) i 0 ≤ cells_in (size_in s) Kind.area)
  landings_areas =
      landings_in_lem (word_in s) k (λ j. (1 ≤ j) × (j ≤ cells_in (size_in s) Kind.area))
      (λ K. subst (Balanced (seen K (word_in s))) (sym (word_size s)) (passes_nested s (opens_passes s o) K))
      (λ p l. number_cells s o Kind.area p (omega (arith, word_size s)))

  pub landings_few : length (landings_in (word_in s) k) ≤ 4096
  landings_few =
      omega (arith, landings_long (word_in s) k, places_most (word_in s) k, word_size s, (opens_passes s o).m_most)
