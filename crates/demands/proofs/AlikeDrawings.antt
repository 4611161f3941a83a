-- Words that are alike unpack to the same drawing.
--
-- alike_drawing == one size, the same letters, balanced: the same drawing
-- Assumes nothing.
use mathlib.Core.Path.{◌≡◌, sym, ap, ◌∙◌, subst}
use mathlib.Core.Bool.{not}
use Prim.Native.Nat.{ℕ, ◌+◌, ◌*◌, ◌/◌, ◌≤◌, ◌<◌}
use native.Mathlib.Omega.{arith}
use lib.Dec.{eqb}
use Rattle.count.specs.Below.{pick}
use Rattle.count.proofs.Counts.{count_same}
use Rattle.count.proofs.Search.{find_same}
use Rattle.count.proofs.Lists.{table_same}
use Rattle.words.specs.Brackets.{Balanced, step}
use Rattle.words.specs.declared.family.Family.{Family}
use Rattle.words.specs.declared.family.Family.TheVariants.{Round as round}
use Rattle.words.specs.Word.{Letter, Word, seen, mate_in}
use Rattle.words.proofs.Step.{step_below}
use Rattle.words.proofs.Same.{word, seen_same, mate_in_same, step_same}
use Rattle.bits.specs.Letters.{family_bit}
use Rattle.format.specs.Pack.{opens_before, end_in, position_in, drawing_of}
use Rattle.words.proofs.Mates.{mate_in_below}
use Rattle.roundtrip.proofs.Ends.{position_in_below}
use Rattle.demands.proofs.Alike.{Alike}

module _ (n : ℕ) (f g : ℕ → Letter) (same : (p : ℕ) → p < n → f p ≡ g p) (nested : (K : Family) → Balanced (seen K (word n g)) n) where
  opens_same : (p : ℕ) → p ≤ n → opens_before (word n f) p ≡ opens_before (word n g) p
  unfolding opens_before
  opens_same p l =
      count_same (λ q. not (f q).closing) (λ q. not (g q).closing) p (λ q k. ap (λ (x : Letter). not x.closing) (same q (omega arith)))

  end_same : (p : ℕ) → p < n → end_in (word n f) p ≡ end_in (word n g) p
  unfolding end_in
  end_same p l =
      let below : mate_in (word n g) p < n = mate_in_below (word n g) nested p l in
      let at : opens_before (word n f) (mate_in (word n f) p) ≡ opens_before (word n g) (mate_in (word n g) p) =
      ap (opens_before (word n f)) (mate_in_same n f g same p l) ∙ opens_same (mate_in (word n g) p) (omega arith) in
      λ i. pick (same p l i).closing (2 * at i + 1) (2 * opens_same p (omega arith) i)

  position_same : (h : ℕ) → position_in (word n f) h ≡ position_in (word n g) h
  unfolding position_in
  position_same h = find_same (λ p. eqb (end_in (word n f) p) h) (λ p. eqb (end_in (word n g) p) h) n (λ p l. ap (λ x. eqb x h) (end_same p l))

  turning_same : (h : ℕ) → h < n
      → end_in (word n f) (step (seen round (word n f)) n (position_in (word n f) h))
      ≡ end_in (word n g) (step (seen round (word n g)) n (position_in (word n g) h))
  turning_same h l =
      let p : ℕ = position_in (word n g) h in
      let below : p < n = position_in_below (word n g) nested h l in
      ap (λ x. end_in (word n f) (step (seen round (word n f)) n x)) (position_same h)
      ∙ ap (end_in (word n f)) (step_same (seen round (word n f)) (seen round (word n g)) n (seen_same n f g same round) p below)
      ∙ end_same (step (seen round (word n g)) n p) (step_below (seen round (word n g)) n (nested round) p below)

  mark_same : (e : ℕ) → e < n / 2 → family_bit (f (position_in (word n f) (2 * e))).family ≡ family_bit (g (position_in (word n g) (2 * e))).family
  mark_same e l =
      ap (λ x. family_bit (f x).family) (position_same (2 * e))
      ∙ ap (λ (x : Letter). family_bit x.family)
      (same (position_in (word n g) (2 * e)) (position_in_below (word n g) nested (2 * e) (omega arith)))

  drawing_same : drawing_of (word n f) ≡ drawing_of (word n g)
  unfolding drawing_of
  drawing_same =
      let t = table_same
      (λ h. end_in (word n f) (step (seen round (word n f)) n (position_in (word n f) h)))
      (λ h. end_in (word n g) (step (seen round (word n g)) n (position_in (word n g) h)))
      n turning_same in
      let k = table_same
      (λ e. family_bit (f (position_in (word n f) (2 * e))).family)
      (λ e. family_bit (g (position_in (word n g) (2 * e))).family)
      (n / 2) mark_same in
      λ i. record { turning = t i; marks = k i; start = 0 }

pub alike_drawing : (v w : Word) → Alike v w → ((K : Family) → Balanced (seen K w) w.size) → drawing_of v ≡ drawing_of w
alike_drawing v w a nested =
    subst (λ m. drawing_of (word m v.letter) ≡ drawing_of w) (sym a.sizes)
    (drawing_same w.size v.letter w.letter a.letters nested)
