-- The word of a word's drawing is the word again.
--
-- drawing_second == a position of the tour is its border's second place exactly if its letter closes
-- drawing_size, drawing_letter, drawing_word == the drawing's word has as many letters, and the same ones
-- drawing_bytes  == so the drawing of a word that fits packs to the bytes of the word
-- Assumes nothing.
use mathlib.Core.Path.{◌≡◌, sym, ap, ap₂, ◌∙◌}
use mathlib.Core.Logic.{⊎_elim}
use mathlib.Core.Bool.{Bool}
use Prim.Native.Nat.{ℕ, ◌<◌}
use native.Mathlib.Omega.{arith}
use lib.Dec.{eqb}
use borrow.Author.Tests.{eqb-true, eq-eqb}
use Rattle.count.specs.Below.{pick}
use Rattle.count.proofs.Logic.{bool_same}
use Rattle.count.proofs.Below.{any_has, any_from}
use Rattle.words.specs.Brackets.{Balanced}
use Rattle.words.specs.declared.family.Family.{Family}
use Rattle.words.specs.declared.family.Family.TheVariants.{Round as round, Square as square}
use Rattle.words.specs.Word.{Word, seen, mate_in}
use Rattle.bits.proofs.Letters.{family_same, family_back}
use Rattle.drawing.specs.Drawing.{border, is_marked, end_at, is_second}
use Rattle.drawing.proofs.Ends.{other_border}
use Rattle.format.specs.Bytes.{map_bytes}
use Rattle.format.specs.Pack.{end_in, drawing_of, word_of, packed_bytes}
use Rattle.format.proofs.Encode.{map_bytes_same}
use Rattle.format.specs.Fits.{Fits}
use Rattle.words.proofs.Mates.{mate_in_below, mate_in_closes, mate_in_earlier}
use Rattle.roundtrip.proofs.Ends.{end_in_crossing, border_pairs}
use Rattle.roundtrip.proofs.Drawing.{drawing_ends, drawing_marked, drawing_tour, drawing_borders, drawing_points}

module _ (w : Word) (bal : (K : Family) → Balanced (seen K w) w.size) where
  border_at : (p : ℕ) → p < w.size → border (end_at (drawing_of w) p) ≡ border (end_in w p)
  border_at p l = ap border (drawing_tour w bal p l)

  -- the border of p was met before
  met : ℕ → ℕ → Bool
  met p q = eqb (border (end_at (drawing_of w) q)) (border (end_at (drawing_of w) p))

  pub drawing_second : (p : ℕ) → p < w.size → is_second (drawing_of w) p ≡ (w.letter p).closing
  unfolding is_second met
  drawing_second p l = bool_same (is_second (drawing_of w) p) (w.letter p).closing
      (λ h. let r = any_has (met p) p h in
      let k : r.0 < p = r.1 in
      let e : border (end_in w p) ≡ border (end_in w r.0)
      = sym (border_at p l) ∙ sym (eqb-true (border (end_at (drawing_of w) r.0)) (border (end_at (drawing_of w) p)) r.2) ∙ border_at r.0 (omega arith) in
      ⊎_elim (λ s. absurd (omega arith)) (λ s. mate_in_earlier w bal p l (omega arith)) (border_pairs w bal p r.0 l (omega arith) e))
      (λ t. any_from (met p) p (mate_in w p) (mate_in_closes w bal p l t)
      (eq-eqb (border (end_at (drawing_of w) (mate_in w p))) (border (end_at (drawing_of w) p))
      (border_at (mate_in w p) (mate_in_below w bal p l) ∙ ap border (end_in_crossing w bal p l) ∙ other_border (end_in w p) ∙ sym (border_at p l))))

  pub drawing_size : (word_of (drawing_of w)).size ≡ w.size
  unfolding word_of
  drawing_size = drawing_ends w bal

  pub drawing_letter : (p : ℕ) → p < w.size → (word_of (drawing_of w)).letter p ≡ w.letter p
  unfolding word_of
  drawing_letter p l =
      ap₂ (λ F t. record { family = F; closing = t })
      (ap (λ x. pick (is_marked (drawing_of w) x) round square) (border_at p l)
      ∙ ap (λ t. pick t round square) (drawing_marked w bal p l ∙ family_same round (w.letter p).family) ∙ family_back (w.letter p).family)
      (drawing_second p l)

  pub drawing_word : ((word_of (drawing_of w)).size ≡ w.size) × ((p : ℕ) → p < w.size → (word_of (drawing_of w)).letter p ≡ w.letter p)
  drawing_word = (drawing_size, drawing_letter)

pub drawing_bytes : (m n : ℕ) (w : Word) → Fits (record { m = m; n = n }) w → packed_bytes (drawing_of w) ≡ map_bytes (record { m = m; n = n }) w
unfolding packed_bytes
drawing_bytes m n w fits =
    ap₂ (λ x y. map_bytes (record { m = x; n = y }) (word_of (drawing_of w))) (drawing_borders m n w fits) (drawing_points m n w fits)
    ∙ map_bytes_same (record { m = m; n = n }) (word_of (drawing_of w)) w (drawing_size w fits.nested) (drawing_letter w fits.nested)
