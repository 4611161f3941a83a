-- The partner of a letter in its own family, in a word that is balanced in both.
--
-- viewed K F t          == what a letter of family F that closes (t) or opens is to family K
-- other_family, by_family == a letter is of family K or of the other
-- letter_opens, letter_closes == what a letter is to its own family
-- seen_opens, seen_closes == which letter opens, closes in a family
-- mate_own, mate_else   == a family's partner of a letter: its crossing if it is of the family, else itself
-- mate_in_below, mate_in_involutive, mate_in_moves == crossing pairs the positions
-- mate_in_family, mate_in_closing == it keeps the family and exchanges opening and closing
-- mate_in_opens, mate_in_closes == an opening lies before its partner, a closing after it,
-- mate_in_later, mate_in_earlier == and no other letter does
-- mate_crossing         == p's partner in one family is the other family's partner of p's crossing
-- mate_in_nested       == no two pairs of one family alternate
-- Assumes nothing.
use mathlib.Core.Path.{◌≡◌, refl, sym, ap, ◌∙◌}
use mathlib.Core.Logic.{◌≢◌, ◌⊎◌, inl, inr, ⊎_elim}
use mathlib.Core.Bool.{Bool, true, false, not}
use Prim.Native.Nat.{ℕ, ◌<◌}
use native.Mathlib.Omega.{arith}
use Rattle.count.specs.Below.{pick}
use Rattle.count.proofs.Logic.{true_or_false}
use Rattle.words.specs.Brackets.{Bracket, opens, closes, neither, Balanced, mate}
use Rattle.words.specs.declared.family.Family.{Family}
use Rattle.words.specs.declared.family.Family.TheVariants.{Round as round, Square as square}
use Rattle.words.specs.Word.{same_family, Word, seen, mate_in}
use Rattle.words.proofs.Mate.{mate_neither, mate_opens, mate_closes, mate_below, mate_involutive, never_alternate}

abbrev pub viewed : Family → Family → Bool → Bracket
viewed K F t = pick (same_family K F) (pick t closes opens) neither

viewed_own : (K : Family) (t : Bool) → viewed K K t ≡ pick t closes opens
viewed_own round t = refl
viewed_own square t = refl

viewed_opens : (K F : Family) (t : Bool) → viewed K F t ≡ opens → (F ≡ K) × (t ≡ false)
viewed_opens round round true e = (cc, cc)
viewed_opens round round false e = (refl, refl)
viewed_opens round square t e = (cc, cc)
viewed_opens square round t e = (cc, cc)
viewed_opens square square true e = (cc, cc)
viewed_opens square square false e = (refl, refl)

viewed_closes : (K F : Family) (t : Bool) → viewed K F t ≡ closes → (F ≡ K) × (t ≡ true)
viewed_closes round round true e = (refl, refl)
viewed_closes round round false e = (cc, cc)
viewed_closes round square t e = (cc, cc)
viewed_closes square round t e = (cc, cc)
viewed_closes square square true e = (refl, refl)
viewed_closes square square false e = (cc, cc)

viewed_else : (K F : Family) (t : Bool) → same_family K F ≡ false → viewed K F t ≡ neither
viewed_else K F t e = rw e

abbrev pub other_family : Family → Family
other_family round = square
other_family square = round

-- a letter is of family K or of the other, and not of both
pub by_family : (K F : Family)
    → ((F ≡ K) × (same_family (other_family K) F ≡ false)) ⊎ ((F ≡ other_family K) × (same_family K F ≡ false))
by_family round round = inl (refl, refl)
by_family round square = inr (refl, refl)
by_family square round = inr (refl, refl)
by_family square square = inl (refl, refl)

module _ (w : Word) where
  pub letter_opens : (p : ℕ) → (w.letter p).closing ≡ false → seen (w.letter p).family w p ≡ opens
  unfolding seen
  letter_opens p e = viewed_own (w.letter p).family (w.letter p).closing ∙ ap (λ t. pick t closes opens) e

  pub letter_closes : (p : ℕ) → (w.letter p).closing ≡ true → seen (w.letter p).family w p ≡ closes
  unfolding seen
  letter_closes p e = viewed_own (w.letter p).family (w.letter p).closing ∙ ap (λ t. pick t closes opens) e

  pub seen_opens : (K : Family) (p : ℕ) → seen K w p ≡ opens → ((w.letter p).family ≡ K) × ((w.letter p).closing ≡ false)
  unfolding seen
  seen_opens K p e = viewed_opens K (w.letter p).family (w.letter p).closing e

  pub seen_closes : (K : Family) (p : ℕ) → seen K w p ≡ closes → ((w.letter p).family ≡ K) × ((w.letter p).closing ≡ true)
  unfolding seen
  seen_closes K p e = viewed_closes K (w.letter p).family (w.letter p).closing e

  pub mate_own : (K : Family) (p : ℕ) → (w.letter p).family ≡ K → mate (seen K w) w.size p ≡ mate_in w p
  unfolding mate_in
  mate_own K p e = rw e

  pub mate_else : (K : Family) (p : ℕ) → same_family K (w.letter p).family ≡ false → mate (seen K w) w.size p ≡ p
  unfolding seen
  mate_else K p e = mate_neither (seen K w) w.size p (viewed_else K (w.letter p).family (w.letter p).closing e)

module _ (w : Word) (bal : (K : Family) → Balanced (seen K w) w.size) where
  -- what is known of p's partner
  opening_crossed : (p : ℕ) → p < w.size → (w.letter p).closing ≡ false
      → (p < mate_in w p) × ((w.letter (mate_in w p)).family ≡ (w.letter p).family) × ((w.letter (mate_in w p)).closing ≡ true)
  unfolding mate_in
  opening_crossed p l e =
      let K = (w.letter p).family in
      let h = mate_opens (seen K w) w.size (bal K) p l (letter_opens w p e) in
      let s = seen_closes w K (mate (seen K w) w.size p) h.1 in
      (h.0, s.0, s.1)

  closing_crossed : (p : ℕ) → p < w.size → (w.letter p).closing ≡ true
      → (mate_in w p < p) × ((w.letter (mate_in w p)).family ≡ (w.letter p).family) × ((w.letter (mate_in w p)).closing ≡ false)
  unfolding mate_in
  closing_crossed p l e =
      let K = (w.letter p).family in
      let h = mate_closes (seen K w) w.size (bal K) p l (letter_closes w p e) in
      let s = seen_opens w K (mate (seen K w) w.size p) h.1 in
      (h.0, s.0, s.1)

  pub mate_in_opens : (p : ℕ) → p < w.size → (w.letter p).closing ≡ false → p < mate_in w p
  mate_in_opens p l e = (opening_crossed p l e).0

  pub mate_in_closes : (p : ℕ) → p < w.size → (w.letter p).closing ≡ true → mate_in w p < p
  mate_in_closes p l e = (closing_crossed p l e).0

  pub mate_in_family : (p : ℕ) → p < w.size → (w.letter (mate_in w p)).family ≡ (w.letter p).family
  mate_in_family p l = ⊎_elim
      (λ t. (closing_crossed p l t).1)
      (λ f. (opening_crossed p l f).1)
      (true_or_false (w.letter p).closing)

  pub mate_in_closing : (p : ℕ) → p < w.size → (w.letter (mate_in w p)).closing ≡ not (w.letter p).closing
  mate_in_closing p l = ⊎_elim
      (λ t. (closing_crossed p l t).2 ∙ ap not (sym t))
      (λ f. (opening_crossed p l f).2 ∙ ap not (sym f))
      (true_or_false (w.letter p).closing)

  pub mate_in_below : (p : ℕ) → p < w.size → mate_in w p < w.size
  unfolding mate_in
  mate_in_below p l = let K = (w.letter p).family in mate_below (seen K w) w.size (bal K) p l

  pub mate_in_involutive : (p : ℕ) → p < w.size → mate_in w (mate_in w p) ≡ p
  mate_in_involutive p l =
      let K = (w.letter p).family in
      let e : mate (seen K w) w.size p ≡ mate_in w p = mate_own w K p refl in
      let f : mate (seen K w) w.size (mate_in w p) ≡ mate_in w (mate_in w p) = mate_own w K (mate_in w p) (mate_in_family p l) in
      sym f ∙ ap (mate (seen K w) w.size) (sym e) ∙ mate_involutive (seen K w) w.size (bal K) p l

  pub mate_in_moves : (p : ℕ) → p < w.size → mate_in w p ≢ p
  mate_in_moves p l e = ⊎_elim
      (λ t. omega (arith, mate_in_closes p l t))
      (λ f. omega (arith, mate_in_opens p l f))
      (true_or_false (w.letter p).closing)

  pub mate_in_later : (p : ℕ) → p < w.size → p < mate_in w p → (w.letter p).closing ≡ false
  mate_in_later p l h = ⊎_elim (λ t. absurd (omega (arith, mate_in_closes p l t))) (λ f. f) (true_or_false (w.letter p).closing)

  pub mate_in_earlier : (p : ℕ) → p < w.size → mate_in w p < p → (w.letter p).closing ≡ true
  mate_in_earlier p l h = ⊎_elim (λ t. t) (λ f. absurd (omega (arith, mate_in_opens p l f))) (true_or_false (w.letter p).closing)

  pub mate_crossing : (K : Family) (p : ℕ) → p < w.size
      → mate (seen K w) w.size (mate_in w p) ≡ mate (seen (other_family K) w) w.size p
  mate_crossing K p l = ⊎_elim
      (λ h. mate_own w K (mate_in w p) (mate_in_family p l ∙ h.0) ∙ mate_in_involutive p l ∙ sym (mate_else w (other_family K) p h.1))
      (λ h. mate_else w K (mate_in w p) (ap (same_family K) (mate_in_family p l) ∙ h.1) ∙ sym (mate_own w (other_family K) p h.0))
      (by_family K (w.letter p).family)

  pub mate_in_nested : (p q : ℕ) → p < w.size → q < w.size → (w.letter q).family ≡ (w.letter p).family
      → p < q → q < mate_in w p → mate_in w p < mate_in w q → ⊥
  mate_in_nested p q l k e i j h =
      let K = (w.letter p).family in
      let c : mate (seen K w) w.size p ≡ mate_in w p = mate_own w K p refl in
      let d : mate (seen K w) w.size q ≡ mate_in w q = mate_own w K q e in
      never_alternate (seen K w) w.size (bal K) p q i (omega arith) (omega arith)
      (letter_opens w p (mate_in_later p l (omega arith)))
      (rw e at (letter_opens w q (mate_in_later q k (omega arith))))
