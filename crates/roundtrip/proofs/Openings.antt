-- How many letters open: half of each family, and half of all.
--
-- opens_seen, openings_seen == the openings of a family are its letters that do not close
-- family_count  == a family has twice as many letters as openings
-- openings_all  == half of all letters open
-- openings_round, openings_square, openings_cell == in a word that fits, one less of a family than the map counts points (round), areas (square)
-- Assumes nothing.
use mathlib.Core.Path.{◌≡◌, refl, ◌∙◌}
use mathlib.Core.Bool.{Bool, true, false, not, ◌&&◌}
use Prim.Native.Nat.{ℕ, ◌+◌, ◌-◌, ◌*◌}
use native.Mathlib.Omega.{arith}
use Rattle.count.specs.Below.{count}
use Rattle.count.proofs.Below.{count_same, count_split}
use Rattle.answers.specs.Answer.{Kind}
use Rattle.words.specs.Brackets.{is_opens, Balanced}
use Rattle.words.specs.declared.family.Family.{Family}
use Rattle.words.specs.declared.family.Family.TheVariants.{Round as round, Square as square}
use Rattle.words.specs.Word.{same_family, Word, seen}
use Rattle.words.proofs.Numbers.{openings}
use Rattle.words.proofs.Halves.{is_bracket, openings_half}
use Rattle.format.specs.Calls.{family_of_kind, cells_in}
use Rattle.format.proofs.Strings.{families_all}
use Rattle.format.specs.Fits.{Fits}
use Rattle.words.proofs.Mates.{viewed}

viewed_is_opens : (K F : Family) (t : Bool) → is_opens (viewed K F t) ≡ same_family K F && not t
viewed_is_opens round round true = refl
viewed_is_opens round round false = refl
viewed_is_opens round square t = refl
viewed_is_opens square round t = refl
viewed_is_opens square square true = refl
viewed_is_opens square square false = refl

viewed_is_bracket : (K F : Family) (t : Bool) → is_bracket (viewed K F t) ≡ same_family K F
viewed_is_bracket round round true = refl
viewed_is_bracket round round false = refl
viewed_is_bracket round square t = refl
viewed_is_bracket square round t = refl
viewed_is_bracket square square true = refl
viewed_is_bracket square square false = refl

-- what opens is of the one family or of the other
opens_round : (F : Family) (t : Bool) → not t && same_family round F ≡ is_opens (viewed round F t)
opens_round round true = refl
opens_round round false = refl
opens_round square true = refl
opens_round square false = refl

opens_square : (F : Family) (t : Bool) → not t && not (same_family round F) ≡ is_opens (viewed square F t)
opens_square round true = refl
opens_square round false = refl
opens_square square true = refl
opens_square square false = refl

pub opens_seen : (w : Word) (K : Family) (p : ℕ) → is_opens (seen K w p) ≡ same_family K (w.letter p).family && not (w.letter p).closing
unfolding seen
opens_seen w K p = viewed_is_opens K (w.letter p).family (w.letter p).closing

pub openings_seen : (w : Word) (K : Family) (p : ℕ) → openings (seen K w) p ≡ count (λ q. same_family K (w.letter q).family && not (w.letter q).closing) p
openings_seen w K p =
    count_same (λ q. is_opens (seen K w q)) (λ q. same_family K (w.letter q).family && not (w.letter q).closing) p (λ q l. opens_seen w K q)

module _ (w : Word) (bal : (K : Family) → Balanced (seen K w) w.size) where
  pub family_count : (K : Family) → 2 * openings (seen K w) w.size ≡ count (λ p. same_family K (w.letter p).family) w.size
  unfolding seen
  family_count K =
      openings_half (seen K w) w.size (bal K)
      ∙ count_same (λ p. is_bracket (seen K w p)) (λ p. same_family K (w.letter p).family) w.size
      (λ p l. viewed_is_bracket K (w.letter p).family (w.letter p).closing)

  pub openings_all : 2 * count (λ p. not (w.letter p).closing) w.size ≡ w.size
  unfolding seen
  openings_all =
      let n = w.size in
      let opening : ℕ → Bool = λ p. not (w.letter p).closing in
      let is_round : ℕ → Bool = λ p. same_family round (w.letter p).family in
      let rounds : count (λ p. opening p && is_round p) n ≡ openings (seen round w) n
      = count_same (λ p. opening p && is_round p) (λ p. is_opens (seen round w p)) n (λ p l. opens_round (w.letter p).family (w.letter p).closing) in
      let squares : count (λ p. opening p && not (is_round p)) n ≡ openings (seen square w) n
      = count_same (λ p. opening p && not (is_round p)) (λ p. is_opens (seen square w p)) n (λ p l. opens_square (w.letter p).family (w.letter p).closing) in
      omega (arith, count_split opening is_round n, rounds, squares, family_count round, family_count square, families_all w n)

module _ (m n : ℕ) (w : Word) (fits : Fits (record { m = m; n = n }) w) where
  pub openings_round : openings (seen round w) w.size ≡ n - 1
  openings_round = omega (arith, family_count w fits.nested round, fits.rounds, fits.n_least)

  pub openings_square : openings (seen square w) w.size ≡ m + 1 - n
  openings_square =
      omega (
        arith,
        family_count w fits.nested square,
        families_all w w.size,
        fits.size,
        fits.rounds,
        fits.n_least,
        fits.n_most,
      )

  pub openings_cell : (c : Kind) → 1 + openings (seen (family_of_kind c) w) w.size ≡ cells_in (record { m = m; n = n }) c
  openings_cell Kind.point = omega (arith, openings_round, fits.n_least)
  openings_cell Kind.area = omega (arith, openings_square, fits.n_most)
