-- The word of the chart: its letters and its counts.
--
-- round_..         == whether a letter is round
-- chart_counted    == the counts of the word are those of m and n
-- closing_is       == whether a letter closes
-- Assumes nothing.
use mathlib.Core.Path.{◌≡◌, refl, sym, ap, ◌∙◌}
use mathlib.Core.Bool.{Bool, true, false}
use mathlib.Core.List.{List}
use Prim.Native.Nat.{ℕ, ◌+◌, ◌*◌, ◌<◌}
use lib.Dec.{eqb}
use lib.ListN.{length, get_or}
use Rattle.count.specs.Below.{pick}
use Rattle.words.specs.declared.family.Family.TheVariants.{Round as round, Square as square}
use Rattle.words.specs.Word.{same_family}
use Rattle.drawing.proofs.Ends.{border_below}
use Rattle.touring.specs.Working.{tour_in, border_in}
use Rattle.lettering.specs.Lettering.{Counted}
use Rattle.writing.specs.Writing.{word_at, Legible, Sized}

-- ---- is_round
pub round_is : (t : Bool) → same_family round (pick t round square) ≡ t
round_is true = refl
round_is false = refl

module _ (ms w : List ℕ) (p e : ℕ) (q : e ≡ border_in w p) where
  pub round_place : Legible ms w → p < 2 * length ms → e < length ms
  round_place L l = rw q (border_below (length ms) (tour_in w p) (L.below p l))

  pub round_family : eqb (get_or ms e 0) 1 ≡ same_family round ((word_at ms w).letter p).family
  unfolding word_at
  round_family = ap (λ x. eqb (get_or ms x 0) 1) q ∙ sym (round_is (eqb (get_or ms (border_in w p) 0) 1))

-- ---- write_map
pub closing_is : (ms w : List ℕ) (p : ℕ) → eqb (get_or w (2 * length ms + p) 0) 1 ≡ ((word_at ms w).letter p).closing
unfolding word_at
closing_is ms w p = refl

pub chart_counted : (n : ℕ) (ms w : List ℕ) → Legible ms w → Sized n ms w → Counted (record { m = length ms; n = n }) (word_at ms w)
unfolding word_at
chart_counted n ms w L Z =
    record { m_most = L.small; n_least = Z.least; n_most = Z.most; size = refl; rounds = Z.rounds }
