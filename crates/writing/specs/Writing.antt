-- Writing a map: the word that the chart holds.
--
-- word_at ms w      == the bracket word of the tour that stands in w, with marks ms
-- chart_bytes n ms w == the bytes of its map, with n points
-- Legible ms w     == the chart w has an end and a flag for each of the 2m positions
-- Sized n ms w     == its word has 2n - 2 round letters, and n is 1 to m + 1
-- Assumes nothing.
use Rattle.std.specs.Prelude.{◌≡◌, List, ℕ, ◌+◌, ◌-◌, ◌*◌, ◌<◌, ◌≤◌, eqb, length, get_or}
use Rattle.count.specs.Below.{pick, count}
use Rattle.words.specs.declared.family.Family.TheVariants.{Round as round, Square as square}
use Rattle.words.specs.Word.{same_family, Word}
use Rattle.drawing.specs.Drawing.{most_borders, border}
use Rattle.format.specs.Bytes.{map_bytes}
use Rattle.touring.specs.Working.{tour_in, border_in}

unfoldable pub word_at : List ℕ → List ℕ → Word
unfolding border
word_at ms w =
    record {
      size = 2 * length ms;
      letter = λ p. record {
        family = pick (eqb (get_or ms (border_in w p) 0) 1) round square;
        closing = eqb (get_or w (2 * length ms + p) 0) 1;
      };
    }

abbrev pub chart_bytes : ℕ → List ℕ → List ℕ → List ℕ
chart_bytes n ms w = map_bytes (record { m = length ms; n = n }) (word_at ms w)

pub record Legible (ms w : List ℕ) : Type 0 where
  pub room : 2 * (2 * length ms) ≤ length w
  pub small : length ms ≤ most_borders
  pub below : (p : ℕ) → p < 2 * length ms → tour_in w p < 2 * length ms

pub record Sized (n : ℕ) (ms w : List ℕ) : Type 0 where
  pub least : 1 ≤ n
  pub most : n ≤ length ms + 1
  pub rounds : count (λ p. same_family round ((word_at ms w).letter p).family) (2 * length ms) ≡ 2 * n - 2
