-- What looking for a crossing finds, and what stands on its stack.
--
-- found_means f         == the two borders that f has, or none
-- border_tour ms places t == the borders along the ends t, as the search for the first crossing reads them; ms are the marks
-- chart_tour ms w         == those along the tour that stands in the working list w
-- place_in places w i   == the place at i on the stack that is the last third of w
-- Stands places k e w  == the stack holds k places, and border e is on it, not on top
-- Above places k e w r == r is the border directly above e on it
-- Assumes nothing.
use Rattle.std.specs.Prelude.{◌≡◌, Option, Some, None, not, ◌&&◌, List, [], ◌∷◌, ℕ, ◌+◌, ◌*◌, ◌<◌, ◌≤◌, eqb, ltb, length, get_or}
use Rattle.drawing.specs.Drawing.{border}
use Rattle.drawing.specs.Checks.{Tour}
use Rattle.touring.specs.Working.{tour_in, border_in}

abbrev pub found_means : Option (ℕ × ℕ) → List ℕ
found_means (Some (a, b)) = a ∷ b ∷ []
found_means None = []

abbrev pub border_tour : List ℕ → ℕ → (ℕ → ℕ) → Tour
border_tour ms places t =
    record {
      size = places;
      at = λ p. border (t p);
      unmarked = λ e. ltb e (length ms) && not (eqb (get_or ms e 0) 1);
    }

abbrev pub chart_tour : List ℕ → List ℕ → Tour
chart_tour ms w = border_tour ms (2 * length ms) (tour_in w)

abbrev pub place_in : ℕ → List ℕ → ℕ → ℕ
place_in places w i = get_or w (2 * places + i) 0

pub record Stands (places k e : ℕ) (w : List ℕ) : Type 0 where
  pub room : 2 * places + k ≤ length w
  pub inside : (i : ℕ) → i < k → place_in places w i < length w
  pub j : ℕ
  pub not_top : j + 1 < k
  pub is_there : border_in w (place_in places w j) ≡ e

pub record Above (places k e : ℕ) (w : List ℕ) (r : ℕ) : Type 0 where
  pub j : ℕ
  pub not_top : j + 1 < k
  pub is_there : border_in w (place_in places w j) ≡ e
  pub next : r ≡ border_in w (place_in places w (j + 1))
