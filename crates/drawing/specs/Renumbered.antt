-- A drawing renumbered as unpacking numbers (document 01: "Unpacking numbers borders by their first places. The first place is
-- the even end, the start is 0. Packing a drawing and unpacking gives that drawing so renumbered.").
--
-- new_border D e  == the new number of border e: how many first places come before its first place
-- new_end D h     == the new number of end h: the even end of the new border at its first place, the odd end at its second
-- old_end D g     == the end whose new number is g
-- renumbered D   == the drawing in the new numbers
-- Assumes nothing.
use Rattle.std.specs.Prelude.{not, ℕ, ◌+◌, ◌*◌, min, get_or, eqb}
use Rattle.count.specs.Below.{pick, count, find, table}
use Rattle.drawing.specs.Drawing.{Drawing, borders, ends, border, turn, position_of, is_second}

unfoldable pub new_border : Drawing → ℕ → ℕ
unfolding count is_second position_of
new_border D e = count (λ p. not (is_second D p)) (min (position_of D (2 * e)) (position_of D (2 * e + 1)))

unfoldable pub new_end : Drawing → ℕ → ℕ
unfolding new_border border is_second position_of
new_end D h = 2 * new_border D (border h) + pick (is_second D (position_of D h)) 1 0

unfoldable pub old_end : Drawing → ℕ → ℕ
unfolding find new_end ends
old_end D g = find (λ h. eqb (new_end D h) g) (ends D)

unfoldable pub renumbered : Drawing → Drawing
unfolding table new_end turn old_end ends border borders
renumbered D =
    record {
      turning = table (λ g. new_end D (turn D (old_end D g))) (ends D);
      marks = table (λ e. get_or D.marks (border (old_end D (2 * e))) 0) (borders D);
      start = 0;
    }
