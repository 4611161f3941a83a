-- Spanning trees: a connected drawing has one, and marks of one pass checks 1 to 6.
--
-- tree_marks D      == the marks of the borders that merged two parts when all borders were gone through in order
-- connected_tree   == a drawing is connected exactly if some marks join all points with n - 1 borders
-- suggested_six    == with such marks and a start in range the drawing passes 1 to 6
-- Assumes nothing.
use mathlib.Core.Path.{◌≡◌, refl, sym, ap, ◌∙◌}
use mathlib.Core.Logic.{inl, inr, ◌↔◌}
use mathlib.Core.Bool.{Bool, true, false}
use mathlib.Core.List.{List}
use Prim.Native.Nat.{ℕ, suc, ◌*◌, ◌≤◌, ◌<◌, max}
use native.Mathlib.Omega.{arith}
use lib.Dec.{eqb}
use lib.ListN.{get_or}
use Rattle.count.specs.Below.{pick, count, table}
use Rattle.count.proofs.Logic.{lt_or_ge}
use Rattle.count.proofs.Below.{count_same, count_zero}
use Rattle.count.proofs.Lists.{table_length, table_get_d}
use Rattle.answers.specs.Answer.{Kind}
use Rattle.orbits.specs.Cycles.{Permutes, cycles}
use Rattle.drawing.specs.Drawing.{Drawing, borders, ends, turn, marked, is_marked, every_border, over, walk, around, cells, lent}
use Rattle.drawing.specs.Checks.{Connected, PassesFour, PassesSix, mark_count}
use Rattle.drawing.specs.Tree.{SuggestedTree}
use Rattle.drawing.proofs.Ends.{entries_permute}
use Rattle.drawing.proofs.Labels.{linked_within}
use Rattle.drawing.proofs.Cells.{cells_none, points_are}
use Rattle.tours.proofs.Merging.{merges, merges_join, points_merged}

-- a mark that is read again
mark_back : (t : Bool) → eqb (pick t 1 0) 1 ≡ t
mark_back true = refl
mark_back false = refl

mark_most : (t : Bool) → pick t 1 0 ≤ 1
mark_most true = omega arith
mark_most false = omega arith

abbrev pub tree_marks : Drawing → List ℕ
tree_marks D = table (λ e. pick (merges D every_border e) 1 0) (borders D)

module _ (D : Drawing) where
  marks_are : (e : ℕ) → e < borders D → get_or (tree_marks D) e 0 ≡ pick (merges D every_border e) 1 0
  marks_are e l = table_get_d (λ e. pick (merges D every_border e) 1 0) (borders D) e 0 l

  marked_are : (e : ℕ) → e < borders D → marked (tree_marks D) e ≡ merges D every_border e
  marked_are e l = ap (λ x. eqb x 1) (marks_are e l) ∙ mark_back (merges D every_border e)

  module _ (four : PassesFour D) where
    permutes : Permutes (ends D) (turn D)
    permutes = entries_permute D four.range four.entries

    merged_number : Connected D → suc (count (merges D every_border) (borders D)) ≡ cells D Kind.point
    merged_number c =
        elim (lt_or_ge 0 (borders D)) [
          | inl pos ↦ omega (arith, points_are D pos, points_merged D every_border permutes c pos)
          | inr z ↦
              let e : borders D ≡ 0 = omega arith in
              let none : count (merges D every_border) (borders D) ≡ 0
              = ap (count (merges D every_border)) e ∙ count_zero (merges D every_border) in
              omega (arith, none, cells_none D Kind.point e)
        ]

    tree_suggested : Connected D → SuggestedTree D (tree_marks D)
    tree_suggested c =
        record {
          one_each = table_length (λ e. pick (merges D every_border e) 1 0) (borders D);
          binary = λ e l. rw (marks_are e l) (mark_most (merges D every_border e));
          number = ap suc (count_same (marked (tree_marks D)) (merges D every_border) (borders D) marked_are) ∙ merged_number c;
          join =
              record {
                link = λ g h bg bh.
                    linked_within D D (merges D every_border) (marked (tree_marks D)) permutes refl (λ e l t. marked_are e l ∙ t) g h bg
                    ((merges_join D every_border permutes c).link g h bg bh);
              };
        }

    tree_connected : (ms : List ℕ) → SuggestedTree D ms → Connected D
    tree_connected ms T =
        record {
          link = λ g h bg bh. linked_within D D (marked ms) every_border permutes refl (λ e l t. refl) g h bg (T.join.link g h bg bh);
        }

    pub connected_tree : Connected D ↔ ((ms : List ℕ) × SuggestedTree D ms)
    connected_tree = (λ c. (tree_marks D, tree_suggested c), λ r. tree_connected r.0 r.1)

    module _ (ms : List ℕ) (T : SuggestedTree D ms) (s : ℕ) where
      abbrev E : Drawing
      E = lent D.turning ms s

      same_borders : borders E ≡ borders D
      unfolding borders
      same_borders = T.one_each

      same_ends : ends E ≡ ends D
      unfolding ends
      same_ends = ap (λ m. 2 * m) same_borders

      same_turn : (h : ℕ) → turn E h ≡ turn D h
      unfolding turn
      same_turn h = refl

      same_points : cells E Kind.point ≡ cells D Kind.point
      unfolding cells ends around walk over turn
      same_points = ap (λ m. pick (eqb m 0) 1 (cycles (2 * m) (turn D))) same_borders

      same_marks : mark_count E ≡ count (marked ms) (borders D)
      unfolding mark_count is_marked
      same_marks = ap (count (marked ms)) same_borders

      pub suggested_six : s < max (ends D) 1 → PassesSix (lent D.turning ms s)
      unfolding is_marked borders
      suggested_six l =
          record {
            lengths = record { half = four.lengths.half ∙ ap (λ m. 2 * m) (sym T.one_each); most = four.lengths.most };
            range =
                record {
                  entries = λ h b. rw (same_turn h, same_ends) (four.range h (rw same_ends at b));
                  start = rw same_ends l;
                  marks = λ e b. T.binary e (rw same_borders at b);
                };
            entries =
                record { differ = λ i j k b. rw (same_turn i, same_turn j) (four.entries.differ i j k (rw same_ends at b)) };
            joins =
                record {
                  link = λ g h bg bh.
                      let cg : g < ends D = rw same_ends at bg in
                      linked_within D E (marked ms) (is_marked E) permutes refl (λ e k t. t) g h cg (T.join.link g h cg (rw same_ends at bh));
                };
            few = record { fewer = omega (arith, same_marks, same_points, T.number) };
          }
