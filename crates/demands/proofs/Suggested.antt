-- Marks found for the drawer (document 02, 7/14), as theorems: of every drawing, and of whatever marks the call leaves.
--
-- tree_passes      == with the marks of any spanning tree and any start in range the drawing passes 1 to 6, so that packing answers
--                     a map or 7
-- suggested_passes == so with those that the call leaves
-- connected_tree   == a drawing that passes 1 to 4 is connected exactly if some marks join all points with n - 1 borders
-- marks_decline    == when the call declines: in order, whatever marks and start are, with 21 exactly where there is no tree
-- Assumes nothing.
use mathlib.Core.Path.{refl, sym}
use mathlib.Core.Logic.{inl, inr}
use mathlib.Core.List.{List}
use Prim.Native.Nat.{ℕ, ◌<◌, max}
use lib.ListN.{length}
use Rattle.count.proofs.Logic.{true_or_false}
use Rattle.count.proofs.Decides.{decides_refutes}
use Rattle.drawing.specs.Drawing.{Drawing, borders, ends, lent}
use Rattle.drawing.specs.Checks.{PassesFour, PassesSix, crosses, first_crossing}
use Rattle.drawing.specs.Tree.{SuggestedTree}
use Rattle.drawing.proofs.Crossing.{crosses_decides, first_crossing_lem}
use Rattle.tours.proofs.Trees.{connected_tree as tree_exactly, suggested_six}
use Rattle.format.specs.Suggest.{Suggests}
use Rattle.format.proofs.Suggest.{marks_refusals, marks_accepts, marks_apart, marks_unread}
use Rattle.demands.specs.Statements.{turan_bytes}
use Rattle.demands.specs.Suggested.{SuggestedPasses, ConnectedTree, MarksDecline}
use Rattle.demands.proofs.Demands.{demand_2_pack}

pub tree_passes : (D : Drawing) → PassesFour D → (ms : List ℕ) → SuggestedTree D ms → (s : ℕ) → s < max (ends D) 1
    → SuggestedPasses D ms s
tree_passes D four ms T s l =
    let E : Drawing = lent D.turning ms s in
    let six : PassesSix E = suggested_six D four ms T s l in
    record {
      six = six;
      packs = λ w o room.
          elim (true_or_false (crosses E)) [
            | inl t ↦
                inr (((demand_2_pack E w o).pair (first_crossing E)).1 (room, six, ((first_crossing_lem E).first (first_crossing E)).1 (t, refl)))
            | inr f ↦
                inl
                (((demand_2_pack E w o).writes (turan_bytes E)).1
                (room, record { six = six; flat = λ a b c. decides_refutes (crosses_decides E) f (a, b, c) }, refl))
          ];
    }

pub suggested_passes : (D : Drawing) (work work' ms : List ℕ) → Suggests D work work' ms 0 → (s : ℕ) → s < max (ends D) 1
    → SuggestedPasses D ms s
suggested_passes D work work' ms G s l =
    tree_passes D ((marks_accepts D (length work)).0 (sym G.number)).1 ms (G.suggested refl) s l

pub connected_tree : (D : Drawing) → PassesFour D → ConnectedTree D
connected_tree D four = record { exactly = tree_exactly D four }

pub marks_decline : (D : Drawing) (work : ℕ) → MarksDecline D work
unfolding borders
marks_decline D work =
    record {
      order = marks_refusals D work;
      unread = λ ms s e. marks_unread D.turning ms D.marks s D.start e work;
      never_the_method = (
        λ e.
            let r = (marks_apart D work).0 e in
            (r.0, r.1, λ ms T. r.2 ((tree_exactly D r.1).1 (ms, T))),
        λ r.
            (marks_apart D work).1 (r.0, r.1, λ c. let t = (tree_exactly D r.1).0 c in r.2 t.0 t.1),
      );
    }
