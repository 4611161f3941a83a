-- A spanning tree's tour has one cycle, and so meets every end.
--
-- marks_below D e == the marked borders below e
-- label_along    == an end and the next on the walk that crosses those borders have one label after the first e borders
-- label_cycle    == and so have all ends in one cycle of it
-- tree_one_cycle == the tour's step has one cycle
-- tour_permutes, start_below == it permutes the ends, and the start is one of them
-- tree_tour      == the tour meets all ends, each once
-- passes_meets   == so does the tour of every drawing that passes 1 to 6, where there are none too
-- Assumes nothing.
use mathlib.Core.Path.{◌≡◌, refl, sym, ap, ◌∙◌}
use mathlib.Core.Logic.{inl, inr}
use mathlib.Core.Bool.{Bool, true, false, not, ◌&&◌, true≢false}
use Prim.Native.Nat.{ℕ, ◌+◌, ◌*◌, ◌<◌}
use native.Mathlib.Omega.{arith}
use Rattle.count.specs.Below.{count}
use Rattle.count.proofs.Logic.{same_or_not, lt_or_ge, true_or_false, both_left}
use Rattle.count.proofs.Below.{count_same}
use Rattle.orbits.specs.Cycles.{Permutes, SameCycle, cycles}
use Rattle.orbits.proofs.Iter.{iter_below}
use Rattle.orbits.proofs.Same.{same_cycle_induct}
use Rattle.orbits.proofs.Classes.{cycles_same}
use Rattle.drawing.specs.Drawing.{Drawing, borders, ends, border, turn, is_marked, over, walk, end_at, position_of}
use Rattle.drawing.specs.Checks.{PassesSix, mark_count}
use Rattle.drawing.proofs.Ends.{turn_permutes, walk_permutes, over_yes, over_no, over_below, end_zero}
use Rattle.drawing.proofs.Labels.{label, label_turn}
use Rattle.tours.specs.Tour.{MeetsAll}
use Rattle.orbits.proofs.Steps.{steps_below, steps_reach, steps_of, steps_close}
use Rattle.drawing.proofs.Cells.{points_are}
use Rattle.tours.proofs.Exchange.{up_to, added, up_to_below, up_to_from, over_permutes, over_joins}
use Rattle.drawing.proofs.Labels.{label_crosses}
use Rattle.tours.proofs.Merging.{marks_at_least, marks_merge}

abbrev pub marks_below : Drawing → ℕ → ℕ → Bool
marks_below D e = up_to (λ i. false) (is_marked D) e

module _ (D : Drawing) (p : Permutes (ends D) (turn D)) where
  pub label_along : (e h : ℕ) → h < ends D → label D (is_marked D) e (turn D (over (marks_below D e) h)) ≡ label D (is_marked D) e h
  unfolding ends
  label_along e h b =
      let T : ℕ → Bool = marks_below D e in
      label_turn D (is_marked D) p e (over T h) (over_below T (borders D) h b)
      ∙ elim (true_or_false (T (border h))) [
        | inl t ↦
            elim (lt_or_ge (border h) e) [
              | inl k ↦
                  ap (label D (is_marked D) e) (over_yes T h t)
                  ∙ label_crosses D (is_marked D) e h b k (sym (up_to_below (λ i. false) (is_marked D) e (border h) k) ∙ t)
              | inr g ↦ ap (label D (is_marked D) e) (over_no T h (up_to_from (λ i. false) (is_marked D) e (border h) g))
            ]
        | inr t ↦ ap (label D (is_marked D) e) (over_no T h t)
      ]

  pub label_cycle : (e g h : ℕ) → g < ends D → SameCycle (λ x. turn D (over (marks_below D e) x)) g h → label D (is_marked D) e h ≡ label D (is_marked D) e g
  unfolding ends
  label_cycle e g h b s =
      same_cycle_induct (over_permutes (borders D) (turn D) (marks_below D e) p) (λ x. label D (is_marked D) e x ≡ label D (is_marked D) e g) g h
      (λ x bx q. label_along e x bx ∙ q) b refl s

added_all : (t : Bool) → t && not false ≡ t
added_all true = refl
added_all false = refl

pub tree_one_cycle : (D : Drawing) → PassesSix D → 0 < borders D → cycles (ends D) (walk D (is_marked D)) ≡ 1
unfolding ends walk mark_count
tree_one_cycle D six pos =
    let p : Permutes (ends D) (turn D) = turn_permutes D six.range six.entries in
    let none : ℕ → Bool = λ i. false in
    let joined : cycles (2 * borders D) (λ h. turn D (over (is_marked D) h)) + count (added none (is_marked D)) (borders D)
    ≡ cycles (2 * borders D) (λ h. turn D (over none h))
    = over_joins (borders D) (turn D) p none (is_marked D) (λ e l t. absurd (true≢false (sym t)))
    (λ i l t s.
    let b : 2 * i < ends D = omega arith in
    marks_merge D six.range six.entries six.joins six.few.fewer i l (both_left (is_marked D i) (not false) t)
    (sym (label_cycle D p i (2 * i) (2 * i + 1) b s))) in
    let added_are : count (added none (is_marked D)) (borders D) ≡ count (is_marked D) (borders D)
    = count_same (added none (is_marked D)) (is_marked D) (borders D) (λ e l. added_all (is_marked D e)) in
    let none_are : cycles (2 * borders D) (λ h. turn D (over none h)) ≡ cycles (ends D) (turn D)
    = cycles_same (over_permutes (borders D) (turn D) none p) (λ x b. ap (turn D) (over_no none x refl)) in
    omega (arith, joined, added_are, none_are, points_are D pos, six.few.fewer, marks_at_least D six.range six.entries six.joins)

pub tour_permutes : (D : Drawing) → PassesSix D → Permutes (ends D) (walk D (is_marked D))
tour_permutes D six = walk_permutes D (is_marked D) (turn_permutes D six.range six.entries)

pub start_below : (D : Drawing) → PassesSix D → 0 < borders D → D.start < ends D
unfolding ends
start_below D six pos = omega (arith, six.range.start)

pub tree_tour : (D : Drawing) → PassesSix D → 0 < borders D → MeetsAll D
unfolding end_at position_of
tree_tour D six pos =
    let p : Permutes (ends D) (walk D (is_marked D)) = tour_permutes D six in
    let one : cycles (ends D) (walk D (is_marked D)) ≡ 1 = tree_one_cycle D six pos in
    let l : D.start < ends D = start_below D six pos in
    record {
      end_below = λ k b. iter_below p k D.start l;
      position_below = steps_below p one D.start l;
      end_position = steps_reach p one D.start l;
      position_end = steps_of p one D.start l;
      comes_back = steps_close p one D.start l;
    }

-- with no border there is nothing to meet
meets_none : (D : Drawing) → borders D ≡ 0 → MeetsAll D
unfolding ends
meets_none D z =
    record {
      end_below = λ p l. absurd (omega arith);
      position_below = λ h l. absurd (omega arith);
      end_position = λ h l. absurd (omega arith);
      position_end = λ p l. absurd (omega arith);
      comes_back = let e : ends D ≡ 0 = omega arith in ap (end_at D) e ∙ end_zero D;
    }

pub passes_meets : (D : Drawing) → PassesSix D → MeetsAll D
passes_meets D six =
    elim (same_or_not (borders D) 0) [ inl z ↦ meets_none D z | inr n ↦ tree_tour D six (omega arith) ]
