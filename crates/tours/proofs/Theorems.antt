-- What is shown of a spanning tree's tour, in one place.
--
-- marks_at_least    == marked borders that join all points number at least n - 1
-- tree_tour         == if they number no more, the tour meets all ends, each once
-- passes_meets      == the same of every drawing that passes 1 to 6, one without borders too
-- tour_once         == so the tour is a permutation of the ends
-- alternate_places  == where a, b, a, b stand in it, the second a is at its border's second place and the first b at its first
-- tree_nests        == and no two marked borders alternate in it
-- crossing_not_flat == if two unmarked borders alternate in it, the drawing has few areas: areas + points ≤ borders
-- alternate_few     == the law behind the last two, over any set of borders
-- Assumes nothing.
use mathlib.Core.Path.{◌≡◌, sym, ap, ◌∙◌}
use mathlib.Core.Logic.{inl, inr}
use mathlib.Core.Bool.{Bool, true, false, not}
use Prim.Native.Nat.{ℕ, ◌+◌, ◌≤◌, ◌<◌}
use native.Mathlib.Omega.{arith}
use lib.Dec.{eqb}
use borrow.Author.Tests.{eqb-true, eq-eqb}
use Rattle.count.specs.Below.{count, any}
use Rattle.count.proofs.Logic.{true_or_false}
use Rattle.count.proofs.Below.{count_not, any_has, any_from}
use Rattle.answers.specs.Answer.{Kind}
use Rattle.orbits.specs.Cycles.{Permutes, cycles}
use Rattle.orbits.proofs.Classes.{cycles_same}
use Rattle.drawing.specs.Drawing.{Drawing, borders, ends, border, turn, is_marked, over, walk, around, end_at, position_of, is_second}
use Rattle.drawing.specs.Checks.{PassesSix, Alternate, mark_count}
use Rattle.drawing.proofs.Ends.{turn_permutes, over_over, two_places}
use Rattle.tours.specs.Tour.{MeetsAll, Nests, NotFlat}
use Rattle.tours.proofs.Exchange.{over_permutes, over_rest}
use Rattle.drawing.proofs.Cells.{cells_are, points_are}
use Rattle.tours.proofs.Tour.{tour_permutes, start_below, tree_one_cycle}
pub use Rattle.tours.proofs.Merging.{marks_at_least}
pub use Rattle.tours.proofs.Tour.{tree_tour, passes_meets}
pub use Rattle.tours.proofs.Alternate.{Alternates, alternate_few}

pub tour_once : (D : Drawing) → MeetsAll D → Permutes (ends D) (end_at D)
tour_once D M =
    record {
      below = M.end_below;
      injective = λ p q l k e. sym (M.position_end p l) ∙ ap (position_of D) e ∙ M.position_end q k;
    }

pub alternate_places : (D : Drawing) → PassesSix D → (a b : ℕ) (A : Alternate D a b) → (is_second D A.r ≡ true) × (is_second D A.q ≡ false)
unfolding is_second
alternate_places D six a b A =
    let at : ℕ → ℕ = λ p. border (end_at D p) in
    let before : ℕ → ℕ → Bool = λ p x. eqb (at x) (at p) in (
      any_from (before A.r) A.r A.p (omega (arith, A.p_q, A.q_r)) (eq-eqb (at A.p) (at A.r) (A.at_p ∙ sym A.at_r)),
      elim (true_or_false (any (before A.q) A.q)) [
        | inl t ↦
            let x = any_has (before A.q) A.q t in
            let e : at x.0 ≡ at A.q = eqb-true (at x.0) (at A.q) x.2 in
            let same : at A.q ≡ at A.s = A.at_q ∙ sym A.at_s in
            let once = tour_once D (passes_meets D six) in
            let z : x.0 ≡ A.q =
            two_places (ends D) (end_at D) once x.0 A.q A.s (omega (arith, x.1, A.q_r, A.r_s, A.s_end)) (omega (arith, A.q_r, A.r_s, A.s_end))
            A.s_end (e ∙ same) same (omega (arith, x.1, A.q_r, A.r_s)) (omega (arith, A.q_r, A.r_s)) in
            absurd (omega (arith, x.1))
        | inr f ↦ f
      ],
    )

-- what alternates in a drawing's tour alternates on the walk of its step
alternates : (D : Drawing) (a b : ℕ) → Alternate D a b → Alternates (borders D) (walk D (is_marked D)) D.start a b
unfolding ends end_at
alternates D a b A =
    record {
      p = A.p;
      q = A.q;
      r = A.r;
      t = A.s;
      p_q = A.p_q;
      q_r = A.q_r;
      r_t = A.r_s;
      t_end = A.s_end;
      at_p = A.at_p;
      at_q = A.at_q;
      at_r = A.at_r;
      at_t = A.at_s;
    }

alternate_few_in : (D : Drawing) → PassesSix D → 0 < borders D → (S : ℕ → Bool) (a b : ℕ) → S a ≡ true → S b ≡ true → Alternate D a b
    → cycles (ends D) (λ h. walk D (is_marked D) (over S h)) + 1 ≤ count S (borders D)
unfolding ends
alternate_few_in D six pos S a b sa sb A =
    alternate_few (borders D) (walk D (is_marked D)) (tour_permutes D six) (tree_one_cycle D six pos) D.start (start_below D six pos)
    (alternates D a b A) S sa sb

pub tree_nests : (D : Drawing) → PassesSix D → Nests D
unfolding ends mark_count walk
tree_nests D six =
    record {
      never = λ a b ma mb A.
          let pos : 0 < borders D = omega (arith, A.s_end) in
          let few = alternate_few_in D six pos (is_marked D) a b ma mb A in
          let p : Permutes (ends D) (turn D) = turn_permutes D six.range six.entries in
          let same : cycles (ends D) (turn D) ≡ cycles (ends D) (λ h. walk D (is_marked D) (over (is_marked D) h))
          = cycles_same p (λ h b. ap (turn D) (sym (over_over (is_marked D) h))) in
          omega (arith, few, same, points_are D pos, six.few.fewer);
    }

pub crossing_not_flat : (D : Drawing) → PassesSix D → NotFlat D
unfolding ends mark_count around walk
crossing_not_flat D six =
    record {
      few = λ a b C.
          let pos : 0 < borders D = omega (arith, C.first_border) in
          let U : ℕ → Bool = λ e. not (is_marked D e) in
          let ua : U a ≡ true = rw C.first_unmarked in
          let ub : U b ≡ true = rw C.second_unmarked in
          let few = alternate_few_in D six pos U a b ua ub C.alternate in
          let same : cycles (ends D) (λ h. walk D (is_marked D) (over U h)) ≡ cycles (ends D) (around D Kind.area)
          = cycles_same (over_permutes (borders D) (walk D (is_marked D)) U (tour_permutes D six)) (λ h b. ap (turn D) (over_rest (is_marked D) h)) in
          omega (
            arith,
            few,
            same,
            cells_are D Kind.area pos,
            marks_at_least D six.range six.entries six.joins,
            six.few.fewer,
            count_not (is_marked D) (borders D),
          );
    }
