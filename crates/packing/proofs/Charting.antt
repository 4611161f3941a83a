-- From the working list to the drawing: the chart of its tour, its word, and the tour in which crossings are searched.
--
-- met_same         == tours that agree up to p agree whether p is a second place
-- Chart D w        == the tour of D stands in w, and which places are second
-- chart_made, chart_kept == it does after the tour and the flags, and where only the last third changes
-- chart_charted, chart_legible, chart_sized == so looking for a crossing and writing may begin
-- chart_bytes_lem      == the bytes of its word are those of the drawing
-- chart_alike      == what the search for a crossing reads in it is the drawing's tour
-- Assumes nothing.
use mathlib.Core.Path.{◌≡◌, refl, sym, ap, ◌∙◌}
use mathlib.Core.Bool.{Bool, true, false}
use mathlib.Core.List.{List}
use Prim.Native.Nat.{ℕ, ◌+◌, ◌*◌, ◌<◌, ◌≤◌}
use native.Mathlib.Omega.{arith}
use lib.Dec.{eqb}
use lib.ListN.{length, get_or}
use borrow.Author.Tests.{eq-eqb, eqb-true}
use Rattle.count.specs.Below.{pick, count}
use Rattle.count.proofs.Logic.{bool_same}
use Rattle.count.proofs.Below.{any_has, any_from, count_same, count_le}
use Rattle.answers.specs.Answer.{Kind}
use Rattle.orbits.specs.Cycles.{Permutes}
use Rattle.orbits.proofs.Conjugate.{count_renamed}
use Rattle.words.specs.declared.family.Family.TheVariants.{Round as round, Square as square}
use Rattle.words.specs.Word.{same_family, Letter}
use Rattle.drawing.specs.Drawing.{Drawing, borders, ends, border, is_marked, cells, end_at, is_second}
use Rattle.drawing.specs.Checks.{PassesSix, tour_of, mark_count}
use Rattle.drawing.proofs.Crossing.{Alike}
use Rattle.drawing.proofs.Ends.{count_borders}
use Rattle.tours.proofs.Theorems.{passes_meets, tour_once, marks_at_least}
use Rattle.format.specs.Bytes.{map_bytes}
use Rattle.format.specs.Pack.{word_of, packed_bytes}
use Rattle.format.proofs.Encode.{map_bytes_same}
use Rattle.lending.specs.Lists.{Blank, Kept, Outside, Zeroed}
use Rattle.touring.specs.Working.{Tours, Clean, Noted, Charted, tour_in, border_in, met}
use Rattle.crossing.specs.Finding.{chart_tour}
use Rattle.writing.specs.Writing.{word_at, chart_bytes, Legible, Sized}
use Rattle.writing.proofs.Filling.{round_is}

met_one_way : (t u : ℕ → ℕ) (p : ℕ) → ((q : ℕ) → q ≤ p → t q ≡ u q) → met t p ≡ true → met u p ≡ true
unfolding met
met_one_way t u p same m =
    let r = any_has (λ q. eqb (border (t q)) (border (t p))) p m in
    any_from (λ q. eqb (border (u q)) (border (u p))) p r.0 r.1
    (eq-eqb (border (u r.0)) (border (u p))
    (ap border (sym (same r.0 (omega (arith, r.1)))) ∙ eqb-true (border (t r.0)) (border (t p)) r.2 ∙ ap border (same p (omega arith))))

pub met_same : (t u : ℕ → ℕ) (p : ℕ) → ((q : ℕ) → q ≤ p → t q ≡ u q) → met t p ≡ met u p
met_same t u p same =
    bool_same (met t p) (met u p) (met_one_way t u p same) (met_one_way u t p (λ q l. sym (same q l)))

second_met : (D : Drawing) (p : ℕ) → met (end_at D) p ≡ is_second D p
unfolding met is_second
second_met D p = refl

test_back : (t : Bool) → eqb (pick t 1 0) 1 ≡ t
test_back true = refl
test_back false = refl

pub record Chart (D : Drawing) (w : List ℕ) : Type 0 where
  pub room : 3 * ends D ≤ length w
  pub at : (p : ℕ) → p < ends D → tour_in w p ≡ end_at D p
  pub second : (p : ℕ) → p < ends D → get_or w (ends D + p) 0 ≡ pick (is_second D p) 1 0

module _ (D : Drawing) (six : PassesSix D) where
  half : length D.turning ≡ 2 * length D.marks
  half = six.lengths.half

  module _ (w0 : List ℕ) (B : Blank (3 * length D.turning) w0) where
    module _ (w1 : List ℕ) (T : Tours D w1) (O : Outside 0 (length D.turning) w0 w1) where
      pub chart_clean : Clean (2 * length D.marks) w1
      unfolding ends borders
      chart_clean =
          let M = passes_meets D six in
          record {
            ends =
                record {
                  room = omega (arith, B.room, O.same_length, half);
                  small = omega (arith, six.lengths.most, half);
                  below = λ p l. rw (T.at p l) (M.end_below p l);
                };
            zero = λ e l. O.after (2 * (2 * length D.marks) + e) (omega (arith, half)) ∙ B.zero (2 * (2 * length D.marks) + e) (omega (arith, half));
          }

      module _ (w2 : List ℕ) (F : Noted (2 * length D.marks) w1 w2) where
        pub chart_made : Chart D w2
        unfolding ends borders
        chart_made =
            record {
              room = omega (arith, B.room, O.same_length, F.outside.same_length, half);
              at = λ p l. F.outside.before p l ∙ T.at p l;
              second = λ p l.
                  F.second p l
                  ∙ ap (λ t. pick t 1 0) (met_same (tour_in w1) (end_at D) p (λ q k. T.at q (omega arith)) ∙ second_met D p);
            }

        pub chart_kept_all : (w3 : List ℕ) → Zeroed (2 * (2 * length D.marks)) (3 * (2 * length D.marks)) w2 w3 → Kept (6 * length D.marks) w0 w3
        chart_kept_all w3 Q =
            record {
              same_length = Q.outside.same_length ∙ F.outside.same_length ∙ O.same_length;
              rest = λ i l.
                  Q.outside.after i (omega arith) ∙ F.outside.after i (omega arith) ∙ O.after i (omega (arith, half));
            }

  module _ (w : List ℕ) (C : Chart D w) where
    at_end : (p : ℕ) → p < 2 * length D.marks → tour_in w p ≡ end_at D p
    unfolding ends borders
    at_end p l = C.at p l

    pub chart_kept : (w3 : List ℕ) → Zeroed (2 * (2 * length D.marks)) (3 * (2 * length D.marks)) w w3 → Chart D w3
    unfolding ends borders
    chart_kept w3 Q =
        record {
          room = omega (arith, C.room, Q.outside.same_length);
          at = λ p l. Q.outside.before p (omega arith) ∙ C.at p l;
          second = λ p l. Q.outside.before (2 * length D.marks + p) (omega arith) ∙ C.second p l;
        }

    once : Permutes (2 * length D.marks) (tour_in w)
    unfolding ends borders
    once =
        let M : Permutes (ends D) (end_at D) = tour_once D (passes_meets D six) in
        record {
          below = λ p l. rw (C.at p l) (M.below p l);
          injective = λ p q l k e. M.injective p q l k (sym (C.at p l) ∙ e ∙ C.at q k);
        }

    pub chart_charted : Charted (2 * length D.marks) w
    unfolding ends borders
    chart_charted =
        record {
          room = C.room;
          small = omega (arith, six.lengths.most, half);
          once = once;
          second = λ p l.
              C.second p l
              ∙ ap (λ t. pick t 1 0) (sym (met_same (tour_in w) (end_at D) p (λ q k. C.at q (omega arith)) ∙ second_met D p));
        }

    pub chart_legible : Legible D.marks w
    unfolding ends borders
    chart_legible =
        record { room = omega (arith, C.room); small = omega (arith, six.lengths.most, half); below = once.below }

    marked_same : (p : ℕ) → p < 2 * length D.marks → eqb (get_or D.marks (border_in w p) 0) 1 ≡ is_marked D (border (end_at D p))
    unfolding is_marked
    marked_same p l = ap (λ h. eqb (get_or D.marks (border h) 0) 1) (at_end p l)

    letter_same : (p : ℕ) → p < 2 * length D.marks → (word_at D.marks w).letter p ≡ (word_of D).letter p
    unfolding word_at word_of ends borders
    letter_same p l =
        let f : Bool → Bool → Letter = λ m t. record { family = pick m round square; closing = t } in
        ap (λ m. f m (eqb (get_or w (2 * length D.marks + p) 0) 1)) (marked_same p l)
        ∙ ap (f (is_marked D (border (end_at D p)))) (ap (λ x. eqb x 1) (C.second p l) ∙ test_back (is_second D p))

    pub chart_bytes_lem : (n : ℕ) → n ≡ cells D Kind.point → chart_bytes n D.marks w ≡ packed_bytes D
    unfolding packed_bytes word_at word_of ends borders
    chart_bytes_lem n e =
        map_bytes_same (record { m = length D.marks; n = n }) (word_at D.marks w) (word_of D) refl letter_same
        ∙ ap (λ x. map_bytes (record { m = length D.marks; n = x }) (word_of D)) e

    pub chart_sized : (n : ℕ) → n ≡ cells D Kind.point → Sized n D.marks w
    unfolding word_at ends borders mark_count
    chart_sized n e =
        let least = marks_at_least D six.range six.entries six.joins in
        let few = six.few.fewer in
        let most : mark_count D ≤ length D.marks = count_le (is_marked D) (borders D) in
        let rounds : count (λ p. same_family round ((word_at D.marks w).letter p).family) (2 * length D.marks) ≡ 2 * mark_count D
        = count_same (λ p. same_family round ((word_at D.marks w).letter p).family) (λ p. is_marked D (border (end_at D p))) (2 * length D.marks)
        (λ p l. round_is (eqb (get_or D.marks (border_in w p) 0) 1) ∙ marked_same p l)
        ∙ count_renamed (tour_once D (passes_meets D six)) (λ h. is_marked D (border h))
        ∙ count_borders (is_marked D) (borders D) in
        record { least = omega arith; most = omega arith; rounds = omega arith }

    pub chart_alike : Alike (chart_tour D.marks w) (tour_of D)
    unfolding tour_of ends borders is_marked
    chart_alike = record { size = refl; at = λ p l. ap border (at_end p l); unmarked = λ e. refl }
