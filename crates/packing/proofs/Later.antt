-- Checks 4 to 7: which refusal comes first, and what packing answers with it.
--
-- declines         == a return by one of the checks 4 to 6
-- kept_same, kept_on == a working list that is as it was
-- checked_4, checked_5, checked_6, checked_six == what the checks 4 to 6 found
-- finish_pair, finish_none == what check 7 found
-- Assumes nothing.
use mathlib.Core.Path.{◌≡◌, refl, sym, ap, ap₂, ◌∙◌}
use mathlib.Core.Logic.{inl, inr}
use mathlib.Core.Bool.{Bool, true, false, not}
use mathlib.Core.List.{List, [], ◌∷◌}
use Prim.Native.Nat.{ℕ, ◌<◌, ◌≤◌}
use native.Mathlib.Omega.{arith}
use borrow.Author.Tests.{le-ltb}
use lib.ListN.{length, get_or}
use Rattle.std.specs.Prelude.{Option, Some, None, is_some, unwrap_or}
use Rattle.count.specs.Below.{Decides, pick}
use Rattle.count.proofs.Logic.{true_or_false, true_not_false, pick_yes, pick_no}
use Rattle.answers.specs.Answer.{answer, refused_with, refused, told, Kind}
use Rattle.answers.specs.Lent.{laid, leaves}
use Rattle.drawing.specs.Drawing.{Drawing, cells, lent}
use Rattle.drawing.specs.Checks.{LengthsFit, InRange, PassesSix, distinct, joined, few_marks, crosses, first_crossing, tour_of, crossing_in, mark_count}
use Rattle.drawing.proofs.Checks.{distinct_decides, few_decides}
use Rattle.drawing.proofs.Labels.{joined_decides}
use Rattle.drawing.proofs.Crossing.{crossing_in_same, no_crossing, some_crossing}
use Rattle.drawing.proofs.Ends.{turn_permutes}
use Rattle.answers.specs.Checks.{check_at}
use Rattle.answers.proofs.Steps.{Passed, refuses_at, answers_all}
use Rattle.format.specs.Pack.{packed_bytes}
use Rattle.lending.specs.Lists.{Kept}
use Rattle.checking.specs.Lent.{Ranged, Differ, Turns}
use Rattle.checking.proofs.Decided.{passes, fails}
use Rattle.checking.proofs.Laws.{ranged_from, turns_from, distinct_is}
use Rattle.crossing.specs.Finding.{found_means, chart_tour}
use Rattle.writing.specs.Writing.{chart_bytes}
use Rattle.packing.proofs.Charting.{Chart, chart_bytes_lem, chart_alike}
use Rattle.packing.specs.Later.{later_checks, later_of, PacksLater}

-- an early return, by check i of those after 3, which carries nothing
declines : (D : Drawing) (i k : ℕ) (old : List ℕ) → Passed (later_checks D) i → (check_at (later_checks D) i).test ≡ false
    → (check_at (later_checks D) i).number ≡ k → (check_at (later_checks D) i).carries ≡ [] → PacksLater D (refused k) old old
unfolding later_of leaves
declines D i k old p f n c =
    let a : later_of D ≡ refused k = sym (refuses_at (later_checks D) (answer (packed_bytes D)) i p f) ∙ ap₂ refused_with n c in
    record { answers = sym (ap (told length) a); output = sym (ap (λ x. leaves laid x old) a) }

pub kept_same : (k : ℕ) (old new : List ℕ) → new ≡ old → Kept k old new
kept_same k old new e = record { same_length = ap length e; rest = λ i h. ap (λ l. get_or l i 0) e }

pub kept_on : (k : ℕ) (old w v : List ℕ) → w ≡ old → Kept k w v → Kept k old v
kept_on k old w v e K = rw e at K

-- ---- checked
module _ (D : Drawing) (F : LengthsFit D) (I : InRange D) where
  pub checked_ranged : Ranged D.turning
  checked_ranged = ranged_from D.turning D.marks D.start F.half I.entries

  module _ (r : Bool) (p : Decides r (Differ D.turning)) where
    pub checked_4 : not r ≡ true → (old : List ℕ) → PacksLater D (refused 4) old old
    checked_4 h old = declines D 0 4 old tt (fails r (distinct D) (distinct_is D.turning D.marks D.start F.half r p) h) refl refl

    module _ (h : not r ≡ false) where
      differ : distinct D ≡ true
      differ = passes r (distinct D) (distinct_is D.turning D.marks D.start F.half r p) h

      pub checked_turns : Turns D.turning
      checked_turns = turns_from D.turning D.marks D.start F.half I.entries ((distinct_decides D).sound differ)

      module _ (x : Option ℕ) (N : (s : ℕ) → x ≡ pick (joined (lent D.turning D.marks s)) (Some (cells (lent D.turning D.marks s) Kind.point)) None) where
        joins_not : x ≡ None → joined D ≡ false
        joins_not z =
            elim (true_or_false (joined D)) [
              | inl t ↦ absurd (true_not_false (is_some x) (ap is_some (N D.start ∙ pick_yes (joined D) (Some (cells D Kind.point)) None t)) (ap is_some z))
              | inr f ↦ f
            ]

        pub checked_5 : x ≡ None → (old : List ℕ) → PacksLater D (refused 5) old old
        checked_5 z old = declines D 1 5 old (differ, tt) (joins_not z) refl refl

        module _ (n : ℕ) (k : x ≡ Some n) (m : ℕ) (M : (ts : List ℕ) (s : ℕ) → m ≡ mark_count (lent ts D.marks s)) where
          joins : joined D ≡ true
          joins =
              elim (true_or_false (joined D)) [
                | inl t ↦ t
                | inr f ↦ absurd (true_not_false (is_some x) (ap is_some k) (ap is_some (N D.start ∙ pick_no (joined D) (Some (cells D Kind.point)) None f)))
              ]

          pub checked_points : n ≡ cells D Kind.point
          checked_points = ap (λ o. unwrap_or o 0) (sym k ∙ N D.start ∙ pick_yes (joined D) (Some (cells D Kind.point)) None joins)

          pub checked_6 : n ≤ m → (old : List ℕ) → PacksLater D (refused 6) old old
          unfolding few_marks
          checked_6 l old =
              declines D 2 6 old (differ, (joins, tt)) (le-ltb (mark_count D) (cells D Kind.point) (omega (arith, checked_points, M D.turning D.start))) refl refl

          pub checked_six : m < n → PassesSix D
          checked_six l =
              let E = (distinct_decides D).sound differ in
              record {
                lengths = F;
                range = I;
                entries = E;
                joins = (joined_decides D (turn_permutes D I E)).sound joins;
                few = record { fewer = omega (arith, checked_points, M D.turning D.start) };
              }

-- ---- finish
module _ (D : Drawing) (six : PassesSix D) where
  four : distinct D ≡ true
  four = (distinct_decides D).complete six.entries

  five : joined D ≡ true
  five = (joined_decides D (turn_permutes D six.range six.entries)).complete six.joins

  few : few_marks D ≡ true
  few = (few_decides D).complete six.few

  module _ (w : List ℕ) (C : Chart D w) where
    -- the tour in the working list is the drawing's
    found_is : (x : Option (ℕ × ℕ)) → found_means x ≡ crossing_in (chart_tour D.marks w) → found_means x ≡ first_crossing D
    unfolding first_crossing
    found_is x Y = Y ∙ crossing_in_same (chart_tour D.marks w) (tour_of D) (chart_alike D six w C)

    pub finish_pair : (x : Option (ℕ × ℕ)) → found_means x ≡ crossing_in (chart_tour D.marks w) → (a b : ℕ) → x ≡ Some (a, b)
        → (old : List ℕ) → PacksLater D (refused_with 7 (a ∷ b ∷ [])) old old
    unfolding later_of leaves
    finish_pair x Y a b f old =
        let is : a ∷ b ∷ [] ≡ first_crossing D = sym (ap found_means f) ∙ found_is x Y in
        let t : crosses D ≡ true =
        elim (true_or_false (crosses D)) [
          | inl t ↦ t
          | inr z ↦ (let none : ◌≡◌ {A = ℕ} 2 0 = ap length (is ∙ no_crossing D z) in absurd (omega arith))
        ] in
        let e : later_of D ≡ refused_with 7 (a ∷ b ∷ [])
        = sym (refuses_at (later_checks D) (answer (packed_bytes D)) 3 (four, (five, (few, tt))) (ap not t)) ∙ ap (refused_with 7) (sym is) in
        record { answers = sym (ap (told length) e); output = sym (ap (λ x. leaves laid x old) e) }

    pub finish_none : (x : Option (ℕ × ℕ)) → found_means x ≡ crossing_in (chart_tour D.marks w) → x ≡ None → (n : ℕ) → n ≡ cells D Kind.point
        → (v : List ℕ) → Chart D v → (r : ℕ) (old new : List ℕ)
        → r ≡ length (chart_bytes n D.marks v) → new ≡ laid (chart_bytes n D.marks v) old
        → PacksLater D (answer r) old new
    unfolding later_of leaves
    finish_none x Y f n e v K r old new p q =
        let is : [] ≡ first_crossing D = sym (ap found_means f) ∙ found_is x Y in
        let t : crosses D ≡ false =
        elim (true_or_false (crosses D)) [
          | inl c ↦ (let two : ◌≡◌ {A = ℕ} 0 2 = ap length is ∙ some_crossing D c in absurd (omega arith))
          | inr z ↦ z
        ] in
        let a : later_of D ≡ answer (packed_bytes D)
        = sym (answers_all (later_checks D) (answer (packed_bytes D)) (four, (five, (few, (ap not t, tt))))) in
        let b = chart_bytes_lem D six v K n e in
        record {
          answers = ap answer (p ∙ ap length b) ∙ sym (ap (told length) a);
          output = q ∙ ap (λ x. laid x old) b ∙ sym (ap (λ x. leaves laid x old) a);
        }
