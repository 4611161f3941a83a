-- The order of the checks, and what is left of the marks and of the working list.
--
-- later_4, later_21, later_none == the first of 4 and 21 that applies
-- later_turns      == 4 does not: the turning list is a permutation
-- first_1, first_2, first_3 == the first of 1 to 3 that applies
-- first_ranged     == 3 does not: the entries are in range
-- first_later      == none does, and what 4 and 21 answer is the call's answer
-- Assumes nothing.
use mathlib.Core.Path.{◌≡◌, refl, sym, ap, ◌∙◌}
use mathlib.Core.Bool.{Bool, true, false, not}
use mathlib.Core.List.{List}
use Prim.Native.Nat.{ℕ, suc, ◌*◌, ◌<◌, ◌≤◌}
use native.Mathlib.Omega.{arith}
use borrow.Author.Tests.{le-leb, lt-leb}
use lib.Dec.{leb}
use lib.ListN.{length, take}
use Rattle.count.specs.Below.{Decides}
use Rattle.answers.proofs.Steps.{stops_at, passes_all, by_numbers, goes_on}
use Rattle.answers.specs.Lent.{cleared}
use Rattle.drawing.specs.Drawing.{Drawing, borders, lent}
use Rattle.drawing.specs.Checks.{lengths_fit, entries_fit, distinct, connected}
use Rattle.format.specs.Pack.{work_left}
use Rattle.format.specs.Suggest.{marks_checks, marks_refusal, Suggests}
use Rattle.checking.specs.Lent.{Ranged, Differ, Turns}
use Rattle.checking.proofs.Decided.{passes, fails}
use Rattle.checking.proofs.Laws.{lengths_passed, turns_of, entries_is, distinct_is}
use Rattle.reaching.specs.Reaching.{FindsTree}
use Rattle.suggesting.specs.Later.{later_checks, later_refusal, SuggestsLater}

-- ---- 4 and 21
module _ (ts ms : List ℕ) (half : length ts ≡ 2 * length ms) (r : Bool) (d : Decides r (Differ ts)) where
  module _ (s : ℕ) where
    abbrev D : Drawing
    D = lent ts ms s

    pub later_4 : not r ≡ true → SuggestsLater (lent ts ms s) ms 4
    unfolding later_refusal
    later_4 h =
        let a : distinct D ≡ false = fails r (distinct D) (distinct_is ts ms s half r d) h in
        record { number = stops_at (later_checks D) 0 tt a; suggested = λ z. absurd (omega arith); unchanged = λ z. refl }

    differ : not r ≡ false → distinct D ≡ true
    differ h = passes r (distinct D) (distinct_is ts ms s half r d) h

    module _ (h : not r ≡ false) (q : Bool) (ns : List ℕ) (F : FindsTree (lent ts ms s) q ns) where
      pub later_21 : not q ≡ true → SuggestsLater (lent ts ms s) ns 21
      unfolding later_refusal
      later_21 g =
          let c : connected D ≡ false = fails q (connected D) F.tells g in
          record {
            number = stops_at (later_checks D) 1 (differ h, tt) c;
            suggested = λ z. absurd (omega arith);
            unchanged = λ z. F.unchanged (fails q q refl g);
          }

      pub later_none : not q ≡ false → SuggestsLater (lent ts ms s) ns 0
      unfolding later_refusal
      later_none g =
          let c : connected D ≡ true = passes q (connected D) F.tells g in
          record {
            number = passes_all (later_checks D) (differ h, (c, tt));
            suggested = λ z. F.suggested (passes q q refl g);
            unchanged = λ z. absurd (z refl);
          }

pub later_turns : (ts : List ℕ) → Ranged ts → (r : Bool) → Decides r (Differ ts) → not r ≡ false → Turns ts
later_turns ts R r d h = turns_of ts R (d.sound (passes r r refl h))

-- ---- 1 to 3
module _ (ts ms : List ℕ) (work : List ℕ) (r : Bool) (p : (s : ℕ) → r ≡ lengths_fit (lent ts ms s)) where
  module _ (s : ℕ) where
    abbrev E : Drawing
    E = lent ts ms s

    -- a refusal of 1 to 3
    early : (k : ℕ) → suc k ≡ marks_refusal E (length work) → work_left (suc k) (borders E) work ≡ work → Suggests E work work ms (suc k)
    early k e t =
        record { number = e; suggested = λ z. absurd (omega arith); unchanged = λ z. refl; working = sym t }

    pub first_1 : not r ≡ true → Suggests (lent ts ms s) work work ms 1
    unfolding marks_refusal
    first_1 h =
        let a : lengths_fit E ≡ false = fails r (lengths_fit E) (p s) h in
        early 0 (stops_at (marks_checks E (length work)) 0 tt a) refl

  module _ (h : not r ≡ false) where
    module _ (s : ℕ) where
      fit : lengths_fit (lent ts ms s) ≡ true
      fit = passes r (lengths_fit (lent ts ms s)) (p s) h

      pub first_2 : length work < 6 * length ms → Suggests (lent ts ms s) work work ms 2
      unfolding marks_refusal borders
      first_2 l =
          early s 1 (stops_at (marks_checks (lent ts ms s) (length work)) 1 (fit, tt) (lt-leb (6 * length ms) (length work) l)) refl

    module _ (l : 6 * length ms ≤ length work) (q : Bool) (d : Decides q (Ranged ts)) where
      module _ (s : ℕ) where
        enough : leb (6 * borders (lent ts ms s)) (length work) ≡ true
        unfolding borders
        enough = le-leb (6 * length ms) (length work) l

        range_is : q ≡ entries_fit (lent ts ms s)
        range_is = entries_is ts ms s (lengths_passed ts ms r p h s).half q d

        pub first_3 : not q ≡ true → Suggests (lent ts ms s) work work ms 3
        unfolding marks_refusal
        first_3 g =
            let a : entries_fit (lent ts ms s) ≡ false = fails q (entries_fit (lent ts ms s)) range_is g in
            early s 2 (stops_at (marks_checks (lent ts ms s) (length work)) 2 (fit s, (enough, tt)) a) refl

        pub first_later : not q ≡ false → (u v ns : List ℕ) (k : ℕ) → u ≡ cleared (6 * length ms) work → v ≡ u → SuggestsLater (lent ts ms s) ns k
            → Suggests (lent ts ms s) work v ns k
        unfolding marks_refusal later_refusal borders
        first_later g u v ns k e c X =
            let D : Drawing = lent ts ms s in
            let a : entries_fit D ≡ true = passes q (entries_fit D) range_is g in
            let n : marks_refusal D (length work) ≡ later_refusal D = goes_on (take 3 (marks_checks D (length work))) (later_checks D) (fit s, (enough, (a, tt))) in
            -- 4, 21 or none leaves zeros
            let left : work_left (later_refusal D) (length ms) work ≡ cleared (6 * length ms) work
            = by_numbers (λ j. work_left j (length ms) work ≡ cleared (6 * length ms) work) (later_checks D) (refl, (refl, refl)) in
            record {
              number = X.number ∙ sym n;
              suggested = X.suggested;
              unchanged = X.unchanged;
              working =
                  c
                  ∙ e
                  ∙ sym (ap (λ j. work_left j (length ms) work) X.number ∙ left);
            }

pub first_ranged : (ts : List ℕ) (q : Bool) → Decides q (Ranged ts) → not q ≡ false → Ranged ts
first_ranged ts q d g = d.sound (passes q q refl g)
