-- The order of the checks: the first of 1 to 3 that applies, and packing's answer.
--
-- early            == a return by one of checks 1 to 3
-- pack_1, pack_long, pack_short, pack_3 == the first of 1 to 3 that applies
-- pack_range       == check 3 passed
-- pack_done        == their answer is packing's
-- Assumes nothing.
use mathlib.Core.Path.{◌≡◌, refl, sym, ap, ap₂, ◌∙◌}
use mathlib.Core.Bool.{Bool, true, false, not}
use mathlib.Core.List.{List, []}
use Prim.Native.Nat.{ℕ, suc, ◌*◌, ◌<◌, ◌≤◌}
use native.Mathlib.Omega.{arith}
use borrow.Author.Tests.{le-leb, lt-leb, lt-ltb}
use lib.ListN.{length, take}
use Rattle.answers.specs.Answer.{Answer, answer, refused_with, refused, told}
use Rattle.answers.specs.Checks.{Check, check_at}
use Rattle.answers.proofs.Steps.{Passed, stops_at, refuses_at, by_numbers, goes_on, goes_on_with}
use Rattle.answers.specs.Lent.{cleared, laid, leaves}
use Rattle.drawing.specs.Drawing.{Drawing, borders, lent}
use Rattle.drawing.specs.Checks.{InRange, lengths_fit, in_range}
use Rattle.drawing.proofs.Checks.{range_decides}
use Rattle.format.specs.Bytes.{longest}
use Rattle.format.specs.Pack.{packed_bytes, room_fits, pack_checks, pack_refusal, pack_of, work_left}
use Rattle.format.specs.Packs.{Packs}
use Rattle.lending.specs.Lists.{Kept}
use Rattle.lending.proofs.Kept.{cleared_again}
use Rattle.checking.proofs.Decided.{passes, fails}
use Rattle.packing.specs.Later.{later_checks, later_of, PacksLater}

-- an early return, by check i: one of 1 to 3
early : (D : Drawing) (work out : List ℕ) (i k : ℕ) → let cs : List Check = pack_checks D (length work) (length out) in
    Passed cs i → (check_at cs i).test ≡ false → (check_at cs i).number ≡ suc k → (check_at cs i).carries ≡ [] → k < 3
    → Packs D work work out out (refused (suc k))
unfolding pack_refusal pack_of leaves
early D work out i k p f n c l =
    let cs : List Check = pack_checks D (length work) (length out) in
    let e : pack_refusal D (length work) (length out) ≡ suc k = sym (stops_at cs i p f) ∙ n in
    let a : pack_of D (length work) (length out) ≡ refused (suc k) = sym (refuses_at cs (answer (packed_bytes D)) i p f) ∙ ap₂ refused_with n c in
    let t : work_left (suc k) (borders D) work ≡ work
    = rw (lt-ltb 0 (suc k) (omega arith), le-leb (suc k) 3 (omega arith)) in
    record {
      answers = sym (ap (told length) a);
      leaves = record { working = sym (ap (λ j. work_left j (borders D) work) e ∙ t); output = sym (ap (λ x. leaves laid x out) a) };
    }

pub pack_range : (ts ms : List ℕ) (s : ℕ) (q : Bool) → q ≡ in_range (lent ts ms s) → not q ≡ false → InRange (lent ts ms s)
pack_range ts ms s q g b = (range_decides (lent ts ms s)).sound (passes q (in_range (lent ts ms s)) g b)

module _ (ts ms : List ℕ) (s : ℕ) (old work : List ℕ) where
  abbrev E : Drawing
  E = lent ts ms s

  module _ (r : Bool) (p : (s : ℕ) → r ≡ lengths_fit (lent ts ms s)) where
    pub pack_1 : not r ≡ true → Packs (lent ts ms s) work work old old (refused 1)
    pack_1 h = early E work old 0 0 tt (fails r (lengths_fit E) (p s) h) refl refl (omega arith)

    module _ (h : not r ≡ false) where
      fit : lengths_fit E ≡ true
      fit = passes r (lengths_fit E) (p s) h

      pub pack_long : length work < 6 * length ms → Packs (lent ts ms s) work work old old (refused 2)
      unfolding borders
      pack_long l = early E work old 1 1 (fit, tt) (rw (lt-leb (6 * length ms) (length work) l)) refl refl (omega arith)

      module _ (l : 6 * length ms ≤ length work) where
        pub pack_short : length old < longest → Packs (lent ts ms s) work work old old (refused 2)
        unfolding borders
        pack_short k =
            early E work old 1 1 (fit, tt) (rw (le-leb (6 * length ms) (length work) l, lt-leb longest (length old) k)) refl refl (omega arith)

        module _ (k : longest ≤ length old) (q : Bool) (g : q ≡ in_range (lent ts ms s)) where
          room : room_fits E (length work) (length old) ≡ true
          unfolding borders
          room = rw (le-leb (6 * length ms) (length work) l, le-leb longest (length old) k)

          pub pack_3 : not q ≡ true → Packs (lent ts ms s) work work old old (refused 3)
          pack_3 b = early E work old 2 2 (fit, (room, tt)) (fails q (in_range E) g b) refl refl (omega arith)

          module _ (b : not q ≡ false) where
            pub pack_done : (u v x : List ℕ) → u ≡ cleared (6 * length ms) work → Kept (6 * length ms) u v → x ≡ cleared (6 * length ms) v
                → (a : Answer ℕ) (new : List ℕ) → PacksLater (lent ts ms s) a old new → Packs (lent ts ms s) work x old new a
            unfolding borders pack_refusal later_of pack_of
            pack_done u v x e K f a new P =
                let first : List Check = take 3 (pack_checks E (length work) (length old)) in
                let p : Passed first 3 = (fit, (room, (passes q (in_range E) g b, tt))) in
                let same : pack_of E (length work) (length old) ≡ later_of E = goes_on_with first (later_checks E) (answer (packed_bytes E)) p in
                -- a number of 4 to 7, or none, leaves zeros
                let left : work_left (pack_refusal E (length work) (length old)) (length ms) work ≡ cleared (6 * length ms) work
                = rw (goes_on first (later_checks E) p)
                (by_numbers (λ j. work_left j (length ms) work ≡ cleared (6 * length ms) work) (later_checks E) (refl, (refl, (refl, (refl, refl))))) in
                record {
                  answers = P.answers ∙ sym (ap (told length) same);
                  leaves =
                      record {
                        working = f ∙ cleared_again (6 * length ms) work v (rw e at K) ∙ sym left;
                        output = P.output ∙ sym (ap (λ y. leaves laid y old) same);
                      };
                }
