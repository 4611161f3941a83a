-- Sizes: what a count over the strings keeps from letter to letter, and what follows where it ends.
--
-- Counting          == the state of the count: the strings, the index into the family's string, and `Scan` of the word
-- counting_start, counting_opens, counting_closes, counting_neither == from one position to the next
-- counting_leaves, counting_end == what was found where it ends
-- counting_run, counting_is     == so a run from a first position to the end finds the size
-- counting_within   == its numbers fit a map
-- size_none, size_some   == the size of a number, from its first position
-- Assumes nothing.
use mathlib.Core.Path.{◌≡◌, refl, sym, ap, ◌∙◌}
use mathlib.Core.Logic.{◌≢◌, inl, inr}
use mathlib.Core.List.{List}
use Prim.Native.Nat.{ℕ, zero, suc, ◌+◌, ◌-◌, ◌<◌, ◌≤◌}
use native.Mathlib.Omega.{arith}
use borrow.Author.Tests.{eq-eqb, ne_eqb}
use lib.Dec.{eqb}
use Rattle.count.proofs.Logic.{same_or_not}
use Rattle.count.proofs.Below.{count_zero}
use Rattle.words.specs.Brackets.{closes, inner, number, first, size}
use Rattle.words.specs.declared.family.Family.{Family}
use Rattle.words.specs.Word.{seen}
use Rattle.bits.specs.Strings.{bit, is_bit, rank}
use Rattle.bits.specs.Letters.{family_bit}
use Rattle.bits.proofs.Laws.{rank_here, rank_other, rank_le}
use Rattle.format.specs.Bytes.{size_in, bits_a, part_a, part_b, word_in}
use Rattle.format.specs.Calls.{family_of_kind, places_in}
use Rattle.opening.specs.Cells.{kind_of, number_of_cell}
use Rattle.opening.specs.declared.cells.Cell.{Cell}
use Rattle.sizing.specs.Runs.{flat, run, Within}
use Rattle.sizing.proofs.Runs.{run_end, run_neither, run_opens, run_closes, run_leaves}
use Rattle.walking.specs.Positions.{Position, Numbered}
use Rattle.walking.proofs.Decoded.{places_most, seen_opens, seen_closes, seen_neither, nested}
use Rattle.sizing.proofs.Scan.{Scan, scan_start, scan_opens, scan_closes, scan_neither, scan_leaves, scan_end}
use Rattle.walking.proofs.Walks.{Firsts, first_holds}

-- ---- the scan
module _ (s : List ℕ) (K : Family) (f n : ℕ) (a b : List ℕ) where
  pub record Counting (j p d k : ℕ) : Type 0 where
    pub start : Position s f
    pub itself : inner (seen K (word_in s)) f ≡ f
    pub length : n ≡ bits_a (size_in s)
    pub few : n ≤ 4096
    pub has_a : a ≡ part_a s
    pub has_b : b ≡ part_b K s
    pub index : j ≡ rank (family_bit K) a p
    pub index_few : j ≤ p
    pub scan : Scan (seen K (word_in s)) (bits_a (size_in s)) f k d p

  counting_start : (j : ℕ) → Position s f → inner (seen K (word_in s)) f ≡ f → n ≡ bits_a (size_in s) → a ≡ part_a s → b ≡ part_b K s
      → j ≡ rank (family_bit K) a f → Counting j f 0 0
  counting_start j P e hn ha hb hj =
      record {
        start = P;
        itself = e;
        length = hn;
        few = omega (arith, places_most s P.opens);
        has_a = ha;
        has_b = hb;
        index = hj;
        index_few = omega (arith, rank_le (family_bit K) a f);
        scan = scan_start (seen K (word_in s)) (bits_a (size_in s)) f e (omega (arith, P.below));
      }

  module _ (j p d k : ℕ) (C : Counting j p d k) where
    again : (i q e g : ℕ) → i ≡ rank (family_bit K) a q → i ≤ q → Scan (seen K (word_in s)) (bits_a (size_in s)) f g e q → Counting i q e g
    again i q e g h l S =
        record {
          start = C.start;
          itself = C.itself;
          length = C.length;
          few = C.few;
          has_a = C.has_a;
          has_b = C.has_b;
          index = h;
          index_few = l;
          scan = S;
        }

    in_a : bit (part_a s) p ≡ bit a p
    in_a = ap (λ y. bit y p) (sym C.has_a)

    in_b : bit (part_b K s) (rank (family_bit K) (part_a s) p) ≡ bit b j
    in_b =
        let hj = C.index in
        let ha = C.has_a in
        let hb = C.has_b in cc

    module _ (l : p < n) where
      here : p < bits_a (size_in s)
      here = omega (arith, C.length)

      counting_neither : (bit a p ≡ family_bit K → ⊥) → Counting j (p + 1) d (k + flat d 1)
      counting_neither m =
          again j (p + 1) d (k + flat d 1) (omega (arith, C.index, rank_other (family_bit K) a p m)) (omega (arith, C.index_few))
          (scan_neither (seen K (word_in s)) (bits_a (size_in s)) f C.itself k d p (flat d 1) (k + flat d 1) C.scan here refl refl
          (seen_neither s K p (λ e. m (sym in_a ∙ e))))

      module _ (own : bit a p ≡ family_bit K) where
        more : j + 1 ≡ rank (family_bit K) a (p + 1)
        more = omega (arith, C.index, rank_here (family_bit K) a p own)

        counting_opens : bit b j ≡ 0 → Counting (j + 1) (p + 1) (d + 1) (k + flat d 1)
        counting_opens z =
            again (j + 1) (p + 1) (d + 1) (k + flat d 1) more (omega (arith, C.index_few))
            (scan_opens (seen K (word_in s)) (bits_a (size_in s)) f C.itself k d p (flat d 1) (k + flat d 1) (d + 1) C.scan here refl refl
            (seen_opens s K p (in_a ∙ own) (in_b ∙ z)) refl)

        closing : bit b j ≢ 0 → seen K (word_in s) p ≡ closes
        closing m = seen_closes s K p (in_a ∙ own) (λ z. m (sym in_b ∙ z))

        counting_closes : bit b j ≢ 0 → d ≢ 0 → Counting (j + 1) (p + 1) (d - 1) (k + flat d 1)
        counting_closes m h =
            again (j + 1) (p + 1) (d - 1) (k + flat d 1) more (omega (arith, C.index_few))
            (scan_closes (seen K (word_in s)) (bits_a (size_in s)) f C.itself (nested s K C.start.opens) k d p (flat d 1) (k + flat d 1) (d - 1)
            C.scan here refl refl (closing m) h refl)

        counting_leaves : bit b j ≢ 0 → d ≡ 0 → k + flat d 1 ≡ size (seen K (word_in s)) (bits_a (size_in s)) (number (seen K (word_in s)) f)
        counting_leaves m z =
            scan_leaves (seen K (word_in s)) (bits_a (size_in s)) f C.itself (nested s K C.start.opens) k d p (flat d 1) (k + flat d 1) C.scan
            here refl refl (closing m) z

    counting_end : n ≤ p → k ≡ size (seen K (word_in s)) (bits_a (size_in s)) (number (seen K (word_in s)) f)
    counting_end l = scan_end (seen K (word_in s)) (bits_a (size_in s)) f C.itself k d p C.scan (omega (arith, C.length))

  -- all letters from p on
  counting_run : (w j p d k : ℕ) → Counting j p d k → p + w ≡ n
      → (run (is_bit (family_bit K) a) (is_bit 0 b) w p j d k).found ≡ size (seen K (word_in s)) (bits_a (size_in s)) (number (seen K (word_in s)) f)
  counting_run zero j p d k C e = rw (run_end (is_bit (family_bit K) a) (is_bit 0 b) p j d k) (counting_end j p d k C (omega arith))
  counting_run (suc w) j p d k C e =
      elim (same_or_not (bit a p) (family_bit K)) [
        | inl o ↦
            elim (same_or_not (bit b j) 0) [
              | inl z ↦
                  rw (run_opens (is_bit (family_bit K) a) (is_bit 0 b) w p j d k (eq-eqb (bit a p) (family_bit K) o) (eq-eqb (bit b j) 0 z))
                  (counting_run w (j + 1) (p + 1) (d + 1) (k + flat d 1) (counting_opens j p d k C (omega arith) o z) (omega arith))
              | inr m ↦
                  elim (same_or_not d 0) [
                    | inl z ↦
                        rw (run_leaves (is_bit (family_bit K) a) (is_bit 0 b) w p j d k (eq-eqb (bit a p) (family_bit K) o) (ne_eqb (bit b j) 0 m) z)
                        (counting_leaves j p d k C (omega arith) o m z)
                    | inr h ↦
                        rw (run_closes (is_bit (family_bit K) a) (is_bit 0 b) w p j d k (eq-eqb (bit a p) (family_bit K) o) (ne_eqb (bit b j) 0 m) h)
                        (counting_run w (j + 1) (p + 1) (d - 1) (k + flat d 1) (counting_closes j p d k C (omega arith) o m h) (omega arith))
                  ]
            ]
        | inr m ↦
            rw (run_neither (is_bit (family_bit K) a) (is_bit 0 b) w p j d k (ne_eqb (bit a p) (family_bit K) m))
            (counting_run w j (p + 1) d (k + flat d 1) (counting_neither j p d k C (omega arith) m) (omega arith))
      ]

  pub counting_is : (v j r : ℕ) → v ≡ family_bit K → Position s f → inner (seen K (word_in s)) f ≡ f → n ≡ bits_a (size_in s) → a ≡ part_a s → b ≡ part_b K s
      → j ≡ rank v a f → r ≡ (run (is_bit v a) (is_bit 0 b) (n - f) f j 0 0).found
      → r ≡ size (seen K (word_in s)) (bits_a (size_in s)) (number (seen K (word_in s)) f)
  counting_is v j r hv P e hn ha hb hj h =
      let i : j ≡ rank (family_bit K) a f = hj ∙ ap (λ x. rank x a f) hv in
      h ∙ ap (λ x. (run (is_bit x a) (is_bit 0 b) (n - f) f j 0 0).found) hv
      ∙ counting_run (n - f) j f 0 0 (counting_start j P e hn ha hb i) (omega (arith, P.below))

pub counting_within : (s : List ℕ) (v f n j : ℕ) → v < 2 → Position s f → n ≡ bits_a (size_in s) → j ≤ f → Within v n f j
counting_within s v f n j l P e h =
    record { family = l; from = omega (arith, P.below); few = omega (arith, places_most s P.opens); index_few = h }

-- ---- the size of a number, from its first position
module _ (s : List ℕ) (c : Cell) (n : ℕ) (hn : n ≡ bits_a (size_in s)) where
  pub size_none : n ≡ 0 → 0 ≡ places_in (word_in s) (kind_of c) (number_of_cell c)
  unfolding places_in size word_in
  size_none z =
      let b = seen (family_of_kind (kind_of c)) (word_in s) in
      sym (ap (λ x. size b x (number_of_cell c)) (sym hn ∙ z) ∙ count_zero (λ p. eqb (number b p) (number_of_cell c)))

  module _ (K : Family) (f : ℕ) (N : Numbered s c) (m : n ≡ 0 → ⊥) (h_k : K ≡ family_of_kind (kind_of c))
      (e : f ≡ first (seen (family_of_kind (kind_of c)) (word_in s)) (bits_a (size_in s)) (number_of_cell c)) where
    holds : Firsts s K (number_of_cell c) f
    holds = rw (h_k, e) (first_holds s c N (omega arith))

    pub first_itself : inner (seen K (word_in s)) f ≡ f
    first_itself = holds.itself

    pub size_some : (r : ℕ) → r ≡ size (seen K (word_in s)) (bits_a (size_in s)) (number (seen K (word_in s)) f)
        → r ≡ places_in (word_in s) (kind_of c) (number_of_cell c)
    unfolding places_in word_in
    size_some r h =
        h ∙ ap (size (seen K (word_in s)) (bits_a (size_in s))) holds.number
        ∙ ap (λ X. size (seen X (word_in s)) (bits_a (size_in s)) (number_of_cell c)) h_k
