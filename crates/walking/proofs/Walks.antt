-- What the functions on the word compute, from what the strings' functions promise.
--
-- family_round, family_square == the family of a letter, by its bit in A
-- mate_own, mate_own_at, mate_other == the partner of a position of the family, and of one of the other family
-- cross_is, mate_crossed      == the crossing is the partner in the position's own family
-- after_next, after_last, after_below, after_few == the position after one, and what is asked for it
-- sum_mate                    == the partner in a family, by a sum of the crossing and the position itself
-- step_is, step_position      == the step is the position after the partner
-- position                    == what opens and is below the number of places
-- before_first, before_other  == the position before one
-- back_is                     == the step back is the partner of the position before
-- number_is_rank              == the number
-- Firsts                      == what holds of the first position of a number
-- first_holds, first_one, first_more == it holds of `first`, which is 0 for number 1, else after the opening that reaches it
-- first_at                == it is a position
-- Assumes nothing.
use mathlib.Core.Path.{◌≡◌, refl, sym, ap, ◌∙◌}
use mathlib.Core.Logic.{inl, inr}
use mathlib.Core.List.{List}
use Prim.Native.Nat.{ℕ, ◌+◌, ◌-◌, ◌*◌, ◌%◌, ◌<◌, ◌≤◌}
use native.Mathlib.Omega.{arith}
use borrow.Author.Tests.{eq-eqb, ne_eqb}
use lib.Dec.{eqb}
use Rattle.count.proofs.Logic.{same_or_not, pick_yes, pick_no}
use Rattle.words.specs.Brackets.{inner, mate, next, previous, step, back, number, first}
use Rattle.words.specs.declared.family.Family.{Family}
use Rattle.words.specs.declared.family.Family.TheVariants.{Round as round, Square as square}
use Rattle.words.specs.Word.{seen, mate_in}
use Rattle.words.proofs.Stack.{inner_le, inner_inner}
use Rattle.words.proofs.Mate.{mate_below, mate_neither}
use Rattle.words.proofs.Step.{next_plain, next_last, previous_plain, previous_zero}
use Rattle.words.proofs.Numbers.{first_zero, first_inner, number_reached, inner_number}
use Rattle.bits.specs.Strings.{bit, rank, select, brackets}
use Rattle.bits.specs.Letters.{family_bit}
use Rattle.format.specs.Bytes.{size_in, bits_a, bits_b, part_a, part_b, word_in}
use Rattle.format.specs.Open.{open_refusal}
use Rattle.format.specs.Calls.{family_of_kind}
use Rattle.opening.specs.Cells.{kind_of, number_of_cell}
use Rattle.opening.specs.declared.cells.Cell.{Cell}
use Rattle.walking.specs.Positions.{Position, Numbered}
use Rattle.walking.proofs.Decoded.{places_most, seen_neither, nested, mate_ranks, number_ranks, first_ranks}
use Rattle.format.proofs.Openings.{openings_ranks, cells_openings}

module _ (s : List ℕ) (p : ℕ) (a : List ℕ) (x : ℕ) (ha : a ≡ part_a s) (hx : x ≡ bit a p) where
  bit_is : bit (part_a s) p ≡ x
  bit_is = sym (hx ∙ ap (λ y. bit y p) ha)

  pub family_round : x ≡ 1 → round ≡ ((word_in s).letter p).family
  unfolding word_in
  family_round e = sym (pick_yes (eqb (bit (part_a s) p) 1) round square (eq-eqb (bit (part_a s) p) 1 (bit_is ∙ e)))

  pub family_square : (x ≡ 1 → ⊥) → square ≡ ((word_in s).letter p).family
  unfolding word_in
  family_square m = sym (pick_no (eqb (bit (part_a s) p) 1) round square (ne_eqb (bit (part_a s) p) 1 (λ e. m (sym bit_is ∙ e))))

pub position : (s : List ℕ) (r : ℕ) → open_refusal s ≡ 0 → r < bits_a (size_in s) → Position s r
position s r o l = record { opens = o; below = l; few = omega (arith, places_most s o) }

-- ---- the position after one
module _ (n q : ℕ) where
  pub after_next : q + 1 < n → q + 1 ≡ next n q
  after_next h = sym (next_plain n q (omega arith))

  pub after_last : q < n → n ≤ q + 1 → 0 ≡ next n q
  after_last l h = sym (next_last n q (omega arith))

  pub after_below : (s : List ℕ) → Position s q → n ≡ bits_a (size_in s) → q < n
  after_below s P e = omega (arith, P.below)

pub after_few : (s : List ℕ) (n q : ℕ) → Position s q → n ≡ bits_a (size_in s) → n ≤ 4096
after_few s n q P e = omega (arith, places_most s P.opens)

-- ---- the position before one
module _ (n p : ℕ) where
  pub before_first : p ≡ 0 → n - 1 ≡ previous n p
  before_first e = omega (arith, previous_zero n) ∙ ap (previous n) (sym e)

  pub before_other : (p ≡ 0 → ⊥) → p - 1 ≡ previous n p
  before_other m =
      let e : p - 1 + 1 ≡ p = omega arith in
      sym (previous_plain n (p - 1)) ∙ ap (previous n) e

module _ (s : List ℕ) (K : Family) (p : ℕ) (P : Position s p) where
  mate_at : (r : ℕ) → r ≡ mate (seen K (word_in s)) (bits_a (size_in s)) p → Position s r
  mate_at r e =
      let l = mate_below (seen K (word_in s)) (bits_a (size_in s)) (nested s K P.opens) p P.below in
      position s r P.opens (omega arith)

  module _ (a b : List ℕ) (v x k j q n r : ℕ) (hv : v ≡ family_bit K) (ha : a ≡ part_a s) (hb : b ≡ part_b K s) (hx : x ≡ bit a p) (e : x ≡ v)
      (hk : k ≡ bits_b K (size_in s)) (hj : j ≡ rank v a p) (hq : q ≡ mate (brackets b) k j) (hn : n ≡ bits_a (size_in s)) (hr : r ≡ select v a n q)
    where
      pub mate_own : r ≡ mate (seen K (word_in s)) (bits_a (size_in s)) p
      mate_own =
          let f : r ≡ select (family_bit K) (part_a s) (bits_a (size_in s)) (mate (brackets (part_b K s)) (bits_b K (size_in s)) (rank (family_bit K) (part_a s) p)) = cc in
          let g : bit (part_a s) p ≡ family_bit K = cc in
          f ∙ sym (mate_ranks s K P.opens p P.below g)

      pub mate_own_at : Position s r
      mate_own_at = mate_at r mate_own

  pub mate_other : (a : List ℕ) (v x : ℕ) → v ≡ family_bit K → a ≡ part_a s → x ≡ bit a p → (x ≡ v → ⊥)
      → p ≡ mate (seen K (word_in s)) (bits_a (size_in s)) p
  mate_other a v x hv ha hx m =
      sym (mate_neither (seen K (word_in s)) (bits_a (size_in s)) p
      (seen_neither s K p (λ e. m (sym (bit_is s p a x ha hx) ∙ e ∙ sym hv))))

  pub step_is : (q n r : ℕ) → q ≡ mate (seen K (word_in s)) (bits_a (size_in s)) p → n ≡ bits_a (size_in s) → r ≡ next n q
      → r ≡ step (seen K (word_in s)) (bits_a (size_in s)) p
  unfolding step
  step_is q n r e f h = h ∙ ap (λ k. next k q) f ∙ ap (next (bits_a (size_in s))) e

  pub step_position : (n r : ℕ) → n ≡ bits_a (size_in s) → r < n → Position s r
  step_position n r e l = position s r P.opens (omega arith)

  pub back_is : (q n r : ℕ) → n ≡ bits_a (size_in s) → q ≡ previous n p → r ≡ mate (seen K (word_in s)) (bits_a (size_in s)) q
      → r ≡ back (seen K (word_in s)) (bits_a (size_in s)) p
  unfolding back
  back_is q n r f e h = h ∙ ap (mate (seen K (word_in s)) (bits_a (size_in s))) (e ∙ ap (λ k. previous k p) f)

  pub number_is_rank : (a b : List ℕ) (v j i r : ℕ) → v ≡ family_bit K → a ≡ part_a s → b ≡ part_b K s → j ≡ rank v a p
      → i ≡ inner (brackets b) j → r ≡ rank 0 b i → r + 1 ≡ number (seen K (word_in s)) p
  number_is_rank a b v j i r hv ha hb hj hi hr =
      let f : r ≡ rank 0 (part_b K s) (inner (brackets (part_b K s)) (rank (family_bit K) (part_a s) p)) = cc in
      ap (λ x. x + 1) f ∙ sym (number_ranks s K P.opens p (omega (arith, P.below)))

pub cross_is : (s : List ℕ) (K : Family) (p r : ℕ) → K ≡ ((word_in s).letter p).family → r ≡ mate (seen K (word_in s)) (bits_a (size_in s)) p
    → r ≡ mate_in (word_in s) p
unfolding mate_in word_in
cross_is s K p r e h = h ∙ ap (λ X. mate (seen X (word_in s)) (bits_a (size_in s)) p) e

-- the family of a letter whose bit is the family's
own_family : (s : List ℕ) (K : Family) (p x : ℕ) → x ≡ bit (part_a s) p → x ≡ family_bit K → K ≡ ((word_in s).letter p).family
own_family s round p x h e = family_round s p (part_a s) x refl h e
own_family s square p x h e = family_square s p (part_a s) x refl h (λ y. omega arith)

pub mate_crossed : (s : List ℕ) (K : Family) (p : ℕ) (a : List ℕ) (v x r : ℕ) → a ≡ part_a s → x ≡ bit a p → v ≡ family_bit K → x ≡ v
    → r ≡ mate_in (word_in s) p → r ≡ mate (seen K (word_in s)) (bits_a (size_in s)) p
unfolding mate_in word_in
mate_crossed s K p a v x r ha hx hv e h =
    let f : K ≡ ((word_in s).letter p).family = own_family s K p x (hx ∙ ap (λ y. bit y p) ha) (e ∙ hv) in
    h ∙ sym (ap (λ X. mate (seen X (word_in s)) (bits_a (size_in s)) p) f)

-- ---- the partner by a sum: o is 0 where the letter is of the family, else 1
module _ (o p q : ℕ) where
  sum_own : o ≡ 0 → ((1 - o) * q ≡ q) × (o * p ≡ 0)
  sum_own z = (ap (λ y. (1 - y) * q) z ∙ omega arith, ap (λ y. y * p) z ∙ omega arith)

  sum_other : o ≡ 1 → ((1 - o) * q ≡ 0) × (o * p ≡ p)
  sum_other z = (ap (λ y. (1 - y) * q) z ∙ omega arith, ap (λ y. y * p) z ∙ omega arith)

module _ (s : List ℕ) (p q : ℕ) (P : Position s p) (Q : Position s q) (v x : ℕ) (lv : v < 2) (lx : x < 2) where
  abbrev o : ℕ
  o = (x + v) % 2

  module _ (K : Family) (C : q ≡ mate_in (word_in s) p) (a : List ℕ) (hv : v ≡ family_bit K) (ha : a ≡ part_a s) (hx : x ≡ bit a p) where
    pub sum_mate : (1 - (x + v) % 2) * q + (x + v) % 2 * p ≡ mate (seen K (word_in s)) (bits_a (size_in s)) p
    sum_mate =
        elim (same_or_not x v) [
          | inl e ↦
              let z = sum_own o p q (omega arith) in
              let r : (1 - o) * q + o * p ≡ q = omega (arith, z.0, z.1) in
              r ∙ mate_crossed s K p a v x q ha hx hv e C
          | inr d ↦
              let z = sum_other o p q (omega arith) in
              let r : (1 - o) * q + o * p ≡ p = omega (arith, z.0, z.1) in
              r ∙ mate_other s K p P a v x hv ha hx d
        ]

-- ---- the first position of a number
pub record Firsts (s : List ℕ) (K : Family) (k f : ℕ) : Type 0 where
  pub below : f < bits_a (size_in s)
  pub itself : inner (seen K (word_in s)) f ≡ f
  pub number : number (seen K (word_in s)) f ≡ k

module _ (s : List ℕ) (c : Cell) (N : Numbered s c) (z : 0 < bits_a (size_in s)) where
  abbrev family : Family
  family = family_of_kind (kind_of c)

  abbrev found : ℕ
  found = first (seen (family_of_kind (kind_of c)) (word_in s)) (bits_a (size_in s)) (number_of_cell c)

  pub first_holds : Firsts s family (number_of_cell c) found
  first_holds =
      let b = seen family (word_in s) in
      let n = bits_a (size_in s) in
      let k = number_of_cell c in
      let bal = nested s family N.opens in
      let t = number_reached b n bal z k N.least
      (omega (arith, N.most, cells_openings s (kind_of c) N.opens, openings_ranks s family N.opens)) in
      let p = t.0 in
      let f : inner b p ≡ first b n k = sym (first_inner b n p t.1) ∙ ap (first b n) t.2 in
      let e : number b (inner b p) ≡ k = inner_number b (inner b p) p (inner_inner b p) ∙ t.2 in
      rw (← f)
      (record {
        below = omega (arith, t.1, inner_le b p);
        itself = inner_inner b p;
        number = e;
      })

  pub first_at : (r : ℕ) → r ≡ found → Position s r
  first_at r e = position s r N.opens (omega (arith, first_holds.below))

  pub first_one : (k : ℕ) → k ≡ number_of_cell c → k ≡ 1 → 0 ≡ found
  first_one k h e =
      let b = seen family (word_in s) in
      let n = bits_a (size_in s) in
      sym (ap (first b n) (sym h ∙ e) ∙ first_zero b n (nested s family N.opens) z)

  pub first_more : (K : Family) (a b : List ℕ) (v k m j n r : ℕ) → K ≡ family → k ≡ number_of_cell c → (k ≡ 1 → ⊥) → v ≡ family_bit K
      → a ≡ part_a s → b ≡ part_b K s → m ≡ bits_b K (size_in s) → j ≡ select 0 b m (k - 2) → n ≡ bits_a (size_in s) → r ≡ select v a n j
      → r + 1 ≡ found
  first_more K a b v k m j n r h_k hk h hv ha hb hm hj hn hr =
      let F = family in
      let x = number_of_cell c in
      let f : r ≡ select (family_bit F) (part_a s) (bits_a (size_in s)) (select 0 (part_b F s) (bits_b F (size_in s)) (x - 2)) = cc in
      let i : x - 2 + 2 ≡ x = omega (arith, N.least) in
      ap (λ y. y + 1) f
      ∙ sym (first_ranks s F N.opens (x - 2) (omega (arith, N.least, N.most, cells_openings s (kind_of c) N.opens)))
      ∙ ap (first (seen F (word_in s)) (bits_a (size_in s))) i
