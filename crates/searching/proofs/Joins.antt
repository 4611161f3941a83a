-- The joining border: what the search about a point keeps from turn to turn, and what follows where it ends.
--
-- left_at         == how many places of a point are left from a position on
-- Joining         == the search from here answers what the whole search answers
-- joining_start, joining_on == from one place to the next in turning order
-- joining_here    == the place where the crossing lands at v
-- joining_back    == 0 after the point's last place
-- joining_more    == None is answered where more are left than are looked at
-- join_empty, join_start, join_full == the search about u, from its first position
-- Assumes nothing.
use mathlib.Core.Path.{◌≡◌, refl, sym, ap, ◌∙◌}
use mathlib.Core.Bool.{Bool, true, false}
use mathlib.Core.List.{List}
use Prim.Native.Nat.{ℕ, zero, suc, ◌+◌, ◌-◌, ◌<◌, ◌≤◌}
use native.Mathlib.Omega.{arith}
use borrow.Author.Tests.{eq-eqb, ne_eqb}
use Rattle.std.specs.declared.option.Option.TheVariants.{None, Some}
use Rattle.std.proofs.lemmas.Option.{none-some, same_Some}
use lib.Dec.{eqb}
use Rattle.count.specs.Below.{count}
use Rattle.count.proofs.Counts.{count_yes, count_no, count_none, count_before}
use Rattle.answers.specs.declared.numbers.Point.{Point}
use Rattle.answers.specs.Answer.{Kind}
use Rattle.words.specs.Brackets.{Bracket, Balanced, inner, number, step, first, size}
use Rattle.words.specs.declared.family.Family.TheVariants.{Round as round}
use Rattle.words.specs.Word.{seen, Word, mate_in}
use Rattle.words.proofs.Stack.{inner_le}
use Rattle.words.proofs.Step.{step_below, inner_step}
use Rattle.words.proofs.Numbers.{inner_number, number_inner}
use Rattle.words.proofs.Order.{walk_rises, walk_returns}
use Rattle.format.specs.Bytes.{size_in, bits_a, word_in}
use Rattle.format.specs.Calls.{join_in, places_in}
use Rattle.opening.specs.declared.cells.Cell.{Cell}
use Rattle.sizing.proofs.Counting.{size_none, first_itself, size_some}
use Rattle.surveying.specs.Surveyed.{Early}
use Rattle.searching.specs.Joined.{joined_in, joined_from, Start}
use Rattle.walking.specs.Positions.{Position, Numbered}
use Rattle.walking.proofs.Decoded.{nested, places_most}

-- ---- how many places are left
count_gap : (P : ℕ → Bool) (i k : ℕ) → ((x : ℕ) → i ≤ x → x < i + k → P x ≡ false) → count P (i + k) ≡ count P i
count_gap P i zero none = ap (count P) (omega arith)
count_gap P i (suc k) none =
    let e : i + suc k ≡ i + k + 1 = omega arith in
    ap (count P) e ∙ count_no P (i + k) (none (i + k) (omega arith) (omega arith)) ∙ count_gap P i k (λ x l m. none x l (omega arith))

count_next : (P : ℕ → Bool) (p r : ℕ) → P p ≡ true → p < r → ((x : ℕ) → p < x → x < r → P x ≡ false) → count P r ≡ count P p + 1
count_next P p r h l none =
    let e : r ≡ p + 1 + (r - (p + 1)) = omega arith in
    ap (count P) e ∙ count_gap P (p + 1) (r - (p + 1)) (λ x i j. none x (omega arith) (omega arith)) ∙ count_yes P p h

module _ (b : ℕ → Bracket) (n f : ℕ) where
  about : ℕ → Bool
  about q = eqb (number b q) (number b f)

  about_yes : (q : ℕ) → inner b q ≡ inner b f → about q ≡ true
  unfolding about
  about_yes q e = eq-eqb (number b q) (number b f) (inner_number b q f e)

  about_no : (q : ℕ) → (inner b q ≡ inner b f → ⊥) → about q ≡ false
  unfolding about
  about_no q m = ne_eqb (number b q) (number b f) (λ e. m (number_inner b q f e))

  pub left_at : ℕ → ℕ
  left_at p = count about n - count about p

  left_start : inner b f ≡ f → left_at f ≡ size b n (number b f)
  unfolding size left_at about
  left_start i =
      let z = count_none about f (λ x l. about_no x (λ e. omega (arith, inner_le b x))) in
      omega arith

  module _ (bal : Balanced b n) (p : ℕ) (l : p < n) (o : inner b p ≡ inner b f) where
    left_some : left_at p ≡ suc (left_at p - 1)
    unfolding left_at
    left_some = omega (arith, count_before about p n l (about_yes p o))

    left_next : p < step b n p → left_at p ≡ suc (left_at (step b n p))
    unfolding left_at
    left_next h =
        let t = count_next about p (step b n p) (about_yes p o) h (λ x i j. about_no x (λ e. walk_rises b n bal p l x h i j (e ∙ sym o))) in
        let k = step_below b n bal p l in
        let y = count_before about (step b n p) n k (about_yes (step b n p) (inner_step b n bal p l ∙ o)) in
        omega arith

    left_last : step b n p ≤ p → left_at p ≡ 1
    unfolding left_at
    left_last h =
        let t = count_next about p n (about_yes p o) l (λ x i j. about_no x (λ e. (walk_returns b n bal p l h).1 x i j (e ∙ sym o))) in
        omega arith

-- ---- the search from a place on
module _ (w : Word) (v : ℕ) where
  join_zero : (p : ℕ) → join_in w v 0 p ≡ 0
  unfolding join_in
  join_zero p = refl

  join_yes : (k p : ℕ) → eqb (number (seen round w) (mate_in w p)) v ≡ true → join_in w v (suc k) p ≡ suc p
  unfolding join_in
  join_yes k p e = rw (e, join_in)

  join_no : (k p : ℕ) → eqb (number (seen round w) (mate_in w p)) v ≡ false → join_in w v (suc k) p ≡ join_in w v k (step (seen round w) w.size p)
  unfolding join_in
  join_no k p e = rw (e, join_in)

module _ (s : List ℕ) (v f most : ℕ) where
  -- how many places there are from p on
  pub rest_at : ℕ → ℕ
  rest_at p = left_at (seen round (word_in s)) (bits_a (size_in s)) f p

  pub record Joining (p left : ℕ) : Type 0 where
    pub at : Position s p
    pub of : inner (seen round (word_in s)) p ≡ inner (seen round (word_in s)) f
    pub rest : join_in (word_in s) v (rest_at p) p ≡ joined_from s v f
    pub room : bits_a (size_in s) ≤ most → bits_a (size_in s) ≤ p + left

  pub joining_start : Start s f → Joining f most
  unfolding rest_at
  joining_start S =
      record {
        at = S.at;
        of = refl;
        rest = ap (λ k. join_in (word_in s) v k f) (left_start (seen round (word_in s)) (bits_a (size_in s)) f S.itself);
        room = λ h. omega arith;
      }

  module _ (p left : ℕ) (J : Joining p left) where
    pub joining_more : left ≡ 0 → Early (bits_a (size_in s)) most (joined_from s v f) None
    joining_more z =
        record { is = λ y h. absurd (none-some y h); enough = λ h. absurd (omega (arith, J.room h, J.at.below)) }

    lands : (q x : ℕ) → q ≡ mate_in (word_in s) p → x ≡ number (seen round (word_in s)) q → number (seen round (word_in s)) (mate_in (word_in s) p) ≡ x
    lands q x C e = ap (number (seen round (word_in s))) (sym C) ∙ sym e

    some : rest_at p ≡ suc (rest_at p - 1)
    unfolding rest_at
    some = left_some (seen round (word_in s)) (bits_a (size_in s)) f (nested s round J.at.opens) p J.at.below J.of

    pub joining_here : (q x : ℕ) → q ≡ mate_in (word_in s) p → x ≡ number (seen round (word_in s)) q → x ≡ v → Early (bits_a (size_in s)) most (joined_from s v f) (Some (p + 1))
    joining_here q x C e h =
        let t = eq-eqb (number (seen round (word_in s)) (mate_in (word_in s) p)) v (lands q x C e ∙ h) in
        let z : join_in (word_in s) v (rest_at p) p ≡ suc p = ap (λ y. join_in (word_in s) v y p) some ∙ join_yes (word_in s) v (rest_at p - 1) p t in
        record { is = λ y l. omega (arith, J.rest, same_Some _ _ l); enough = λ l. refl }

    module _ (q x r : ℕ) (C : q ≡ mate_in (word_in s) p) (e : x ≡ number (seen round (word_in s)) q) (m : x ≡ v → ⊥)
        (h : r ≡ step (seen round (word_in s)) (bits_a (size_in s)) p) where
      on : (k : ℕ) → rest_at p ≡ suc k → join_in (word_in s) v k (step (seen round (word_in s)) (bits_a (size_in s)) p) ≡ joined_from s v f
      unfolding word_in
      on k i =
          let o = ne_eqb (number (seen round (word_in s)) (mate_in (word_in s) p)) v (λ y. m (sym (lands q x C e) ∙ y)) in
          sym (ap (λ y. join_in (word_in s) v y p) i ∙ join_no (word_in s) v k p o) ∙ J.rest

      last : step (seen round (word_in s)) (bits_a (size_in s)) p ≤ p → Early (bits_a (size_in s)) most (joined_from s v f) (Some 0)
      unfolding rest_at
      last z =
          let i = left_last (seen round (word_in s)) (bits_a (size_in s)) f (nested s round J.at.opens) p J.at.below J.of z in
          record { is = λ y l. sym (same_Some _ _ l) ∙ sym (join_zero (word_in s) v (step (seen round (word_in s)) (bits_a (size_in s)) p)) ∙ on 0 i; enough = λ l. refl }

      pub joining_back : r ≤ p → Early (bits_a (size_in s)) most (joined_from s v f) (Some 0)
      joining_back z = last (omega arith)

      pub joining_on : (left ≡ 0 → ⊥) → p < r → Joining r (left - 1)
      unfolding rest_at
      joining_on u z =
          let b = seen round (word_in s) in
          let bal = nested s round J.at.opens in
          let k = sym h in
          let l = step_below b (bits_a (size_in s)) bal p J.at.below in
          let i = left_next b (bits_a (size_in s)) f bal p J.at.below J.of (omega arith) in
          record {
            at = record { opens = J.at.opens; below = omega arith; few = omega (arith, places_most s J.at.opens) };
            of = ap (inner b) (sym k) ∙ inner_step b (bits_a (size_in s)) bal p J.at.below ∙ J.of;
            rest = ap (λ c. join_in (word_in s) v (rest_at c) c) (sym k) ∙ on (rest_at (step b (bits_a (size_in s)) p)) i;
            room = λ g. omega (arith, J.room g);
          }

-- ---- the search about u
module _ (s : List ℕ) (u : Point) (v n : ℕ) (hn : n ≡ bits_a (size_in s)) where
  pub join_empty : n ≡ 0 → 0 ≡ joined_in s u.0 v
  join_empty z =
      let x = first (seen round (word_in s)) (bits_a (size_in s)) u.0 in
      sym (ap (λ k. join_in (word_in s) v k x) (sym (size_none s (Cell.Point u) n hn z)) ∙ join_zero (word_in s) v x)

  module _ (f : ℕ) (N : Numbered s (Cell.Point u)) (m : n ≡ 0 → ⊥) (e : f ≡ first (seen round (word_in s)) (bits_a (size_in s)) u.0) where
    pub join_start : Position s f → Start s f
    join_start P = record { at = P; itself = first_itself s (Cell.Point u) n hn round f N m refl e }

    pub join_full : (r : ℕ) → r ≡ joined_from s v f → r ≡ joined_in s u.0 v
    join_full r h =
        let k = size_some s (Cell.Point u) n hn round f N m refl e (size (seen round (word_in s)) (bits_a (size_in s)) (number (seen round (word_in s)) f)) refl in
        h ∙ ap (λ x. join_in (word_in s) v x f) k ∙ ap (join_in (word_in s) v (places_in (word_in s) Kind.point u.0)) e
