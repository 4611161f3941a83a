-- The numbers of points (areas), their first and last positions.
--
-- openings b p     == how many brackets open before p
-- openings_more    == one more after an opening
-- number_is, number_positive, number_range == a number is 1 + the openings before the first position
-- inner_number, number_inner == one number exactly if one innermost open bracket
-- first_is         == p is a first position exactly if inner b p is p
-- first_after, first_count == the first positions are 0 and those just after an opening
-- first_inner      == the lowest position of p's number is inner b p
-- number_zero      == position 0 has number 1
-- opening_inside   == the position after an opening is in the word
-- number_opening   == the position after the j-th opening (from 0) is a first one, and has number j + 2
-- number_reached   == every number from 1 to 1 + the openings is some position's
-- first_zero, first_opening == the first position of number 1 is 0, of number j + 2 the one after the j-th opening
-- last_step        == p is a last position exactly if the step from p arrives at a first one
-- Assumes nothing.
use mathlib.Core.Path.{◌≡◌, refl, sym, ap, ◌∙◌}
use mathlib.Core.Logic.{◌↔◌, ⊎_elim}
use mathlib.Core.Bool.{true}
use Prim.Native.Nat.{ℕ, zero, suc, pred, ◌+◌, ◌<◌, ◌≤◌}
use native.Mathlib.Numerals.{add-one}
use native.Mathlib.Omega.{arith}
use lib.Dec.{eqb}
use borrow.Author.Tests.{eqb-true, eq-eqb, ne_eqb}
use Rattle.count.specs.Below.{count, nth}
use Rattle.count.proofs.Logic.{same_or_not, lt_or_ge, true_or_false, bool_same, one_of, either_left, either_right}
use Rattle.count.proofs.Below.{count_zero, count_yes, count_no, count_mono, find_is, nth_below, nth_has, nth_count}
use Rattle.words.specs.Brackets.{Bracket, opens, closes, is_opens, is_closes, inner, Balanced, mate, step, number, is_first, is_last, first}
use Rattle.words.proofs.Letters.{opens_true, closes_true}
use Rattle.words.proofs.Stack.{zero_or_more, inner_zero, inner_opens, inner_opens_at, inner_le, inner_inner}
use Rattle.words.proofs.Mate.{mate_below, mate_involutive, mate_opens, mate_closes}
use Rattle.words.proofs.Step.{next_plain, next_last}

abbrev pub openings : (ℕ → Bracket) → ℕ → ℕ
openings b p = count (λ q. is_opens (b q)) p

module _ (b : ℕ → Bracket) where
  pub number_is : (p : ℕ) → number b p ≡ openings b (inner b p) + 1
  unfolding number
  number_is p = sym (add-one (openings b (inner b p)))

  pub inner_number : (p q : ℕ) → inner b p ≡ inner b q → number b p ≡ number b q
  inner_number p q e = number_is p ∙ ap (λ x. openings b x + 1) e ∙ sym (number_is q)

  pub number_positive : (p : ℕ) → 1 ≤ number b p
  number_positive p = omega (arith, number_is p)

  pub openings_more : (p : ℕ) → b p ≡ opens → openings b (p + 1) ≡ openings b p + 1
  openings_more p o = count_yes (λ q. is_opens (b q)) p (ap is_opens o)

  -- a lower first position has fewer openings before it
  fewer : (p q : ℕ) → inner b p < inner b q → openings b (inner b p) < openings b (inner b q)
  fewer p q l = ⊎_elim
      (λ e. absurd (omega arith))
      (λ t. let e : inner b q ≡ t.0 + 1 = t.1 in
      let m : openings b (inner b p) ≤ openings b t.0 = count_mono (λ x. is_opens (b x)) (inner b p) t.0 (omega arith) in
      let k : openings b (t.0 + 1) ≡ openings b t.0 + 1 = openings_more t.0 (inner_opens_at b q t.0 e).0 in
      rw e (omega arith))
      (zero_or_more (inner b q))

  pub number_inner : (p q : ℕ) → number b p ≡ number b q → inner b p ≡ inner b q
  number_inner p q e =
      let i = number_is p in
      let j = number_is q in
      ⊎_elim
      (λ l. absurd (omega (arith, fewer p q l)))
      (λ k. ⊎_elim (λ l. absurd (omega (arith, fewer q p l))) (λ l. omega arith) (lt_or_ge (inner b q) (inner b p)))
      (lt_or_ge (inner b p) (inner b q))

  pub number_range : (n p : ℕ) → p < n → number b p ≤ 1 + openings b n
  number_range n p l =
      let h : inner b p ≤ p = inner_le b p in
      omega (arith, number_is p, count_mono (λ q. is_opens (b q)) (inner b p) n (omega arith))

  pub first_is : (p : ℕ) → (is_first b p ≡ true) ↔ (inner b p ≡ p)
  unfolding is_first
  first_is p = (eqb-true (inner b p) p, eq-eqb (inner b p) p)

  pub first_after : (p : ℕ) → is_first b (p + 1) ≡ is_opens (b p)
  first_after p = bool_same (is_first b (p + 1)) (is_opens (b p))
      (λ e. ap is_opens (inner_opens_at b (p + 1) p ((first_is (p + 1)).0 e)).0)
      (λ e. (first_is (p + 1)).1 (inner_opens b p (opens_true (b p) e)))

  pub first_count : (p : ℕ) → count (is_first b) (p + 1) ≡ openings b p + 1
  first_count zero =
      omega (arith, count_yes (is_first b) 0 ((first_is 0).1 (inner_zero b)), count_zero (is_first b), count_zero (λ q. is_opens (b q)))
  first_count (suc p) =
      let before : count (is_first b) (p + 1) ≡ openings b p + 1 = first_count p in
      rw (← add-one p) (⊎_elim
      (λ e. omega (arith, count_yes (λ q. is_opens (b q)) p e, count_yes (is_first b) (p + 1) (first_after p ∙ e)))
      (λ e. omega (arith, count_no (λ q. is_opens (b q)) p e, count_no (is_first b) (p + 1) (first_after p ∙ e)))
      (true_or_false (is_opens (b p))))

  pub first_inner : (n p : ℕ) → p < n → first b n (number b p) ≡ inner b p
  unfolding first
  first_inner n p l =
      let h : inner b p ≤ p = inner_le b p in
      find_is (λ q. eqb (number b q) (number b p)) n (inner b p) (omega arith)
      (eq-eqb (number b (inner b p)) (number b p) (inner_number (inner b p) p (inner_inner b p)))
      (λ y k. ne_eqb (number b y) (number b p)
      (λ e. let f : inner b y ≡ inner b p = number_inner y p e in
      let g : inner b y ≤ y = inner_le b y in omega arith))

  pub number_zero : number b 0 ≡ 1
  number_zero = number_is 0 ∙ ap (λ x. openings b x + 1) (inner_zero b) ∙ omega (arith, count_zero (λ q. is_opens (b q)))

module _ (b : ℕ → Bracket) (n : ℕ) (bal : Balanced b n) where
  pub opening_inside : (p : ℕ) → p < n → b p ≡ opens → p + 1 < n
  opening_inside p l o =
      let h : p < mate b n p = (mate_opens b n bal p l o).0 in
      let k : mate b n p < n = mate_below b n bal p l in omega arith

  pub number_opening :
      (j : ℕ) → j < openings b n
      → (p : ℕ) → p ≡ nth (λ q. is_opens (b q)) j n + 1
      → (p < n) × (inner b p ≡ p) × (number b p ≡ j + 2)
  number_opening j h p e =
      let q = nth (λ x. is_opens (b x)) j n in
      let l : q < n = nth_below (λ x. is_opens (b x)) j n h in
      let o : b q ≡ opens = opens_true (b q) (nth_has (λ x. is_opens (b x)) j n l) in
      let c : openings b q ≡ j = nth_count (λ x. is_opens (b x)) j n l in
      let k : q + 1 < n = opening_inside q l o in
      let i : inner b (q + 1) ≡ q + 1 = inner_opens b q o in
      rw e (k, i, number_is b (q + 1) ∙ ap (λ x. openings b x + 1) i ∙ omega (arith, openings_more b q o))

  pub number_reached : 0 < n → (k : ℕ) → 1 ≤ k → k ≤ 1 + openings b n → (p : ℕ) × (p < n) × (number b p ≡ k)
  number_reached z zero l m = absurd (omega arith)
  number_reached z (suc zero) l m = (0, z, number_zero b)
  number_reached z (suc (suc j)) l m =
      let h = number_opening j (omega arith) (nth (λ q. is_opens (b q)) j n + 1) refl in
      (nth (λ q. is_opens (b q)) j n + 1, h.0, h.2 ∙ omega arith)

  pub first_zero : 0 < n → first b n 1 ≡ 0
  first_zero z = ap (first b n) (sym (number_zero b)) ∙ first_inner b n 0 z ∙ inner_zero b

  pub first_opening : (j : ℕ) → j < openings b n → first b n (j + 2) ≡ nth (λ q. is_opens (b q)) j n + 1
  first_opening j h =
      let p = nth (λ q. is_opens (b q)) j n + 1 in
      let g = number_opening j h p refl in
      ap (first b n) (sym g.2) ∙ first_inner b n p g.0 ∙ g.1

  -- the step arrives at a first position from a closing, and from the partner of the last position
  pub last_step : (p : ℕ) → p < n → (is_last b n p ≡ true) ↔ (inner b (step b n p) ≡ step b n p)
  unfolding is_last step
  last_step p l = (
    (λ e. ⊎_elim
        (λ c. let h = mate_closes b n bal p l (closes_true (b p) c) in
        let k : mate b n p < p = h.0 in
        rw (next_plain n (mate b n p) (omega arith)) (inner_opens b (mate b n p) h.1))
        (λ f. let g : mate b n (pred n) ≡ p = eqb-true (mate b n (pred n)) p f in
        let k : mate b n p ≡ pred n = ap (mate b n) (sym g) ∙ mate_involutive b n bal (pred n) (omega arith) in
        rw (next_last n (mate b n p) (omega arith)) (inner_zero b))
        (one_of (is_closes (b p)) (eqb (mate b n (pred n)) p) e)),
    (λ e. ⊎_elim
        (λ f. either_right (is_closes (b p)) (eqb (mate b n (pred n)) p) (eq-eqb (mate b n (pred n)) p
        (let g : mate b n p ≡ pred n = omega arith in
        ap (mate b n) (sym g) ∙ mate_involutive b n bal p l)))
        (λ m. let q = mate b n p in
        let k : q < n = mate_below b n bal p l in
        let g : inner b (q + 1) ≡ q + 1 = rw (next_plain n q m) at e in
        let o : b q ≡ opens = (inner_opens_at b (q + 1) q g).0 in
        let c : b (mate b n q) ≡ closes = (mate_opens b n bal q k o).1 in
        either_left (is_closes (b p)) (eqb (mate b n (pred n)) p) (ap is_closes (ap b (sym (mate_involutive b n bal p l)) ∙ c)))
        (same_or_not (mate b n p + 1) n)),
  )
