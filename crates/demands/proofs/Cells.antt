-- Points and areas on the packed bytes: one number for one cell, where turns go round, and how many there are.
--
-- same_number  == two places get one number exactly if the drawing's walk leads from one to the other
-- turn_sign_in == where a turn and a turn back have the sign, and where they lead, on bytes that open
-- cell_counts  == points and areas are m + 2 in all, and the sizes of each add up to 2m
-- known_numbers == the numbers that the book knows are those that some end has
-- number_range_is == the numbers that the book knows, as a range
-- Assumes nothing.
use mathlib.Core.Path.{◌≡◌, refl, sym, ap, ap₂, ◌∙◌}
use mathlib.Core.Logic.{◌≢◌, inl, inr, ◌↔◌}
use mathlib.Core.Bool.{Bool, true, false}
use mathlib.Core.List.{List}
use Prim.Native.Nat.{ℕ, zero, suc, pred, ◌+◌, ◌≤◌, ◌<◌}
use native.Mathlib.Omega.{arith}
use lib.Dec.{eqb}
use borrow.Author.Tests.{eqb-true, eq-eqb}
use Rattle.count.specs.Below.{total}
use Rattle.count.proofs.Decides.{decides_lt, decides_le, decides_both}
use Rattle.count.proofs.Counts.{count_zero}
use Rattle.count.proofs.Logic.{true_or_false, true_not_false, one_of, either_left, either_right, pick_no}
use Rattle.answers.specs.Answer.{answer, plain, Kind}
use Rattle.orbits.specs.Cycles.{SameCycle}
use Rattle.words.specs.Brackets.{Bracket, closes, opens, neither, is_opens, is_closes, Balanced, mate, step, back, number, inner, is_first, is_last, first, size}
use Rattle.words.specs.declared.family.Family.{Family}
use Rattle.words.specs.declared.family.Family.TheVariants.{Round as round}
use Rattle.words.specs.Word.{same_family, Word, seen, mate_in}
use Rattle.words.proofs.Letters.{by_bracket, closes_not_neither}
use Rattle.words.proofs.Mate.{mate_below, mate_opens, mate_neither}
use Rattle.words.proofs.Step.{step_below, back_below, step_back, inner_step, inner_back}
use Rattle.words.proofs.Numbers.{openings, inner_number, number_positive, number_range, number_reached, first_inner}
use Rattle.words.proofs.Round.{first_step}
use Rattle.words.proofs.Sizes.{size_sum}
use Rattle.drawing.specs.Drawing.{Drawing, ends, around, cells, end_at, position_of}
use Rattle.drawing.specs.Checks.{PassesSeven}
use Rattle.drawing.specs.Session.{Call}
use Rattle.drawing.specs.Book.{ends_on, has_number, number_at}
use Rattle.format.specs.Bytes.{word_in}
use Rattle.format.specs.Open.{open_refusal}
use Rattle.format.specs.Calls.{family_of_kind, move_in, sign_in, map_answer, turn_of, turn_back_of, point_of, places_in}
use Rattle.format.specs.Pack.{word_of, packed_bytes}
use Rattle.agreement.specs.Toured.{Toured}
use Rattle.agreement.proofs.Passed.{passes_toured}
use Rattle.agreement.proofs.Cells.{same_cell, number_agrees, size_agrees}
use Rattle.agreement.proofs.Counts.{cells_agree, openings_square, points_count}
use Rattle.agreement.proofs.Nesting.{word_balanced}
use Rattle.agreement.proofs.Steps.{cell_word}
use Rattle.agreement.proofs.Book.{numbers_agree, book_call}
use Rattle.words.proofs.Mates.{mate_own, by_family}
use Rattle.demands.specs.Statements.{CellCounts, HasNumber, LastPlace, FirstPlace, Turned, TurnSigns}
use Rattle.demands.proofs.Answers.{packed_call}
use Rattle.format.proofs.Places.{at_place_lem}
use Rattle.demands.proofs.Asked.{nested, answer_at_lem, plain_at}

answer_is : (a b : ℕ) → answer a ≡ answer b → a ≡ b
answer_is a b e = cc

-- the call that asks for the number of a point, of an area
abbrev pub ask_of : Kind → Call
ask_of Kind.point = Call.point
ask_of Kind.area = Call.area

number_move : (D : Drawing) (c : Kind) (p : ℕ) → move_in (word_of D) (ask_of c) p ≡ number (cell_word D c) p
unfolding move_in
number_move D Kind.point p = refl
number_move D Kind.area p = refl

module _ (D : Drawing) (seven : PassesSeven D) (c : Kind) where
  number_answer : (p : ℕ) → p < ends D → plain (map_answer (packed_bytes D) (ask_of c) (suc p)) ≡ answer (number (cell_word D c) p)
  unfolding word_of
  number_answer p l =
      ap plain (packed_call D seven (ask_of c) (suc p)
      ∙ book_call (passes_toured D seven) (ask_of c) (suc p)
      ∙ at_place_lem (word_of D) (ask_of c) (suc p) (omega arith) l)
      ∙ ap answer (number_move D c p)

  pub same_number : (p q : ℕ) → p < ends D → q < ends D
      → (plain (map_answer (packed_bytes D) (ask_of c) (suc p)) ≡ plain (map_answer (packed_bytes D) (ask_of c) (suc q)))
      ↔ SameCycle (around D c) (end_at D p) (end_at D q)
  same_number p q lp lq =
      let cell = same_cell (passes_toured D seven) c p q lp lq in (
        λ e. cell.0 (answer_is (number (cell_word D c) p) (number (cell_word D c) q) (sym (number_answer p lp) ∙ e ∙ number_answer q lq)),
        λ s. number_answer p lp ∙ ap answer (cell.1 s) ∙ sym (number_answer q lq),
      )

places_are : (D : Drawing) (c : Kind) (k : ℕ) → places_in (word_of D) c k ≡ size (cell_word D c) (ends D) k
unfolding places_in word_of
places_are D c k = refl

closes_is : (b : Bracket) → (is_closes b ≡ true) ↔ (b ≡ closes)
closes_is opens = (λ e. absurd (true_not_false false e refl), λ e. let z : false ≡ true = ap is_closes e in z)
closes_is closes = (λ e. refl, λ e. refl)
closes_is neither = (λ e. absurd (true_not_false false e refl), λ e. let z : false ≡ true = ap is_closes e in z)

-- a letter that closes a round bracket is round
closes_round : (w : Word) (p : ℕ) → seen round w p ≡ closes → (w.letter p).family ≡ round
unfolding seen
closes_round w p e =
    elim (by_family round (w.letter p).family) [
      | inl h ↦ h.0
      | inr h ↦ absurd (closes_not_neither e (pick_no (same_family round (w.letter p).family) _ neither h.1))
    ]

module _ (w : Word) (nests : (K : Family) → Balanced (seen K w) w.size) (p : ℕ) (l : p < w.size) where
  abbrev end : ℕ
  end = pred w.size

  end_below : end < w.size
  end_below = let e : pred w.size < w.size = omega arith in e

  -- the mate of the last position: the ( that it closes, or the position itself
  last_closes : seen round w end ≡ closes → mate (seen round w) w.size end ≡ mate_in w end
  last_closes c = mate_own w round end (closes_round w end c)

  last_else : seen round w end ≢ closes → mate (seen round w) w.size end ≡ end
  last_else n =
      let below : mate (seen round w) w.size end < w.size = mate_below (seen round w) w.size (nests round) end end_below in
      by_bracket (seen round w end)
      (λ o. let after : pred w.size < mate (seen round w) w.size end = (mate_opens (seen round w) w.size (nests round) end end_below o).0 in absurd (omega arith))
      (λ c. absurd (n c))
      (λ x. mate_neither (seen round w) w.size end x)

  last_is : (is_last (seen round w) w.size p ≡ true) ↔ LastPlace w p
  unfolding is_last
  last_is =
      let b : Bracket = seen round w p in
      let m : ℕ = mate (seen round w) w.size end in (
        λ e.
            elim (one_of (is_closes b) (eqb m p) e) [
              | inl c ↦ inl ((closes_is b).0 c)
              | inr q ↦
                  let is : m ≡ p = eqb-true m p q in
                  elim (true_or_false (is_closes (seen round w end))) [
                    | inl t ↦ let c : seen round w end ≡ closes = (closes_is (seen round w end)).0 t in inr (inr (c, sym is ∙ last_closes c))
                    | inr f ↦
                        let n : seen round w end ≢ closes = λ c. true_not_false (is_closes (seen round w end)) ((closes_is (seen round w end)).1 c) f in
                        inr (inl (n, sym is ∙ last_else n))
                  ]
            ],
        λ last.
            elim last [
              | inl c ↦ either_left (is_closes b) (eqb m p) ((closes_is b).1 c)
              | inr x ↦
                  elim x [
                    | inl h ↦ either_right (is_closes b) (eqb m p) (eq-eqb m p (last_else h.0 ∙ sym h.1))
                    | inr h ↦ either_right (is_closes b) (eqb m p) (eq-eqb m p (last_closes h.0 ∙ sym h.1))
                  ]
            ],
      )

  first_is_lowest : (is_first (seen round w) p ≡ true) ↔ FirstPlace w p
  unfolding is_first
  first_is_lowest =
      let e : first (seen round w) w.size (number (seen round w) p) ≡ inner (seen round w) p = first_inner (seen round w) w.size p l in
      (λ t. e ∙ eqb-true (inner (seen round w) p) p t, λ f. eq-eqb (inner (seen round w) p) p (sym e ∙ f))

-- 02, 8/14: "no other turn has the sign"
module _ (s : List ℕ) (o : open_refusal s ≡ 0) (p : ℕ) (l : p < (word_in s).size) where
  abbrev w : Word
  w = word_in s

  abbrev b : ℕ → Bracket
  b = seen round w

  bal : Balanced b w.size
  bal = nested s o round

  -- places with one innermost open bracket are of one point
  one_point : (q : ℕ) → q < w.size → inner b q ≡ inner b p → point_of s (suc q) ≡ point_of s (suc p)
  unfolding point_of move_in
  one_point q k e = plain_at s o Call.point q k ∙ ap answer (inner_number b q p e) ∙ sym (plain_at s o Call.point p l)

  -- a test that is another's
  as_test : (t u : Bool) → t ≡ u → {P : Type 0} → (u ≡ true) ↔ P → (t ≡ true) ↔ P
  as_test t u e h = (λ y. h.0 (sym e ∙ y), λ x. e ∙ h.1 x)

  turned : Turned turn_of LastPlace FirstPlace s p
  unfolding turn_of move_in sign_in
  turned =
      let q : ℕ = step b w.size p in
      let k : q < w.size = step_below b w.size bal p l in
      record {
        to = q;
        sign = is_last b w.size p;
        answers = answer_at_lem s o Call.turn p l;
        below = k;
        leaves = last_is w (nested s o) p l;
        arrives = as_test (is_last b w.size p) (is_first b q) (sym (first_step b w.size bal p l)) (first_is_lowest w (nested s o) q k);
        keeps = one_point q k (inner_step b w.size bal p l);
      }

  turned_back : Turned turn_back_of FirstPlace LastPlace s p
  unfolding turn_back_of move_in sign_in
  turned_back =
      let q : ℕ = back b w.size p in
      let k : q < w.size = back_below b w.size bal p l in
      let e : is_first b p ≡ is_last b w.size q = ap (is_first b) (sym (step_back b w.size bal p l)) ∙ first_step b w.size bal q k in
      record {
        to = q;
        sign = is_first b p;
        answers = answer_at_lem s o Call.turn_back p l;
        below = k;
        leaves = first_is_lowest w (nested s o) p l;
        arrives = as_test (is_first b p) (is_last b w.size q) e (last_is w (nested s o) q k);
        keeps = one_point q k (inner_back b w.size bal p l);
      }

  pub turn_sign_in : TurnSigns s p
  turn_sign_in = record { turn = turned; turn_back = turned_back }

total_same : (f g : ℕ → ℕ) (v : ℕ) → ((k : ℕ) → f k ≡ g k) → total f v ≡ total g v
unfolding total
total_same f g zero same = refl
total_same f g (suc v) same = ap₂ (λ (x y : ℕ). x + y) (total_same f g v same) (same (suc v))

pub cell_counts : {D : Drawing} → Toured D → CellCounts D
cell_counts {D} T =
    record {
      areas = omega (arith, cells_agree T Kind.area, openings_square T, points_count T);
      sum = λ c.
          total_same (ends_on D c) (size (cell_word D c) (ends D)) (cells D c) (λ k. size_agrees T c k ∙ places_are D c k)
          ∙ ap (total (size (cell_word D c) (ends D))) (cells_agree T c)
          ∙ size_sum (cell_word D c) (ends D);
    }

-- a number of a point (area) is the number of some end
module _ {D : Drawing} (T : Toured D) (c : Kind) where
  pub number_range_is : (k : ℕ) → (has_number D c k ≡ true) ↔ ((1 ≤ k) × (k ≤ 1 + openings (cell_word D c) (ends D)))
  number_range_is k =
      let d = decides_both (decides_lt 0 k) (decides_le k (1 + openings (cell_word D c) (ends D))) in
      let e = numbers_agree T c k in
      (λ h. d.sound (sym e ∙ h), λ r. e ∙ d.complete r)

  pub known_numbers : HasNumber D c
  unfolding ends
  known_numbers =
      let b : ℕ → Bracket = cell_word D c in
      record {
        ended = λ pos k. (
          λ h.
              let r = (number_range_is k).0 h in
              let x = number_reached b (ends D) (word_balanced T (family_of_kind c)) (omega arith) k r.0 r.1 in
              (end_at D x.0, T.meets.end_below x.0 x.1, number_agrees T c x.0 x.1 ∙ x.2),
          λ x.
              let p : ℕ = position_of D x.0 in
              let l : p < ends D = T.meets.position_below x.0 x.1 in
              let e : number b p ≡ k = sym (number_agrees T c p l) ∙ ap (number_at D c) (T.meets.end_position x.0 x.1) ∙ x.2 in
              (number_range_is k).1 (omega (arith, number_positive b p), omega (arith, number_range b (ends D) p l)),
        );
        alone = λ none k.
            let z : ends D ≡ 0 = omega arith in
            let n : openings b (ends D) ≡ 0 = ap (openings b) z ∙ count_zero (λ q. is_opens (b q)) in (
              λ h. omega (arith, ((number_range_is k).0 h).0, ((number_range_is k).0 h).1),
              λ e. (number_range_is k).1 (omega arith, omega arith),
            );
      }
