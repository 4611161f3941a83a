-- The pass that writes the drawing: at each position the entry of its end, and the mark of its border.
--
-- round_mate_is    == the partner among the round brackets
-- part_fits, rest_fits, sum_fits == the parts of that sum fit 64 bits, and it does
-- Writing s t k n p t' k' == t' and k' are the lists t and k with what was written before position p
-- writing_start, writing_more, writing_turning, writing_marks == from one position to the next, and what the lists hold at the end
-- mate_few, round_below, turning_room, marks_room == partners are positions, and there are entries for an end and for its border
-- Assumes nothing.
use mathlib.Core.Path.{◌≡◌, refl, sym, ap, ap₂, ◌∙◌}
use mathlib.Core.Logic.{⊎_elim}
use mathlib.Core.List.{List}
use Prim.Native.Nat.{ℕ, ◌+◌, ◌-◌, ◌*◌, ◌/◌, ◌^◌, ◌<◌, ◌≤◌}
use native.Mathlib.Omega.{arith}
use borrow.Author.Tests.{eq-eqb, ne_eqb}
use lib.Dec.{eqb}
use lib.ListN.{length, get_or, set}
use Rattle.count.specs.Below.{pick, table}
use Rattle.count.proofs.Logic.{same_or_not, pick_yes, pick_no}
use Rattle.count.proofs.Lists.{table_get_d}
use Rattle.answers.specs.Lent.{laid}
use Rattle.words.specs.Brackets.{Balanced, next, step}
use Rattle.words.specs.declared.family.Family.{Family}
use Rattle.words.specs.declared.family.Family.TheVariants.{Round as round, Square as square}
use Rattle.words.specs.Word.{same_family, seen, mate_in}
use Rattle.words.proofs.Mates.{mate_own, mate_else, mate_in_below}
use Rattle.bits.specs.Strings.{bit}
use Rattle.bits.specs.Letters.{family_bit}
use Rattle.bits.proofs.Laws.{bit_below_2}
use Rattle.bits.proofs.Letters.{bit_back}
use Rattle.drawing.specs.Drawing.{border, is_marked}
use Rattle.format.specs.Bytes.{size_in, bits_a, part_a, word_in}
use Rattle.format.specs.Open.{open_refusal}
use Rattle.format.specs.Pack.{end_in, position_in, drawing_of}
use Rattle.roundtrip.proofs.Ends.{end_in_below, position_in_lem, position_in_below, position_in_end}
use Rattle.roundtrip.proofs.Drawing.{drawing_marked}
use Rattle.surveying.specs.Surveyed.{Mates}
use Rattle.walking.proofs.Decoded.{places_most}
use Rattle.walking.proofs.Walks.{family_round, family_square}
use Rattle.unpacking.specs.Ended.{Ends}
use Rattle.unpacking.proofs.Filling.{Filling, filling_start, filling_more, filling_end}
use Rattle.unpacking.proofs.Placed.{nested_in}

-- ---- the position after one about a point
module _ (mark : ℕ) (l : mark < 2) where
  by_mark : {X : Type 0} → (mark ≡ 1 → X) → (mark ≡ 0 → X) → X
  by_mark f g = ⊎_elim f (λ m. g (omega arith)) (same_or_not mark 1)

  pub round_mate_is : (p q : ℕ) → mark * q + (1 - mark) * p ≡ pick (eqb mark 1) q p
  round_mate_is p q = by_mark (λ e. rw e (omega arith)) (λ e. rw e (omega arith))

  part_small : (x : ℕ) → x < 4096 → mark * x < 4096
  part_small x h = by_mark (λ e. rw e (omega arith)) (λ e. rw e (omega arith))

  rest_small : (x : ℕ) → x < 4096 → (1 - mark) * x < 4096
  rest_small x h = by_mark (λ e. rw e (omega arith)) (λ e. rw e (omega arith))

  pub part_fits : (x : ℕ) → x < 4096 → mark * x < 2 ^ 64
  part_fits x h = omega (arith, part_small x h)

  pub rest_fits : (x : ℕ) → x < 4096 → (1 - mark) * x < 2 ^ 64
  rest_fits x h = omega (arith, rest_small x h)

  pub sum_fits : (x y : ℕ) → x < 4096 → y < 4096 → mark * x + (1 - mark) * y < 2 ^ 64
  sum_fits x y h k = omega (arith, part_small x h, rest_small y k)

-- ---- what the lists are to hold: the turning list by the ends, the marks by the borders, each of them twice
abbrev pub turns_to : List ℕ → ℕ → ℕ
turns_to s h = end_in (word_in s) (step (seen round (word_in s)) (word_in s).size (position_in (word_in s) h))

abbrev pub border_in : List ℕ → ℕ → ℕ
border_in s p = end_in (word_in s) p / 2

abbrev pub mark_of : List ℕ → ℕ → ℕ
mark_of s e = family_bit ((word_in s).letter (position_in (word_in s) (2 * e))).family

same_bit : (K L : Family) → eqb (family_bit K) 1 ≡ same_family round L → family_bit L ≡ family_bit K
same_bit round round e = refl
same_bit round square e = cc
same_bit square round e = cc
same_bit square square e = refl

-- ---- what is written at a position
module _ (s : List ℕ) (p : ℕ) where
  mark_is : family_bit ((word_in s).letter p).family ≡ bit (part_a s) p
  unfolding word_in
  mark_is = bit_back (bit (part_a s) p) (bit_below_2 (part_a s) p)

  step_is : step (seen round (word_in s)) (bits_a (size_in s)) p ≡ next (bits_a (size_in s)) (pick (eqb (bit (part_a s) p) 1) (mate_in (word_in s) p) p)
  unfolding step word_in
  step_is =
      let w = word_in s in
      let x : ℕ = bit (part_a s) p in
      ap (next (bits_a (size_in s)))
      (⊎_elim
      (λ e. mate_own w round p (sym (family_round s p (part_a s) x refl refl e)) ∙ sym (pick_yes (eqb x 1) (mate_in w p) p (eq-eqb x 1 e)))
      (λ m. mate_else w round p (ap (same_family round) (sym (family_square s p (part_a s) x refl refl m)))
      ∙ sym (pick_no (eqb x 1) (mate_in w p) p (ne_eqb x 1 m)))
      (same_or_not x 1))

module _ (s t k : List ℕ) (n : ℕ) where
  pub record Writing (p : ℕ) (t' k' : List ℕ) : Type 0 where
    pub opens : open_refusal s ≡ 0
    pub size : n ≡ bits_a (size_in s)
    pub few : n ≤ 4096
    pub turning : Filling t (bits_a (size_in s)) (turns_to s) (end_in (word_in s)) p t'
    pub marks : Filling k (size_in s).m (mark_of s) (border_in s) p k'

  pub writing_start : open_refusal s ≡ 0 → n ≡ bits_a (size_in s) → bits_a (size_in s) ≤ length t → (size_in s).m ≤ length k → Writing 0 t k
  writing_start o h a b =
      record {
        opens = o;
        size = h;
        few = omega (arith, places_most s o);
        turning = filling_start t (bits_a (size_in s)) (turns_to s) (end_in (word_in s)) a;
        marks = filling_start k (size_in s).m (mark_of s) (border_in s) b;
      }

  module _ (p : ℕ) (t' k' : List ℕ) (W : Writing p t' k') where
    bal : (K : Family) → Balanced (seen K (word_in s)) (word_in s).size
    bal = nested_in s W.opens

    -- ---- the lists at the end: every end has its position
    pub writing_turning : n ≤ p → t' ≡ laid (drawing_of (word_in s)).turning t
    unfolding word_in drawing_of
    writing_turning b =
        let w = word_in s in
        filling_end t (bits_a (size_in s)) (turns_to s) (end_in w) p t' W.turning
        (λ x c.
        let i : position_in w x < bits_a (size_in s) = position_in_below w bal x c in
        (position_in w x, omega (arith, W.size), position_in_end w bal x c))

    pub writing_marks : n ≤ p → k' ≡ laid (drawing_of (word_in s)).marks k
    unfolding word_in drawing_of
    writing_marks b =
        let w = word_in s in
        let half : (size_in s).m ≡ w.size / 2 = omega arith in
        filling_end k (size_in s).m (mark_of s) (border_in s) p k' W.marks
        (λ x c.
        let j : 2 * x < w.size = omega arith in
        let i : position_in w (2 * x) < w.size = position_in_below w bal (2 * x) j in
        (position_in w (2 * x), omega (arith, W.size), ap (λ z. z / 2) (position_in_end w bal (2 * x) j) ∙ omega arith))
        ∙ ap (λ z. laid (table (mark_of s) z) k) half

    module _ (l : p < n) where
      inside : p < (word_in s).size
      unfolding word_in
      inside = omega (arith, W.size)

      module _ (mates : List ℕ) (q : ℕ) (M : Mates s mates) (e : 4096 ≤ length mates) (f : q ≡ get_or mates p 0) where
        mate_is : q ≡ mate_in (word_in s) p
        mate_is = f ∙ M.at p (omega (arith, W.size)) (omega (arith, W.few))

        mate_below : q < n
        unfolding word_in
        mate_below = omega (arith, mate_is, mate_in_below (word_in s) bal p inside, W.size)

        pub mate_few : q < 4096
        mate_few = omega (arith, mate_below, W.few)

        pub round_below : (mark r : ℕ) → r ≡ pick (eqb mark 1) q p → r < n
        round_below mark r h =
            ⊎_elim
            (λ e. omega (arith, mate_below, pick_yes (eqb mark 1) q p (eq-eqb mark 1 e)))
            (λ m. omega (arith, pick_no (eqb mark 1) q p (ne_eqb mark 1 m)))
            (same_or_not mark 1)

      module _ (ends : List ℕ) (h : ℕ) (E : Ends s ends) (f : h ≡ get_or ends p 0) where
        end_is : h ≡ end_in (word_in s) p
        end_is = f ∙ E.at p (omega (arith, W.size))

        end_below : h < bits_a (size_in s)
        unfolding word_in
        end_below = omega (arith, end_is, end_in_below (word_in s) bal p inside)

        pub turning_room : h < length t'
        turning_room = omega (arith, end_below, W.turning.room, W.turning.same_length)

        pub marks_room : h / 2 < length k'
        marks_room = omega (arith, end_below, W.marks.room, W.marks.same_length)

      -- the family of a border's letters is that of its first
      mark_stands : bit (part_a s) p ≡ mark_of s (border_in s p)
      unfolding word_in is_marked drawing_of border
      mark_stands =
          let w = word_in s in
          let c : border_in s p < w.size / 2 = omega (arith, end_in_below w bal p inside) in
          sym (mark_is s p)
          ∙ same_bit (w.letter (position_in w (2 * border_in s p))).family (w.letter p).family
          (ap (λ x. eqb x 1) (sym (table_get_d (mark_of s) (w.size / 2) (border_in s p) 0 c)) ∙ drawing_marked w bal p inside)

      pub writing_more : (mates ends a : List ℕ) (mark h c d q g : ℕ) → Mates s mates → Ends s ends → 4096 ≤ length mates → a ≡ part_a s
          → mark ≡ bit a p → h ≡ get_or ends p 0 → c ≡ get_or mates p 0 → d ≡ pick (eqb mark 1) c p → q ≡ next n d → q < n → g ≡ get_or ends q 0
          → Writing (p + 1) (set t' h g) (set k' (h / 2) mark)
      unfolding word_in
      writing_more mates ends a mark h c d q g M E e ha hm hh hc hd hq i hg =
          let w = word_in s in
          let N : ℕ = bits_a (size_in s) in
          let m : mark ≡ bit (part_a s) p = hm ∙ ap (λ z. bit z p) ha in
          let x : h ≡ end_in w p = end_is ends h E hh in
          let y : h < N = end_below ends h E hh in
          let z : c ≡ mate_in w p = mate_is mates c M e hc in
          let v : q ≡ step (seen round w) N p
          = hq ∙ ap₂ next W.size hd ∙ ap₂ (λ z u. next N (pick (eqb z 1) u p)) m z ∙ sym (step_is s p) in
          let u : g ≡ end_in w q = hg ∙ E.at q (omega (arith, W.size)) in
          record {
            opens = W.opens;
            size = W.size;
            few = W.few;
            turning =
                filling_more t N (turns_to s) (end_in w) p t' W.turning h g y x
                (u ∙ ap (end_in w) v ∙ ap (λ z. end_in w (step (seen round w) N z)) (sym (ap (position_in w) x ∙ position_in_lem w bal p inside)));
            marks =
                filling_more k (size_in s).m (mark_of s) (border_in s) p k' W.marks (h / 2) mark (omega arith) (ap (λ z. z / 2) x)
                (m ∙ mark_stands ∙ ap (λ z. mark_of s (z / 2)) (sym x));
          }
