-- Counting the areas of a list, each once, and what that says of an area's neighbours.
--
-- Counting        == what the loop of `count_in` keeps: the entries before i are counted
-- counting_start, counting_more, counting_end == before the first entry, one more, after the last
-- others_fit      == the count fits
-- landed_others   == the others among the areas across the sides of an area are its neighbours
-- countable_all, counted_all == so they are counted
-- Assumes nothing.
use mathlib.Core.Path.{◌≡◌, refl, sym, ap, ◌∙◌}
use mathlib.Core.Logic.{◌≢◌, inl, inr}
use mathlib.Core.Bool.{Bool, true, false, not, ◌&&◌, ◌||◌}
use mathlib.Core.List.{List}
use Prim.Native.Nat.{ℕ, suc, pred, ◌+◌, ◌≤◌, ◌<◌}
use native.Mathlib.Numerals.{add-one}
use native.Mathlib.Omega.{arith}
use lib.Dec.{eqb}
use lib.ListN.{length, get_or, set, take, length-set, replicate, length-replicate, get_or-replicate}
use lib.Seq.{get_or-set_same, get_or-set_other, get_or-take}
use Rattle.std.specs.Int.{from_bool}
use borrow.Author.Tests.{eq-eqb, ne_eqb, eqb-true}
use Rattle.count.specs.Below.{count, nth, any}
use Rattle.count.proofs.Logic.{same_or_not, true_or_false, true_not_false, bool_same, one_of, either_left, either_right, both, not_both}
use Rattle.count.proofs.Below.{count_le, count_none, count_same, count_stays, count_before, count_one_less, nth_below, nth_has, nth_of_count, any_has, any_from}
use Rattle.answers.specs.declared.numbers.Area.{Area}
use Rattle.answers.specs.Answer.{Kind}
use Rattle.words.specs.Brackets.{number}
use Rattle.words.specs.declared.family.Family.TheVariants.{Square as square}
use Rattle.words.specs.Word.{seen, mate_in}
use Rattle.drawing.specs.Neighbours.{is_across, neighbours}
use Rattle.drawing.proofs.Neighbours.{across_is}
use Rattle.format.specs.Bytes.{size_in, bits_a, word_in}
use Rattle.format.specs.Calls.{cells_in, neighbours_in}
use Rattle.format.proofs.Openings.{areas_most}
use Rattle.opening.specs.declared.cells.Cell.{Cell}
use Rattle.walking.specs.Positions.{Numbered}
use Rattle.landing.specs.Landed.{Landed}
use Rattle.landing.proofs.Gathering.{landed_count, landed_at, landed_range, landed_long}
use Rattle.neighbouring.specs.Counted.{neighbours_at, others_in, Countable}

neither : (x y : Bool) → x || y ≡ false → (x ≡ false) × (y ≡ false)
neither true y e = absurd (true_not_false true refl e)
neither false y e = (refl, e)

any_more : (P : ℕ → Bool) (i : ℕ) → any P (i + 1) ≡ P i || any P i
unfolding any
any_more P i = ap (any P) (add-one i)

any_zero : (P : ℕ → Bool) → any P 0 ≡ false
unfolding any
any_zero P = refl

-- what a flag that is not set adds
added_le : (t : Bool) → from_bool t ≤ 1
added_le true = omega arith
added_le false = omega arith

-- ---- the loop
module _ (l : List ℕ) (k : ℕ) where
  -- whether area j is among the first i entries; whether it was met before them, as the area itself always was
  abbrev among : ℕ → ℕ → Bool
  among i j = any (λ x. eqb (get_or l x 0) j) i

  abbrev met_before : ℕ → ℕ → Bool
  met_before i j = eqb j k || among i j

  abbrev counted : ℕ → ℕ → Bool
  counted i a = not (eqb (suc a) k) && among i (suc a)

  among_more : (i j : ℕ) → among (i + 1) j ≡ eqb (get_or l i 0) j || among i j
  among_more i j = any_more (λ x. eqb (get_or l x 0) j) i

  among_kept : (i j : ℕ) → get_or l i 0 ≢ j → among (i + 1) j ≡ among i j
  among_kept i j d = among_more i j ∙ ap (λ t. t || among i j) (ne_eqb (get_or l i 0) j d)

  among_there : (i j : ℕ) → get_or l i 0 ≡ j → among (i + 1) j ≡ true
  among_there i j e = among_more i j ∙ either_left (eqb (get_or l i 0) j) (among i j) (eq-eqb (get_or l i 0) j e)

  pub record Counting (i others : ℕ) (met : List Bool) : Type 0 where
    pub long : length met ≡ 2050
    pub flags : (j : ℕ) → j ≤ 2049 → get_or met j false ≡ met_before i j
    pub count : others ≡ others_in l i k

  module _ (B : Countable l (length l) k) where
    -- no flag, but that of the area itself
    module _ (none : List Bool) (long : length none ≡ 2050) (clear : (i : ℕ) → i < 2050 → get_or none i false ≡ false) where
      begun_flags : (j : ℕ) → j ≤ 2049 → get_or (set none k true) j false ≡ met_before 0 j
      begun_flags j h =
          elim (same_or_not j k) [
            | inl e ↦
                ap (λ x. get_or (set none k true) x false) e ∙ get_or-set_same none k true false (omega (arith, B.own))
                ∙ sym (either_left (eqb j k) (among 0 j) (eq-eqb j k e))
            | inr d ↦
                get_or-set_other none k j true false d ∙ clear j (omega arith)
                ∙ sym (ap (λ t. t || among 0 j) (ne_eqb j k d) ∙ any_zero (λ x. eqb (get_or l x 0) j))
          ]

      none_counted : others_in l 0 k ≡ 0
      unfolding others_in
      none_counted =
          count_none (counted 0) 2049
          (λ a h. not_both (not (eqb (suc a) k)) (among 0 (suc a)) (λ d t. true_not_false (among 0 (suc a)) t (any_zero (λ x. eqb (get_or l x 0) (suc a)))))

      counting_begun : Counting 0 0 (set none k true)
      counting_begun = record { long = length-set none k true ∙ long; flags = begun_flags; count = sym none_counted }

    pub counting_start : Counting 0 0 (set (replicate 2050 false) k true)
    counting_start =
        counting_begun (replicate 2050 false) (length-replicate {A = Bool} 2050 false) (λ i h. get_or-replicate 2050 i false false h)

    module _ (i others : ℕ) (met : List Bool) (C : Counting i others met) where
      pub counting_end : i ≤ length l → length l ≤ i → others ≡ others_in l (length l) k
      counting_end w h = let e : i ≡ length l = omega arith in C.count ∙ ap (λ x. others_in l x k) e

      module _ (h : i < length l) (j : ℕ) (hj : j ≡ get_or l i 0) (n : ℕ) (hn : n ≡ from_bool (not (get_or met j false))) where
        pub area_index : j < 2050
        area_index = omega (arith, B.each i h)

        others_few : others_in l i k ≤ 2049
        unfolding others_in
        others_few = count_le (counted i) 2049

        pub others_fit : others + n < 18446744073709551616
        others_fit = omega (arith, C.count, others_few, hn, added_le (not (get_or met j false)))

        met_flag : get_or met j false ≡ met_before i j
        met_flag = C.flags j (omega (arith, area_index))

        count_met : met_before i j ≡ true → others_in l (i + 1) k ≡ others_in l i k
        unfolding others_in
        count_met t =
            count_same (counted (i + 1)) (counted i) 2049
            (λ a b.
            elim (same_or_not (get_or l i 0) (suc a)) [
              | inl e ↦
                  elim (one_of (eqb j k) (among i j) t) [
                    | inl o ↦
                        let z : not (eqb (suc a) k) ≡ false = ap not (eq-eqb (suc a) k (sym e ∙ sym hj ∙ eqb-true j k o)) in
                        ap (λ y. y && among (i + 1) (suc a)) z ∙ sym (ap (λ y. y && among i (suc a)) z)
                    | inr u ↦
                        ap (λ y. not (eqb (suc a) k) && y)
                        (among_there i (suc a) e ∙ sym (ap (among i) (sym (hj ∙ e)) ∙ u))
                  ]
              | inr d ↦ ap (λ y. not (eqb (suc a) k) && y) (among_kept i (suc a) d)
            ])

        count_new : met_before i j ≡ false → others_in l (i + 1) k ≡ others_in l i k + 1
        unfolding others_in
        count_new f =
            let n = neither (eqb j k) (among i j) f in
            let s : suc (pred j) ≡ j = omega (arith, B.each i h) in
            sym (count_one_less (counted (i + 1)) (counted i) 2049 (pred j) (omega (arith, B.each i h))
            (ap (λ y. not (eqb y k) && among (i + 1) y) s
            ∙ both (not (eqb j k)) (among (i + 1) j) (ap not n.0) (among_there i j (sym hj)))
            (ap (λ y. not (eqb y k) && among i y) s
            ∙ not_both (not (eqb j k)) (among i j) (λ t u. true_not_false (among i j) u n.1))
            (λ a b m. ap (λ y. not (eqb (suc a) k) && y) (among_kept i (suc a) (λ e. m (omega arith)))))

        pub counting_more : Counting (i + 1) (others + n) (set met j true)
        counting_more =
            record {
              long = length-set met j true ∙ C.long;
              flags = λ a b.
                  elim (same_or_not a j) [
                    | inl e ↦
                        ap (λ x. get_or (set met j true) x false) e ∙ get_or-set_same met j true false (omega (arith, area_index, C.long))
                        ∙ sym (either_right (eqb a k) (among (i + 1) a) (among_there i a (sym (e ∙ hj))))
                    | inr d ↦
                        get_or-set_other met j a true false d ∙ C.flags a b
                        ∙ sym (ap (λ t. eqb a k || t) (among_kept i a (λ e. d (sym (hj ∙ e)))))
                  ];
              count = elim (true_or_false (met_before i j)) [
                | inl t ↦ omega (arith, C.count, hn ∙ ap (λ x. from_bool (not x)) (met_flag ∙ t), count_met t)
                | inr f ↦ omega (arith, C.count, hn ∙ ap (λ x. from_bool (not x)) (met_flag ∙ f), count_new f)
              ];
            }

-- ---- the areas across the sides of an area
module _ (s l : List ℕ) (a : Area) (c : ℕ) (L : Landed s a.0 c l) (N : Numbered s (Cell.Area a)) where
  abbrev k : ℕ
  k = a.0

  countable : length l ≡ c → Countable l (length l) a.0
  countable h =
      let most = areas_most s N.opens in
      record {
        long = omega arith;
        own = omega (arith, N.most);
        each = λ i b. let r = landed_range s k c l N.opens L i (omega arith) in (r.0, omega (arith, r.1));
      }

  among_across : (j : ℕ) → is_across (number (seen square (word_in s))) (mate_in (word_in s)) (bits_a (size_in s)) k j ≡ among l k c j
  among_across j =
      let area : ℕ → ℕ = number (seen square (word_in s)) in
      let cross : ℕ → ℕ = mate_in (word_in s) in
      let n : ℕ = bits_a (size_in s) in
      let on : ℕ → Bool = λ p. eqb (area p) k in
      let d : c ≡ count on n = landed_count s k c l N.opens L in
      bool_same (is_across area cross n k j) (among l k c j)
      (λ t.
      let x = (across_is area cross n k j).sound t in
      let p : ℕ = x.side in
      let o : on p ≡ true = eq-eqb (area p) k x.here in
      let b : count on p < c = omega (arith, count_before on p n x.below o) in
      any_from (λ y. eqb (get_or l y 0) j) c (count on p) b
      (eq-eqb (get_or l (count on p) 0) j
      (landed_at s k c l N.opens L (count on p) b ∙ ap (λ y. area (cross y)) (nth_of_count on p n x.below o) ∙ x.there)))
      (λ t.
      let x = any_has (λ y. eqb (get_or l y 0) j) c t in
      let p : ℕ = nth on x.0 n in
      let b : p < n = nth_below on x.0 n (omega (arith, x.1)) in
      (across_is area cross n k j).complete
      (record {
        side = p;
        below = b;
        here = eqb-true (area p) k (nth_has on x.0 n b);
        there = sym (landed_at s k c l N.opens L x.0 x.1) ∙ eqb-true (get_or l x.0 0) j x.2;
      }))

  landed_others : others_in l c k ≡ neighbours_at s k
  unfolding others_in neighbours_in neighbours word_in
  landed_others =
      let v : ℕ = cells_in (size_in s) Kind.area in
      count_stays (counted l k c) v 2049 (omega (arith, areas_most s N.opens))
      (λ x h b.
      not_both (not (eqb (suc x) k)) (among l k c (suc x))
      (λ d t.
      let y = any_has (λ z. eqb (get_or l z 0) (suc x)) c t in
      omega (arith, landed_range s k c l N.opens L y.0 y.1, eqb-true (get_or l y.0 0) (suc x) y.2)))
      ∙ count_same (counted l k c) (λ i. not (eqb (suc i) k) && is_across (number (seen square (word_in s))) (mate_in (word_in s)) (bits_a (size_in s)) k (suc i)) v
      (λ i h. ap (λ t. not (eqb (suc i) k) && t) (sym (among_across (suc i))))

-- in a list with room for them, cut where they end
module _ (s l : List ℕ) (a : Area) (c : ℕ) (L : Landed s a.0 c l) (N : Numbered s (Cell.Area a)) (h : 4096 ≤ length l) where
  cut : Landed s a.0 c (take c l)
  cut = record { count = L.count; each = λ i b. get_or-take c l i 0 b ∙ L.each i b }

  long : length (take c l) ≡ c
  long = sym (landed_long s l a c L N h)

  pub countable_all : Countable (take c l) (length (take c l)) a.0
  countable_all = countable s (take c l) a c cut N long

  pub counted_all : (r : ℕ) → r ≡ others_in (take c l) (length (take c l)) a.0 → r ≡ neighbours_at s a.0
  counted_all r e = e ∙ ap (λ n. others_in (take c l) n a.0) long ∙ landed_others s (take c l) a c cut N
