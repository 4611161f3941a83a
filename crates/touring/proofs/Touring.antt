-- The tour, end by end, and which places are second.
--
-- crossed_marked, crossed_below, crossed_not == the end across a marked border, or the end itself
-- Touring D old h p w == the first p ends of the tour stand in w, and h is the next
-- touring_..       == from one end to the next, and at the end
-- Telling places old p w == of the first p positions w says which are second, and the last third which borders were met
-- telling_..       == from one position to the next, and at the end
-- Assumes nothing.
use mathlib.Core.Path.{◌≡◌, refl, sym, ap, ◌∙◌}
use mathlib.Core.Logic.{inl, inr}
use mathlib.Core.Bool.{Bool, false, ◌||◌}
use mathlib.Core.List.{List}
use Prim.Native.Nat.{ℕ, ◌+◌, ◌*◌, ◌/◌, ◌<◌, ◌≤◌}
use native.Mathlib.Numerals.{add-one}
use native.Mathlib.Omega.{arith}
use borrow.Author.Tests.{eq-eqb, ne_eqb}
use lib.Dec.{eqb}
use lib.ListN.{length, get_or, set, length-set}
use lib.Seq.{get_or-set_same, get_or-set_other}
use mir.Syntax.{w16, w64}
use mir.Val.{Fits}
use Rattle.count.specs.Below.{any, pick}
use Rattle.count.proofs.Logic.{same_or_not, either_left}
use Rattle.drawing.specs.Drawing.{Drawing, borders, ends, border, other, turn, is_marked, over, walk, end_at, lent}
use Rattle.drawing.specs.Checks.{LengthsFit, InRange}
use Rattle.drawing.proofs.Ends.{other_below, over_yes, over_no, end_zero, end_after}
use Rattle.lending.specs.Lists.{Outside}
use Rattle.lending.proofs.Outside.{outside_none, outside_set}
use Rattle.touring.specs.Working.{Tours, Clean, Noted, tour_in, border_in, met, is_met}

-- ---- border_in
pub border_is : (w : List ℕ) (p x : ℕ) → x ≡ get_or w p 0 → x / 2 ≡ border_in w p
unfolding border
border_is w p x e = ap (λ y. y / 2) e

-- ---- crossed
module _ (ms : List ℕ) (h : ℕ) where
  abbrev Over : ℕ → Type 0
  Over r = (ts : List ℕ) (s : ℕ) → r ≡ over (is_marked (lent ts ms s)) h

  pub crossed_marked : get_or ms (h / 2) 0 ≡ 1 → (o : ℕ) → o ≡ other h → Over o
  unfolding is_marked border
  crossed_marked m o e ts s = e ∙ sym (over_yes (is_marked (lent ts ms s)) h (eq-eqb (get_or ms (h / 2) 0) 1 m))

  pub crossed_below : h < 2 * length ms → (o : ℕ) → o ≡ other h → o < 2 * length ms
  crossed_below l o e = rw e (other_below (length ms) h l)

  pub crossed_not : (get_or ms (h / 2) 0 ≡ 1 → ⊥) → Over h
  unfolding is_marked border
  crossed_not n ts s = sym (over_no (is_marked (lent ts ms s)) h (ne_eqb (get_or ms (h / 2) 0) 1 n))

-- ---- tour
pub record Touring (D : Drawing) (old : List ℕ) (h p : ℕ) (w : List ℕ) : Type 0 where
  pub within : p ≤ length D.turning
  pub room : length D.turning ≤ length w
  pub an_end : 0 < length D.turning → h < length D.turning
  pub is : h ≡ end_at D p
  pub so_far : (q : ℕ) → q < p → get_or w q 0 ≡ end_at D q
  pub outside : Outside 0 (length D.turning) old w

module _ (ts ms : List ℕ) (s : ℕ) (F : LengthsFit (lent ts ms s)) where
  pub touring_entry : (r : ℕ) → r < 2 * length ms → r < length ts
  touring_entry r l = omega (arith, F.half)

module _ (ts ms : List ℕ) (s : ℕ) (F : LengthsFit (lent ts ms s)) (I : InRange (lent ts ms s)) (old : List ℕ) where
  pub touring_narrow : Fits w16 s
  unfolding ends borders
  touring_narrow = record { fits = omega (arith, I.start, F.half, F.most) }

  pub touring_start : length ts ≤ length old → Touring (lent ts ms s) old s 0 old
  unfolding ends borders
  touring_start l =
      record {
        within = omega arith;
        room = l;
        an_end = λ b. omega (arith, I.start, F.half);
        is = sym (end_zero (lent ts ms s));
        so_far = λ q k. absurd (omega arith);
        outside = outside_none 0 (length ts) old;
      }

  module _ (h p : ℕ) (w : List ℕ) (T : Touring (lent ts ms s) old h p w) where
    pub touring_end : p < length ts → h < 2 * length ms
    touring_end l = omega (arith, T.an_end (omega arith), F.half)

    pub touring_more : p < length ts → (r : ℕ) → ((ts : List ℕ) (s : ℕ) → r ≡ over (is_marked (lent ts ms s)) h) × (r < 2 * length ms)
        → Touring (lent ts ms s) old (get_or ts r 0) (p + 1) (set w p h)
    unfolding ends borders turn walk
    touring_more l r c =
        let b : r < length ts = omega (arith, c.1, F.half) in
        record {
          within = omega arith;
          room = omega (arith, length-set w p h, T.room);
          an_end = λ z. omega (arith, I.entries r c.1, F.half);
          is =
              ap (λ i. get_or ts i 0) (c.0 ts s ∙ ap (over (is_marked (lent ts ms s))) T.is)
              ∙ sym (end_after (lent ts ms s) p);
          so_far = λ q k.
              elim (same_or_not q p) [
                | inl d ↦ rw d (get_or-set_same w p h 0 (omega (arith, T.room)) ∙ T.is)
                | inr n ↦ get_or-set_other w p q h 0 n ∙ T.so_far q (omega arith)
              ];
          outside = outside_set 0 (length ts) old w p h T.outside (omega arith) l;
        }

    pub touring_all : length ts ≤ p → Tours (lent ts ms s) w
    unfolding ends borders
    touring_all l = record { at = λ q k. T.so_far q (omega (arith, F.half)) }

    pub touring_outside : Outside 0 (length ts) old w
    touring_outside = T.outside

-- ---- seconds
pub record Telling (places : ℕ) (old : List ℕ) (p : ℕ) (w : List ℕ) : Type 0 where
  pub within : p ≤ places
  pub room : 3 * places ≤ length w
  pub so_far : (q : ℕ) → q < p → get_or w (places + q) 0 ≡ pick (met (tour_in old) q) 1 0
  pub flags : (e : ℕ) → e < places → get_or w (2 * places + e) 0 ≡ pick (any (λ q. eqb (border_in old q) e) p) 1 0
  pub outside : Outside places (3 * places) old w

any_zero : (P : ℕ → Bool) → any P 0 ≡ false
unfolding any
any_zero P = refl

any_more : (P : ℕ → Bool) (p : ℕ) → any P (p + 1) ≡ P p || any P p
unfolding any
any_more P p = rw (add-one p)

module _ (places : ℕ) (old : List ℕ) (C : Clean places old) where
  pub telling_start : Telling places old 0 old
  telling_start =
      record {
        within = omega arith;
        room = C.ends.room;
        so_far = λ q l. absurd (omega arith);
        flags = λ e l. C.zero e l ∙ sym (ap (λ t. pick t 1 0) (any_zero (λ q. eqb (border_in old q) e)));
        outside = outside_none places (3 * places) old;
      }

  module _ (p : ℕ) (w : List ℕ) (T : Telling places old p w) where
    pub telling_all : places ≤ p → Noted places old w
    unfolding is_met
    telling_all l =
        let d : p ≡ places = omega (arith, T.within) in
        record {
          second = λ q k. T.so_far q (omega arith);
          flags = λ e k. T.flags e k ∙ ap (λ x. pick (any (λ q. eqb (border_in old q) e) x) 1 0) d;
          outside = T.outside;
        }

    module _ (l : p < places) where
      pub telling_here : p < length w
      telling_here = omega (arith, T.room)

      pub telling_place : places + p < length w
      telling_place = omega (arith, T.room)

      module _ (e : ℕ) (q : e ≡ border_in w p) where
        -- the border that was read is the tour's
        is_met_lem : e ≡ border_in old p
        is_met_lem = q ∙ ap border (T.outside.before p l)

        pub telling_border : e < places
        unfolding border
        telling_border = omega (arith, is_met_lem, C.ends.below p l)

        pub telling_flag : 2 * places + e < length w
        telling_flag = omega (arith, telling_border, T.room)

        pub telling_sum : Fits w64 (2 * places + e)
        telling_sum = record { fits = omega (arith, telling_border, C.ends.small) }

        pub telling_scaled : Fits w64 ((2 * places + e) * 2)
        telling_scaled = record { fits = omega (arith, telling_border, C.ends.small) }

        pub telling_stored : (v : ℕ) → 2 * places + e < length (set w (places + p) v)
        telling_stored v = omega (arith, telling_flag, length-set w (places + p) v)

        pub telling_more : Telling places old (p + 1) (set (set w (places + p) (get_or w (2 * places + e) 0)) (2 * places + e) 1)
        unfolding met
        telling_more =
            let v = get_or w (2 * places + e) 0 in
            let u = set w (places + p) v in
            record {
              within = omega arith;
              room = omega (arith, T.room, length-set w (places + p) v, length-set u (2 * places + e) 1);
              so_far = λ i h.
                  get_or-set_other u (2 * places + e) (places + i) 1 0 (omega arith)
                  ∙ elim (same_or_not i p) [
                    | inl d ↦
                        ap (λ x. get_or u (places + x) 0) d
                        ∙ get_or-set_same w (places + p) v 0 telling_place
                        ∙ T.flags e telling_border
                        ∙ rw (is_met_lem, d)
                    | inr d ↦ get_or-set_other w (places + p) (places + i) v 0 (omega arith) ∙ T.so_far i (omega arith)
                  ];
              flags = λ f h.
                  let P : ℕ → Bool = λ q. eqb (border_in old q) f in
                  elim (same_or_not f e) [
                    | inl d ↦
                        ap (λ x. get_or (set u (2 * places + e) 1) (2 * places + x) 0) d
                        ∙ get_or-set_same u (2 * places + e) 1 0 (telling_stored v)
                        ∙ sym
                        (ap (λ t. pick t 1 0)
                        (any_more P p ∙ either_left (P p) (any P p) (eq-eqb (border_in old p) f (sym (d ∙ is_met_lem)))))
                    | inr d ↦
                        get_or-set_other u (2 * places + e) (2 * places + f) 1 0 (omega arith)
                        ∙ get_or-set_other w (places + p) (2 * places + f) v 0 (omega arith)
                        ∙ T.flags f h
                        ∙ sym
                        (ap (λ t. pick t 1 0)
                        (any_more P p ∙ ap (λ t. t || any P p) (ne_eqb (border_in old p) f (λ x. d (sym (is_met_lem ∙ x))))))
                  ];
              outside =
                  outside_set places (3 * places) old u (2 * places + e) 1
                  (outside_set places (3 * places) old w (places + p) v T.outside (omega arith) (omega arith))
                  (omega arith)
                  (omega (arith, telling_border));
            }
