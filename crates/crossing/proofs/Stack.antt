-- The stack in the working list, from one position of the tour to the next.
--
-- Nesting ms old p k w  == w is the chart `old` but for its last third, whose first k entries are the stack at position p
-- nesting_..            == what is in range there, from one position to the next, and what is found
-- Assumes nothing.
use mathlib.Core.Path.{◌≡◌, refl, sym, ap, ◌∙◌}
use mathlib.Core.Logic.{◌≢◌, inl, inr}
use mathlib.Core.Bool.{Bool, true}
use mathlib.Core.List.{List, [], ◌∷◌}
use Rattle.std.specs.Prelude.{Some}
use Prim.Native.Nat.{ℕ, ◌+◌, ◌-◌, ◌*◌, ◌<◌, ◌≤◌, min, max}
use native.Mathlib.Omega.{arith}
use borrow.Author.Rules.{rules}
use borrow.Author.Tests.{eq-eqb, eqb-true}
use lib.Dec.{eqb}
use lib.ListN.{length, get_or, set}
use lib.Seq.{get_or-set_same, get_or-set_other}
use mir.Syntax.{w16, w64}
use mir.Val.{Fits}
use Rattle.count.specs.Below.{any, pick}
use Rattle.count.proofs.Logic.{true_or_false}
use Rattle.count.proofs.Below.{any_has, any_from}
use Rattle.drawing.specs.Drawing.{border}
use Rattle.drawing.specs.Checks.{Tour, smaller_first, crossing_in}
use Rattle.drawing.proofs.Ends.{border_below}
use Rattle.drawing.proofs.Crossing.{Lowest, crosses_none, crossing_in_is, crossing_in_none}
use Rattle.lending.specs.Lists.{Outside}
use Rattle.lending.proofs.Outside.{outside_none, outside_set}
use Rattle.touring.specs.Working.{Charted, tour_in, border_in, met}
use Rattle.crossing.specs.Finding.{found_means, chart_tour, Stands, Above, place_in}
use Rattle.crossing.proofs.Nests.{Stacked, stacked_start, stacked_skip, stacked_push, stacked_pop, stacked_none, stacked_there, stacked_lowest}

-- ---- find_crossing
abbrev pub double : List ℕ → ℕ
double ms = 2 * length ms

pub record Nesting (ms old : List ℕ) (p k : ℕ) (w : List ℕ) : Type 0 where
  pub outside : Outside (2 * double ms) (3 * double ms) old w
  pub stack : Stacked ms (double ms) (tour_in old) p k (place_in (double ms) w)

module _ (ms old : List ℕ) (C : Charted (double ms) old) where
  pub nesting_start : Nesting ms old 0 0 old
  nesting_start =
      record {
        outside = outside_none (2 * double ms) (3 * double ms) old;
        stack = stacked_start ms (double ms) (tour_in old) (place_in (double ms) old);
      }

  module _ (p k : ℕ) (w : List ℕ) (N : Nesting ms old p k w) where
    abbrev places : ℕ
    places = double ms

    pub nesting_length : length w ≡ length old
    nesting_length = N.outside.same_length

    pub nesting_outside : Outside (2 * double ms) (3 * double ms) old w
    nesting_outside = N.outside

    pub nesting_none : places ≤ p → [] ≡ crossing_in (chart_tour ms old)
    nesting_none l =
        let T : Tour = chart_tour ms old in
        sym (crossing_in_none T (crosses_none T (stacked_none ms places (tour_in old) C.once p k (place_in places w) N.stack l)))

    -- what is read of the first two thirds is as it was
    same_read : (i : ℕ) → i < 2 * places → get_or w i 0 ≡ get_or old i 0
    same_read i l = N.outside.before i l

    place_below : (i : ℕ) → i < k → place_in places w i < p
    place_below i l = (N.stack.opened i l).before

    same_border : (i : ℕ) → i < k → border_in w (place_in places w i) ≡ border (tour_in old (place_in places w i))
    same_border i l = ap border (same_read (place_in places w i) (omega (arith, place_below i l, N.stack.within)))

    pub nesting_place : (i : ℕ) → i < k → place_in places w i < length w
    nesting_place i l = omega (arith, place_below i l, N.stack.within, C.room, nesting_length)

    module _ (l : p < places) where
      pub nesting_here : p < length w
      nesting_here = omega (arith, C.room, nesting_length)

      pub nesting_flag : places + p < length w
      nesting_flag = omega (arith, C.room, nesting_length)

      pub nesting_top : 2 * places + k < length w
      nesting_top = omega (arith, C.room, nesting_length, N.stack.fits)

      pub nesting_sum : Fits w64 (places + p)
      nesting_sum = record { fits = omega (arith, C.small) }

      pub nesting_scaled : Fits w64 ((places + p) * 2)
      nesting_scaled = record { fits = omega (arith, C.small) }

      pub nesting_top_sum : Fits w64 (2 * places + k)
      nesting_top_sum = record { fits = omega (arith, C.small, N.stack.fits) }

      pub nesting_top_scaled : Fits w64 ((2 * places + k) * 2)
      nesting_top_scaled = record { fits = omega (arith, C.small, N.stack.fits) }

      pub nesting_narrow : Fits w16 p
      nesting_narrow = record { fits = omega (arith, C.small) }

      pub nesting_height : Fits w64 (k + 1)
      nesting_height = record { fits = omega (arith, C.small, N.stack.fits) }

      module _ (e : ℕ) (q : e ≡ border_in w p) where
        is_border : e ≡ border (tour_in old p)
        is_border = q ∙ ap border (same_read p (omega arith))

        pub nesting_border : e < length ms
        nesting_border = rw is_border (border_below (length ms) (tour_in old p) (C.once.below p l))

        pub nesting_skip : (get_or ms e 0 ≡ 1) → (j : ℕ) (v : List ℕ) → j ≡ k → v ≡ w → Nesting ms old (p + 1) j v
        nesting_skip m j v f g =
            rw (f, g)
            (record {
              outside = N.outside;
              stack =
                  stacked_skip ms places (tour_in old) p k (place_in places w) N.stack l (place_in places w) (λ i h. refl)
                  (ap (λ x. get_or ms x 0) (sym is_border) ∙ m);
            })

        module _ (u : get_or ms e 0 ≡ 1 → ⊥) where
          unmarked_here : get_or ms (border (tour_in old p)) 0 ≢ 1
          unmarked_here m = u (ap (λ x. get_or ms x 0) is_border ∙ m)

          pub nesting_push : get_or w (places + p) 0 ≡ 0 → (j : ℕ) (v : List ℕ) → j ≡ k + 1 → v ≡ set w (2 * places + k) p → Nesting ms old (p + 1) j v
          unfolding met
          nesting_push z j v f g =
              let b : 2 * places + k < 3 * places = omega (arith, N.stack.fits) in
              rw (f, g)
              (record {
                outside = outside_set (2 * places) (3 * places) old w (2 * places + k) p N.outside (omega arith) b;
                stack =
                    stacked_push ms places (tour_in old) p k (place_in places w) N.stack l unmarked_here (place_in places (set w (2 * places + k) p))
                    (λ i h. get_or-set_other w (2 * places + k) (2 * places + i) p 0 (omega arith))
                    (get_or-set_same w (2 * places + k) p 0 nesting_top)
                    (λ r h s.
                    let P : ℕ → Bool = λ x. eqb (border (tour_in old x)) (border (tour_in old p)) in
                    let t : any P p ≡ true = any_from P p r h (eq-eqb (border (tour_in old r)) (border (tour_in old p)) s) in
                    let o : get_or old (places + p) 0 ≡ 1 = C.second p l ∙ ap (λ x. pick x 1 0) t in
                    omega (arith, same_read (places + p) (omega arith)));
              })

          module _ (z : get_or w (places + p) 0 ≡ 0 → ⊥) where
            -- the border was met before
            first_place : (q : ℕ) × (q < p) × (border (tour_in old q) ≡ border (tour_in old p))
            unfolding met
            first_place =
                let P : ℕ → Bool = λ x. eqb (border (tour_in old x)) (border (tour_in old p)) in
                elim (true_or_false (any P p)) [
                  | inl t ↦
                      let r = any_has P p t in
                      (r.0, r.1, eqb-true (border (tour_in old r.0)) (border (tour_in old p)) r.2)
                  | inr f ↦ absurd (z (same_read (places + p) (omega arith) ∙ C.second p l ∙ ap (λ x. pick x 1 0) f))
                ]

            on_stack : (i : ℕ) × (i < k) × (place_in places w i ≡ first_place.0)
            on_stack =
                stacked_there ms places (tour_in old) C.once p k (place_in places w) N.stack l unmarked_here first_place.0 first_place.1 first_place.2

            pub nesting_some : 1 ≤ k
            nesting_some = omega (arith, on_stack.1)

            pub nesting_last : 2 * places + (k - 1) < length w
            nesting_last = omega (arith, nesting_top)

            pub nesting_last_place : get_or w (2 * places + (k - 1)) 0 < length w
            nesting_last_place = nesting_place (k - 1) (omega (arith, on_stack.1))

            module _ (r : ℕ) (h : r ≡ border_in w (get_or w (2 * places + (k - 1)) 0)) where
              last : k - 1 < k
              last = omega (arith, on_stack.1)

              pub nesting_pop : r ≡ e → (j : ℕ) (v : List ℕ) → j ≡ k - 1 → v ≡ w → Nesting ms old (p + 1) j v
              nesting_pop s j v f g =
                  rw (f, g)
                  (record {
                    outside = N.outside;
                    stack =
                        stacked_pop ms places (tour_in old) p k (place_in places w) N.stack l unmarked_here (k - 1) (omega (arith, on_stack.1))
                        (place_in places w) (λ i b. refl) (sym (same_border (k - 1) last) ∙ sym h ∙ s ∙ is_border);
                  })

              module _ (d : r ≡ e → ⊥) where
                pub nesting_stands : Stands places k e w
                nesting_stands =
                    let i : ℕ = on_stack.0 in
                    let at_i : border_in w (place_in places w i) ≡ e
                    = same_border i on_stack.1 ∙ ap (λ x. border (tour_in old x)) on_stack.2 ∙ first_place.2 ∙ sym is_border in
                    let not_last : i ≢ k - 1 = λ s. d (h ∙ ap (λ x. border_in w (place_in places w x)) (sym s) ∙ at_i) in
                    record {
                      room = omega (arith, nesting_top);
                      inside = nesting_place;
                      j = i;
                      not_top = omega (arith, on_stack.1);
                      is_there = at_i;
                    }

                pub nesting_found : (a : ℕ) → Above places k e w a → (x y : ℕ) → x ≡ min e a → y ≡ max e a
                    → found_means (Some (x, y)) ≡ crossing_in (chart_tour ms old)
                nesting_found a A x z f g =
                    let bj : A.j < k = omega (arith, A.not_top) in
                    let y : ℕ = place_in places w (A.j + 1) in
                    let up : a ≡ border (tour_in old y) = A.next ∙ same_border (A.j + 1) A.not_top in
                    let L : Lowest (chart_tour ms old) p y
                    = stacked_lowest ms places (tour_in old) C.once p k (place_in places w) N.stack l unmarked_here refl
                    A.j A.not_top (sym (same_border A.j bj) ∙ A.is_there ∙ is_border) in
                    ap (λ b. b ∷ z ∷ []) f ∙ ap (λ b. min e a ∷ b ∷ []) g
                    ∙ ap (λ x. smaller_first x a) is_border
                    ∙ ap (λ x. smaller_first (border (tour_in old p)) x) up
                    ∙ sym (crossing_in_is (chart_tour ms old) p y L)

pub ruleset some_all = (nesting_some, rules)
