-- Why a stack finds the first two borders that alternate.
--
-- Open ms t p q    == q is the one place before p of an unmarked border
-- Stacked ms places t p k st == the places open at p stand on the stack st of k, the latest on top, and whatever closed before p was on top
-- stacked_start, stacked_skip, stacked_push, stacked_pop == from one position to the next
-- stacked_none     == at the end no two unmarked borders alternate
-- stacked_there    == the first place of a border that closes is on the stack
-- stacked_lowest   == the first border that closes and is not on top, and the one above it, are the first pair that alternates
-- Assumes nothing.
use mathlib.Core.Path.{◌≡◌, sym, ap, ◌∙◌}
use mathlib.Core.Logic.{◌≢◌, inl, inr}
use mathlib.Core.Bool.{Bool, true, not}
use mathlib.Core.List.{List}
use Prim.Native.Nat.{ℕ, ◌+◌, ◌*◌, ◌<◌, ◌≤◌}
use native.Mathlib.Omega.{arith}
use lib.Dec.{eqb, ltb}
use lib.ListN.{length, get_or}
use borrow.Author.Tests.{ne_eqb, eqb-false, not-true, lt-ltb}
use Rattle.count.proofs.Logic.{same_or_not, lt_or_ge, both, both_right}
use Rattle.count.proofs.Below.{injective_onto}
use Rattle.orbits.specs.Cycles.{Permutes}
use Rattle.drawing.specs.Drawing.{border, other}
use Rattle.drawing.proofs.Ends.{other_below, other_border, other_moves, border_below, two_places}
use Rattle.drawing.proofs.Crossing.{AlternateAt, Lowest}
use Rattle.crossing.specs.Finding.{border_tour}

pub record Open (ms : List ℕ) (t : ℕ → ℕ) (p q : ℕ) : Type 0 where
  pub before : q < p
  pub unmarked : get_or ms (border (t q)) 0 ≢ 1
  pub only : (r : ℕ) → r < p → border (t r) ≡ border (t q) → r ≡ q

pub record Stacked (ms : List ℕ) (places : ℕ) (t : ℕ → ℕ) (p k : ℕ) (st : ℕ → ℕ) : Type 0 where
  pub within : p ≤ places
  pub fits : k ≤ p
  pub opened : (i : ℕ) → i < k → Open ms t p (st i)
  pub rising : (i j : ℕ) → i < j → j < k → st i < st j
  pub holds : (q : ℕ) → Open ms t p q → (i : ℕ) × (i < k) × (st i ≡ q)
  pub nests : (x y z : ℕ) → x < y → y < z → z < p → border (t x) ≡ border (t z) → get_or ms (border (t x)) 0 ≢ 1 → Open ms t z y → ⊥

module _ (ms : List ℕ) (places : ℕ) (t : ℕ → ℕ) where
  -- a place that is open stays so past a position of another border
  open_more : (p q : ℕ) → Open ms t p q → border (t p) ≢ border (t q) → Open ms t (p + 1) q
  open_more p q O d =
      record {
        before = omega (arith, O.before);
        unmarked = O.unmarked;
        only = λ r l e. elim (same_or_not r p) [
          | inl s ↦ absurd (d (ap (λ x. border (t x)) (sym s) ∙ e))
          | inr s ↦ O.only r (omega arith) e
        ];
      }

  open_less : (p q : ℕ) → Open ms t (p + 1) q → q ≢ p → Open ms t p q
  open_less p q O d =
      record { before = omega (arith, O.before); unmarked = O.unmarked; only = λ r l e. O.only r (omega arith) e }

  pub stacked_start : (st : ℕ → ℕ) → Stacked ms places t 0 0 st
  stacked_start st =
      record {
        within = omega arith;
        fits = omega arith;
        opened = λ i l. absurd (omega arith);
        rising = λ i j h l. absurd (omega arith);
        holds = λ q O. absurd (omega (arith, O.before));
        nests = λ x y z h k l e u O. omega arith;
      }

  module _ (p k : ℕ) (st : ℕ → ℕ) (S : Stacked ms places t p k st) (l : p < places) where
    pub stacked_skip : (st' : ℕ → ℕ) → ((i : ℕ) → i < k → st' i ≡ st i) → get_or ms (border (t p)) 0 ≡ 1 → Stacked ms places t (p + 1) k st'
    stacked_skip st' same m =
        -- the marked border is none of the unmarked ones
        let apart : (q : ℕ) → get_or ms (border (t q)) 0 ≢ 1 → border (t p) ≢ border (t q)
        = λ q u e. u (ap (λ x. get_or ms x 0) (sym e) ∙ m) in
        record {
          within = omega arith;
          fits = omega (arith, S.fits);
          opened = λ i h. rw (same i h) (open_more p (st i) (S.opened i h) (apart (st i) (S.opened i h).unmarked));
          rising = λ i j h b. omega (arith, S.rising i j h b, same i (omega arith), same j b);
          holds = λ q O.
              elim (same_or_not q p) [
                | inl e ↦ absurd (O.unmarked (ap (λ x. get_or ms (border (t x)) 0) e ∙ m))
                | inr d ↦ let r = S.holds q (open_less p q O d) in (r.0, r.1, same r.0 r.1 ∙ r.2)
              ];
          nests = λ x y z h b c e u O.
              elim (same_or_not z p) [
                | inl s ↦ apart x u (ap (λ i. border (t i)) (sym s) ∙ sym e)
                | inr d ↦ S.nests x y z h b (omega arith) e u O
              ];
        }

    module _ (u : get_or ms (border (t p)) 0 ≢ 1) where
      pub stacked_push : (st' : ℕ → ℕ) → ((i : ℕ) → i < k → st' i ≡ st i) → st' k ≡ p
          → ((r : ℕ) → r < p → border (t r) ≢ border (t p)) → Stacked ms places t (p + 1) (k + 1) st'
      stacked_push st' same top first =
          record {
            within = omega arith;
            fits = omega (arith, S.fits);
            opened = λ i h.
                elim (same_or_not i k) [
                  | inl e ↦
                      rw (e, top)
                      (record {
                        before = omega arith;
                        unmarked = u;
                        only = λ r b q. elim (same_or_not r p) [ inl s ↦ s | inr d ↦ absurd (first r (omega arith) q) ];
                      })
                  | inr d ↦
                      let b : i < k = omega arith in
                      let O = S.opened i b in
                      rw (same i b) (open_more p (st i) O (λ e. first (st i) O.before (sym e)))
                ];
            rising = λ i j h b.
                let bi : i < k = omega arith in
                elim (same_or_not j k) [
                  | inl e ↦ rw (e, top) (omega (arith, (S.opened i bi).before, same i bi))
                  | inr d ↦ let bj : j < k = omega arith in omega (arith, S.rising i j h bj, same i bi, same j bj)
                ];
            holds = λ q O.
                elim (same_or_not q p) [
                  | inl e ↦ (k, omega arith, top ∙ sym e)
                  | inr d ↦
                      let r = S.holds q (open_less p q O d) in
                      (r.0, omega (arith, r.1), same r.0 r.1 ∙ r.2)
                ];
            nests = λ x y z h b c e v O.
                elim (same_or_not z p) [
                  | inl s ↦ first x (omega arith) (e ∙ ap (λ i. border (t i)) s)
                  | inr d ↦ S.nests x y z h b (omega arith) e v O
                ];
          }

      module _ (j : ℕ) (jk : k ≡ j + 1) where
        pub stacked_pop : (st' : ℕ → ℕ) → ((i : ℕ) → i < k → st' i ≡ st i) → border (t (st j)) ≡ border (t p) → Stacked ms places t (p + 1) j st'
        stacked_pop st' same top =
            let bj : j < k = omega arith in
            let T = S.opened j bj in
            record {
              within = omega arith;
              fits = omega (arith, S.fits);
              opened = λ i h.
                  let bi : i < k = omega arith in
                  let O = S.opened i bi in
                  rw (same i bi)
                  (open_more p (st i) O
                  (λ e. let q : st j ≡ st i = O.only (st j) T.before (top ∙ e) in omega (arith, S.rising i j h bj)));
              rising = λ i q h b.
                  let bi : i < k = omega arith in
                  let bq : q < k = omega arith in
                  omega (arith, S.rising i q h bq, same i bi, same q bq);
              holds = λ q O.
                  elim (same_or_not q p) [
                    | inl e ↦
                        let s : st j ≡ q = O.only (st j) (omega (arith, T.before)) (top ∙ ap (λ x. border (t x)) (sym e)) in
                        absurd (omega (arith, T.before))
                    | inr d ↦
                        let r = S.holds q (open_less p q O d) in
                        elim (same_or_not r.0 j) [
                          | inl e ↦
                              let s : st j ≡ q = ap st (sym e) ∙ r.2 in
                              absurd (d (sym (O.only p (omega arith) (sym top ∙ ap (λ x. border (t x)) s))))
                          | inr f ↦ (r.0, omega (arith, r.1), same r.0 r.1 ∙ r.2)
                        ]
                  ];
              nests = λ x y z h b c e v O.
                  elim (same_or_not z p) [
                    | inl s ↦
                        let q : ℕ = st j in
                        let O' : Open ms t p y = rw s at O in
                        let r = S.holds y O' in
                        let a : x ≡ st j = T.only x (omega arith) (e ∙ ap (λ i. border (t i)) s ∙ sym top) in
                        elim (same_or_not r.0 j) [
                          | inl f ↦ let w : st j ≡ y = ap st (sym f) ∙ r.2 in omega arith
                          | inr f ↦ omega (arith, S.rising r.0 j (omega (arith, r.1)) bj, r.2)
                        ]
                    | inr d ↦ S.nests x y z h b (omega arith) e v O
                  ];
            }

  unmarked_from : (e : ℕ) → (border_tour ms places t).unmarked e ≡ true → get_or ms e 0 ≢ 1
  unmarked_from e u =
      let m : Bool = eqb (get_or ms e 0) 1 in
      eqb-false (get_or ms e 0) 1 (not-true m (both_right (ltb e (length ms)) (not m) u))

  unmarked_to : (e : ℕ) → e < length ms → get_or ms e 0 ≢ 1 → (border_tour ms places t).unmarked e ≡ true
  unmarked_to e l d =
      both (ltb e (length ms)) (not (eqb (get_or ms e 0) 1)) (lt-ltb e (length ms) l) (ap not (ne_eqb (get_or ms e 0) 1 d))

  module _ (P : Permutes places t) where
    -- b of a pair a, b, a, b is open where a comes again
    alternates_open : (r q : ℕ) → q < r → AlternateAt (border_tour ms places t) r q → Open ms t r q
    alternates_open r q l X =
        record {
          before = l;
          unmarked = unmarked_from (border (t q)) X.b_unmarked;
          only = λ x h e.
              two_places places t P x q X.s (omega (arith, X.r_s, X.s_end)) (omega (arith, X.r_s, X.s_end)) X.s_end
              (e ∙ sym X.at_s)
              (sym X.at_s)
              (omega (arith, X.r_s))
              (omega (arith, X.r_s));
        }

    module _ (p k : ℕ) (st : ℕ → ℕ) (S : Stacked ms places t p k st) where
      stacked_quiet : (r q : ℕ) → q < r → AlternateAt (border_tour ms places t) r q → r < p → ⊥
      stacked_quiet r q l X b =
          S.nests X.p q r X.p_q l b X.at_p
          (λ m. unmarked_from (border (t r)) X.a_unmarked (ap (λ e. get_or ms e 0) (sym X.at_p) ∙ m))
          (alternates_open r q l X)

      pub stacked_none : places ≤ p → (r q : ℕ) → q < r → AlternateAt (border_tour ms places t) r q → ⊥
      stacked_none g r q l X = stacked_quiet r q l X (omega (arith, X.r_s, X.s_end))

      module _ (l : p < places) (u : get_or ms (border (t p)) 0 ≢ 1) where
        module _ (q : ℕ) (h : q < p) (e : border (t q) ≡ border (t p)) where
          stacked_open : Open ms t p q
          stacked_open =
              record {
                before = h;
                unmarked = λ m. u (ap (λ i. get_or ms i 0) (sym e) ∙ m);
                only = λ r b f. two_places places t P r q p (omega arith) (omega arith) l (f ∙ e) e (omega arith) (omega arith);
              }

          pub stacked_there : (i : ℕ) × (i < k) × (st i ≡ q)
          stacked_there = S.holds q stacked_open

        module _ (even : places ≡ 2 * length ms) (i : ℕ) (b : i + 1 < k) (e : border (t (st i)) ≡ border (t p)) where
          bi : i < k
          bi = omega arith

          stacked_alternates : AlternateAt (border_tour ms places t) p (st (i + 1))
          stacked_alternates =
              let q : ℕ = st i in
              let y : ℕ = st (i + 1) in
              let O : Open ms t p q = S.opened i bi in
              let Y : Open ms t p y = S.opened (i + 1) b in
              let up : q < y = S.rising i (i + 1) (omega arith) b in
              let by : y < places = omega (arith, Y.before) in
              -- they are two borders
              let two : border (t p) ≢ border (t y)
              = λ f. (let s : y ≡ q = O.only y Y.before (sym f ∙ sym e) in omega arith) in
              -- the other place of the border above
              let there : t y < 2 * length ms = omega (arith, P.below y by) in
              let other_there : other (t y) < places = rw even (other_below (length ms) (t y) there) in
              let s = injective_onto t places P.below P.injective (other (t y)) other_there in
              let same : border (t s.0) ≡ border (t y) = ap border s.2 ∙ other_border (t y) in
              let away : s.0 ≢ y = λ f. other_moves (t y) (sym s.2 ∙ ap t f) in
              let late : p ≤ s.0 =
              elim (lt_or_ge s.0 p) [ inl h ↦ absurd (away (Y.only s.0 h same)) | inr g ↦ g ] in
              let not_here : s.0 ≢ p = λ f. two (ap (λ x. border (t x)) (sym f) ∙ same) in
              record {
                a_unmarked = unmarked_to (border (t p)) (border_below (length ms) (t p) (omega (arith, P.below p l))) u;
                b_unmarked = unmarked_to (border (t y)) (border_below (length ms) (t y) there) Y.unmarked;
                two = two;
                p = q;
                s = s.0;
                p_q = up;
                r_s = omega arith;
                s_end = s.1;
                at_p = e;
                at_s = same;
              }

          -- every b that alternates with the border at p stands on the stack, above it
          stacked_least : (y : ℕ) → y < p → AlternateAt (border_tour ms places t) p y → st (i + 1) ≤ y
          stacked_least y h X =
              let j = S.holds y (alternates_open p y h X) in
              let first : X.p ≡ st i
              = (S.opened i bi).only X.p (omega (arith, X.p_q)) (X.at_p ∙ sym e) in
              elim (lt_or_ge i j.0) [
                | inl above ↦
                    elim (same_or_not (i + 1) j.0) [
                      | inl s ↦ omega (arith, ap st s, j.2)
                      | inr d ↦ omega (arith, S.rising (i + 1) j.0 (omega arith) j.1, j.2)
                    ]
                | inr g ↦
                    elim (same_or_not j.0 i) [
                      | inl s ↦ absurd (omega (arith, ap st s, j.2, X.p_q))
                      | inr d ↦ absurd (omega (arith, S.rising j.0 i (omega arith) bi, j.2, X.p_q))
                    ]
              ]

          pub stacked_lowest : Lowest (border_tour ms places t) p (st (i + 1))
          stacked_lowest =
              record {
                before = (S.opened (i + 1) b).before;
                alternates = stacked_alternates;
                least_r = λ x y h X. elim (lt_or_ge x p) [ inl c ↦ absurd (stacked_quiet x y h X c) | inr g ↦ g ];
                least_q = stacked_least;
              }
