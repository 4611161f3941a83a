-- Check 7: the test decides that two unmarked borders alternate in the tour, and the search finds the first that do.
--
-- AlternateAt T r q    == two unmarked borders stand as a, b, a, b in T, the second a at r and the first b at q
-- alternate_decides    == `alternate_at` decides it
-- crossed_by           == so the border at r is crossed
-- crosses_by, crosses_none == so the test holds, and where no two alternate it fails
-- Lowest T r q         == they stand so, r is the lowest position for which some do, and q the lowest for r
-- search_found         == the search finds such positions where the test holds
-- crossing_in_is, crossing_in_none == so the borders at such positions are what it gives, and nothing where the test fails
-- Alike T U, crossing_in_same == it depends only on the borders at the places of the tour, and which are unmarked
-- crosses_decides      == `crosses` decides that some two unmarked borders alternate
-- no_crossing, some_crossing == where it says no, nothing is found, else two numbers
-- first_crossing_lem       == the search finds the pair of lowest places exactly if some two alternate, and there is no other such pair
-- Assumes nothing.
use mathlib.Core.Path.{◌≡◌, refl, sym, ap, ◌∙◌, subst}
use mathlib.Core.Logic.{◌≢◌, inl, inr}
use mathlib.Core.Bool.{Bool, true, false, not, ◌&&◌}
use mathlib.Core.List.{List, []}
use Prim.Native.Nat.{ℕ, ◌≤◌, ◌<◌}
use native.Mathlib.Omega.{arith}
use borrow.Author.Tests.{not-true, ltb-true, lt-ltb}
use lib.Dec.{eqb, ltb}
use lib.ListN.{length}
use Rattle.count.specs.Below.{Decides, find}
use Rattle.count.proofs.Logic.{true_or_false, true_not_false, both, both_left, both_right, pick_yes, pick_no}
use Rattle.count.proofs.Search.{find_has, find_at_most, any_has, any_from}
use Rattle.count.proofs.Decides.{decides_eq, decides_lt, decides_not, decides_both, decides_any, decides_as}
use Rattle.drawing.specs.Drawing.{Drawing, borders, border, is_marked, end_at}
use Rattle.drawing.specs.Checks.{Alternate, Crossing, Tour, tour_of, alternate_at, crossed_at, second_a, first_b, smaller_first, crosses_in, crossing_in, crosses, first_crossing, FirstCrossing, FindsFirst, Flat}

-- ---- along any tour
pub record AlternateAt (T : Tour) (r q : ℕ) : Type 0 where
  pub a_unmarked : T.unmarked (T.at r) ≡ true
  pub b_unmarked : T.unmarked (T.at q) ≡ true
  pub two : T.at r ≢ T.at q
  pub p : ℕ
  pub s : ℕ
  pub p_q : p < q
  pub r_s : r < s
  pub s_end : s < T.size
  pub at_p : T.at p ≡ T.at r
  pub at_s : T.at s ≡ T.at q

decides_itself : (t : Bool) → Decides t (t ≡ true)
decides_itself t = record { sound = λ e. e; complete = λ e. e }

module _ (T : Tour) where
  pub alternate_decides : (r q : ℕ) → Decides (alternate_at T r q) (AlternateAt T r q)
  unfolding alternate_at
  alternate_decides r q =
      decides_as
      (λ t. record {
        a_unmarked = t.0.0.0.0;
        b_unmarked = t.0.0.0.1;
        two = t.0.0.1;
        p = t.0.1.0;
        s = t.1.0;
        p_q = t.0.1.1;
        r_s = t.1.2.0;
        s_end = t.1.1;
        at_p = t.0.1.2;
        at_s = t.1.2.1;
      })
      (λ X. (
        (((X.a_unmarked, X.b_unmarked), X.two), (X.p, X.p_q, X.at_p)),
        (X.s, X.s_end, (X.r_s, X.at_s)),
      ))
      (decides_both
      (decides_both
      (decides_both
      (decides_both (decides_itself (T.unmarked (T.at r))) (decides_itself (T.unmarked (T.at q))))
      (decides_not (decides_eq (T.at r) (T.at q))))
      (decides_any (λ p. eqb (T.at p) (T.at r)) (λ p. T.at p ≡ T.at r) q (λ p l. decides_eq (T.at p) (T.at r))))
      (decides_any (λ s. ltb r s && eqb (T.at s) (T.at q)) (λ s. (r < s) × (T.at s ≡ T.at q)) T.size
      (λ s l. decides_both (decides_lt r s) (decides_eq (T.at s) (T.at q)))))

  pub crossed_by : (r q : ℕ) → q < r → AlternateAt T r q → crossed_at T r ≡ true
  unfolding crossed_at
  crossed_by r q l X = any_from (alternate_at T r) r q l ((alternate_decides r q).complete X)

  crossed_has : (r : ℕ) → crossed_at T r ≡ true → (q : ℕ) × (q < r) × AlternateAt T r q
  unfolding crossed_at
  crossed_has r h = let x = any_has (alternate_at T r) r h in (x.0, x.1, (alternate_decides r x.0).sound x.2)

  pub crosses_by : (r q : ℕ) → q < r → AlternateAt T r q → crosses_in T ≡ true
  unfolding crosses_in
  crosses_by r q l X = any_from (crossed_at T) T.size r (omega (arith, X.r_s, X.s_end)) (crossed_by r q l X)

  -- where some position is crossed, the lowest one, and the lowest q for it
  pub record Lowest (r q : ℕ) : Type 0 where
    pub before : q < r
    pub alternates : AlternateAt T r q
    pub least_r : (x y : ℕ) → y < x → AlternateAt T x y → r ≤ x
    pub least_q : (y : ℕ) → y < r → AlternateAt T r y → q ≤ y

  pub search_found : crosses_in T ≡ true → Lowest (second_a T) (first_b T)
  unfolding crosses_in second_a first_b
  search_found h =
      let x = any_has (crossed_at T) T.size h in
      let l : find (crossed_at T) T.size < T.size = omega (arith, x.1, find_at_most (crossed_at T) T.size x.0 x.1 x.2) in
      let r : ℕ = find (crossed_at T) T.size in
      let y = crossed_has r (find_has (crossed_at T) T.size l) in
      let k : find (alternate_at T r) r < r
      = omega (arith, y.1, find_at_most (alternate_at T r) r y.0 y.1 ((alternate_decides r y.0).complete y.2)) in
      record {
        before = k;
        alternates = (alternate_decides r (find (alternate_at T r) r)).sound (find_has (alternate_at T r) r k);
        least_r = λ x y b X. find_at_most (crossed_at T) T.size x (omega (arith, X.r_s, X.s_end)) (crossed_by x y b X);
        least_q = λ y b X. find_at_most (alternate_at T r) r y b ((alternate_decides r y).complete X);
      }

  -- two positions with the least properties are what is found
  pub crossing_in_is : (r q : ℕ) → Lowest r q → crossing_in T ≡ smaller_first (T.at r) (T.at q)
  unfolding crossing_in
  crossing_in_is r q L =
      let h : crosses_in T ≡ true = crosses_by r q L.before L.alternates in
      let F : Lowest (second_a T) (first_b T) = search_found h in
      let er : second_a T ≡ r
      = omega (arith, F.least_r r q L.before L.alternates, L.least_r (second_a T) (first_b T) F.before F.alternates) in
      let eq : first_b T ≡ q
      = omega (
        arith,
        F.least_q q (omega (arith, er, L.before)) (subst (λ x. AlternateAt T x q) (sym er) L.alternates),
        L.least_q (first_b T) (omega (arith, er, F.before)) (subst (λ x. AlternateAt T x (first_b T)) er F.alternates),
      ) in
      pick_yes (crosses_in T) (smaller_first (T.at (second_a T)) (T.at (first_b T))) [] h
      ∙ ap (λ x. smaller_first (T.at x) (T.at (first_b T))) er
      ∙ ap (λ y. smaller_first (T.at r) (T.at y)) eq

  pub crosses_none : ((r q : ℕ) → q < r → AlternateAt T r q → ⊥) → crosses_in T ≡ false
  crosses_none none =
      elim (true_or_false (crosses_in T)) [
        | inl h ↦ let F = search_found h in absurd (none (second_a T) (first_b T) F.before F.alternates)
        | inr f ↦ f
      ]

  pub crossing_in_none : crosses_in T ≡ false → crossing_in T ≡ []
  unfolding crossing_in
  crossing_in_none f = pick_no (crosses_in T) (smaller_first (T.at (second_a T)) (T.at (first_b T))) [] f

-- ---- tours alike
pub record Alike (T U : Tour) : Type 0 where
  pub size : T.size ≡ U.size
  pub at : (p : ℕ) → p < T.size → T.at p ≡ U.at p
  pub unmarked : (e : ℕ) → T.unmarked e ≡ U.unmarked e

alike_back : (T U : Tour) → Alike T U → Alike U T
alike_back T U A =
    record {
      size = sym A.size;
      at = λ p l. sym (A.at p (omega (arith, A.size)));
      unmarked = λ e. sym (A.unmarked e);
    }

module _ (T U : Tour) (A : Alike T U) where
  alternates_alike : (r q : ℕ) → q < r → AlternateAt T r q → AlternateAt U r q
  alternates_alike r q l X =
      let at_r : T.at r ≡ U.at r = A.at r (omega (arith, X.r_s, X.s_end)) in
      let at_q : T.at q ≡ U.at q = A.at q (omega (arith, X.r_s, X.s_end)) in
      record {
        a_unmarked = ap U.unmarked (sym at_r) ∙ sym (A.unmarked (T.at r)) ∙ X.a_unmarked;
        b_unmarked = ap U.unmarked (sym at_q) ∙ sym (A.unmarked (T.at q)) ∙ X.b_unmarked;
        two = λ e. X.two (at_r ∙ e ∙ sym at_q);
        p = X.p;
        s = X.s;
        p_q = X.p_q;
        r_s = X.r_s;
        s_end = omega (arith, X.s_end, A.size);
        at_p = sym (A.at X.p (omega (arith, X.p_q, X.r_s, X.s_end))) ∙ X.at_p ∙ at_r;
        at_s = sym (A.at X.s X.s_end) ∙ X.at_s ∙ at_q;
      }

pub crossing_in_same : (T U : Tour) → Alike T U → crossing_in T ≡ crossing_in U
crossing_in_same T U A =
    let B : Alike U T = alike_back T U A in
    elim (true_or_false (crosses_in T)) [
      | inl h ↦
          let r : ℕ = second_a T in
          let q : ℕ = first_b T in
          let F : Lowest T r q = search_found T h in
          let X : AlternateAt T r q = F.alternates in
          let G : Lowest U r q =
          record {
            before = F.before;
            alternates = alternates_alike T U A r q F.before X;
            least_r = λ x y l Y. F.least_r x y l (alternates_alike U T B x y l Y);
            least_q = λ y l Y. F.least_q y l (alternates_alike U T B r y l Y);
          } in
          crossing_in_is T r q F
          ∙ ap (λ x. smaller_first x (T.at q)) (A.at r (omega (arith, X.r_s, X.s_end)))
          ∙ ap (λ y. smaller_first (U.at r) y) (A.at q (omega (arith, X.r_s, X.s_end, F.before)))
          ∙ sym (crossing_in_is U r q G)
      | inr f ↦
          let g : crosses_in U ≡ false =
          crosses_none U
          (λ r q l Y. true_not_false (crosses_in T) (crosses_by T r q l (alternates_alike U T B r q l Y)) f) in
          crossing_in_none T f ∙ sym (crossing_in_none U g)
    ]

-- ---- the tour of a drawing
module _ (D : Drawing) where
  crossing_to : (r q : ℕ) → q < r → AlternateAt (tour_of D) r q → Crossing D (border (end_at D r)) (border (end_at D q))
  unfolding tour_of
  crossing_to r q l X =
      let a : ℕ = border (end_at D r) in
      let b : ℕ = border (end_at D q) in
      record {
        first_border = ltb-true a (borders D) (both_left (ltb a (borders D)) (not (is_marked D a)) X.a_unmarked);
        second_border = ltb-true b (borders D) (both_left (ltb b (borders D)) (not (is_marked D b)) X.b_unmarked);
        two = X.two;
        first_unmarked = not-true (is_marked D a) (both_right (ltb a (borders D)) (not (is_marked D a)) X.a_unmarked);
        second_unmarked = not-true (is_marked D b) (both_right (ltb b (borders D)) (not (is_marked D b)) X.b_unmarked);
        alternate =
            record {
              p = X.p;
              q = q;
              r = r;
              s = X.s;
              p_q = X.p_q;
              q_r = l;
              r_s = X.r_s;
              s_end = X.s_end;
              at_p = X.at_p;
              at_q = refl;
              at_r = refl;
              at_s = X.at_s;
            };
      }

  unmarked_at : (e h : ℕ) → border h ≡ e → e < borders D → is_marked D e ≡ false → ltb (border h) (borders D) && not (is_marked D (border h)) ≡ true
  unmarked_at e h s l u =
      ap (λ x. ltb x (borders D) && not (is_marked D x)) s
      ∙ both (ltb e (borders D)) (not (is_marked D e)) (lt-ltb e (borders D) l) (ap not u)

  crossing_from : (a b : ℕ) (X : Crossing D a b) → AlternateAt (tour_of D) X.alternate.r X.alternate.q
  unfolding tour_of
  crossing_from a b X =
      let Y : Alternate D a b = X.alternate in
      record {
        a_unmarked = unmarked_at a (end_at D Y.r) Y.at_r X.first_border X.first_unmarked;
        b_unmarked = unmarked_at b (end_at D Y.q) Y.at_q X.second_border X.second_unmarked;
        two = λ e. X.two (sym Y.at_r ∙ e ∙ Y.at_q);
        p = Y.p;
        s = Y.s;
        p_q = Y.p_q;
        r_s = Y.r_s;
        s_end = Y.s_end;
        at_p = Y.at_p ∙ sym Y.at_r;
        at_s = Y.at_s ∙ sym Y.at_q;
      }

pub no_crossing : (D : Drawing) → crosses D ≡ false → first_crossing D ≡ []
unfolding first_crossing crosses
no_crossing D f = crossing_in_none (tour_of D) f

pub some_crossing : (D : Drawing) → crosses D ≡ true → length (first_crossing D) ≡ 2
unfolding first_crossing crossing_in crosses
some_crossing D h =
    let T : Tour = tour_of D in
    ap length (pick_yes (crosses_in T) (smaller_first (T.at (second_a T)) (T.at (first_b T))) [] h)

module _ (D : Drawing) where
  found_crossing : crosses D ≡ true → Lowest (tour_of D) (second_a (tour_of D)) (first_b (tour_of D))
  unfolding crosses
  found_crossing h = search_found (tour_of D) h

  pub crosses_decides : Decides (crosses D) ((a : ℕ) × (b : ℕ) × Crossing D a b)
  unfolding crosses
  crosses_decides =
      record {
        sound = λ h.
            let T : Tour = tour_of D in
            let F = found_crossing h in
            (border (end_at D (second_a T)), border (end_at D (first_b T)), crossing_to D (second_a T) (first_b T) F.before F.alternates);
        complete = λ t.
            let X : Crossing D t.0 t.1 = t.2 in
            crosses_by (tour_of D) X.alternate.r X.alternate.q X.alternate.q_r (crossing_from D t.0 t.1 X);
      }

  lowest_crossing : (xs : List ℕ) (F : FirstCrossing D xs) → Lowest (tour_of D) F.crossing.alternate.r F.crossing.alternate.q
  unfolding crossing_to
  lowest_crossing xs F =
      record {
        before = F.crossing.alternate.q_r;
        alternates = crossing_from D F.a F.b F.crossing;
        least_r = λ x y l X. F.lowest_a (border (end_at D x)) (border (end_at D y)) (crossing_to D x y l X);
        least_q = λ y l X.
            F.lowest_b (border (end_at D F.crossing.alternate.r)) (border (end_at D y))
            (crossing_to D F.crossing.alternate.r y l X) refl;
      }

  -- what the search finds
  found_first : crosses D ≡ true → FirstCrossing D (first_crossing D)
  unfolding first_crossing tour_of crossing_to
  found_first h =
      let T : Tour = tour_of D in
      let r : ℕ = second_a T in
      let q : ℕ = first_b T in
      let F : Lowest T r q = found_crossing h in
      record {
        a = border (end_at D r);
        b = border (end_at D q);
        crossing = crossing_to D r q F.before F.alternates;
        lowest_a = λ c d X. F.least_r X.alternate.r X.alternate.q X.alternate.q_r (crossing_from D c d X);
        lowest_b = λ c d X e.
            F.least_q X.alternate.q (omega (arith, e, X.alternate.q_r))
            (subst (λ x. AlternateAt T x X.alternate.q) e (crossing_from D c d X));
        carried = crossing_in_is T r q F;
      }

  only_first : (xs : List ℕ) → FirstCrossing D xs → xs ≡ first_crossing D
  unfolding first_crossing tour_of
  only_first xs F =
      let Y : Alternate D F.a F.b = F.crossing.alternate in
      F.carried
      ∙ ap (λ x. smaller_first x F.b) (sym Y.at_r)
      ∙ ap (λ y. smaller_first (border (end_at D Y.r)) y) (sym Y.at_q)
      ∙ sym (crossing_in_is (tour_of D) Y.r Y.q (lowest_crossing xs F))

  flat_crosses : Flat D → crosses D ≡ false
  unfolding crosses
  flat_crosses flat =
      crosses_none (tour_of D) (λ r q l X. flat (border (end_at D r)) (border (end_at D q)) (crossing_to D r q l X))

  pub first_crossing_lem : FindsFirst D
  first_crossing_lem =
      record {
        exists = (crosses_decides.sound, crosses_decides.complete);
        first = λ xs. (
          λ F. (crosses_decides.complete (F.a, F.b, F.crossing), only_first xs F),
          λ t. subst (FirstCrossing D) (sym t.1) (found_first t.0),
        );
        none = λ flat. no_crossing D (flat_crosses flat);
      }
