-- The loops of a count: over the letters of a run, and over the runs.
--
-- pass_none, pass_deep == a run at once
-- Lettering == the run from p to e has come to q: what is left of its letters x and its brackets y, and of the count
-- lettering_start, lettering_goes, lettering_neither == from one letter to the next
-- lettering_leaves, lettering_end == where the count stands at the end
-- Going     == the count from p₀ to n has come to p: what is left finds what the whole count finds
-- going_start, going_ready, going_counted, going_on == from one run to the next
-- going_off, going_end == what was found
-- Assumes nothing.
use mathlib.Core.Path.{◌≡◌, refl, sym, ap, ◌∙◌}
use mathlib.Core.Logic.{inl, inr}
use mathlib.Core.Bool.{true, false}
use mathlib.Core.List.{List}
use Prim.Native.Nat.{ℕ, suc, ◌+◌, ◌-◌, ◌*◌, ◌/◌, ◌%◌, ◌<◌, ◌≤◌, min}
use native.Mathlib.Omega.{arith}
use borrow.Author.Tests.{eq-eqb, ne_eqb}
use Rattle.count.proofs.Logic.{same_or_not}
use Rattle.count.specs.Below.{count}
use Rattle.bits.specs.Strings.{bit, is_bit, rank, field, among, widest}
use Rattle.bits.proofs.Laws.{field_first, field_rest, rank_among}
use Rattle.matching.specs.Scans.{ahead}
use Rattle.matching.specs.declared.scans.Scan.{Scan}
use Rattle.sizing.specs.Runs.{Stand, flat, run, Ready, Within}
use Rattle.sizing.proofs.Runs.{stand, gone, run_end, run_neither, run_opens, run_closes, run_leaves, run_depth, run_found, run_on, run_off, run_none, run_deep}

-- ---- at once
module _ (v : ℕ) (a b : List ℕ) (w p j d k m : ℕ) (h : m ≡ among v a p w) where
  counted : count (is_bit v a) p + m ≡ count (is_bit v a) (p + w)
  unfolding rank
  counted = omega (arith, rank_among v a p w)

  pub pass_none : (r : ℕ) → m ≡ 0 → r ≡ flat d w → stand d (k + r) ≡ run (is_bit v a) (is_bit 0 b) w p j d k
  pass_none r z f = rw f (sym (run_none (is_bit v a) (is_bit 0 b) w p j d k (omega (arith, counted))))

  pub pass_deep : (r : Scan) → r ≡ ahead b (j + m) j (min d j) → d ≤ j → m < d → stand r.depth k ≡ run (is_bit v a) (is_bit 0 b) w p j d k
  pass_deep r f o l =
      let e : min d j ≡ d = omega arith in
      rw (f, e) (sym (run_deep (is_bit v a) b w p j d k m (j + m) refl counted l))

-- ---- letter by letter
module _ (v : ℕ) (a b : List ℕ) (e p j d₀ k₀ : ℕ) where
  pub record Lettering (x y d k q : ℕ) : Type 0 where
    pub short : e ≤ p + widest
    pub few : e ≤ 4096
    pub from : p ≤ q
    pub within : q ≤ e
    pub letters : x ≡ field a q (e - q)
    pub index : ℕ
    pub base : j ≤ index
    pub taken : index + p ≤ j + q
    pub brackets : y ≡ field b index (widest + j - index)
    pub rest : run (is_bit v a) (is_bit 0 b) (e - q) q index d k ≡ run (is_bit v a) (is_bit 0 b) (e - p) p j d₀ k₀
    pub depth_few : d ≤ q
    pub found_few : k ≤ q

  pub lettering_start : (x y : ℕ) → Ready v e p j d₀ k₀ → x ≡ field a p (min (e - p) widest) → y ≡ field b j (min widest widest) → Lettering x y d₀ k₀ p
  lettering_start x y R f g =
      let i : min widest widest ≡ widest + j - j = omega arith in
      let m : min (e - p) widest ≡ e - p = omega (arith, R.short) in
      record {
        short = R.short;
        few = R.few;
        from = omega arith;
        within = R.from;
        letters = f ∙ ap (field a p) m;
        index = j;
        base = omega arith;
        taken = omega arith;
        brackets = g ∙ ap (field b j) i;
        rest = refl;
        depth_few = omega (arith, R.depth_few, R.index_few);
        found_few = R.found_few;
      }

  module _ (x y d k q : ℕ) (L : Lettering x y d k q) (l : q < e) where
    left : e - q ≡ suc (e - (q + 1))
    left = omega arith

    after : widest + j - L.index ≡ suc (widest + j - (L.index + 1))
    after = omega (arith, L.taken, L.short)

    in_letters : x ≡ field a q (suc (e - (q + 1)))
    in_letters = L.letters ∙ ap (field a q) left

    in_brackets : y ≡ field b L.index (suc (widest + j - (L.index + 1)))
    in_brackets = L.brackets ∙ ap (field b L.index) after

    letter : x % 2 ≡ bit a q
    letter = ap (λ z. z % 2) in_letters ∙ field_first a q (e - (q + 1))

    bracket : y % 2 ≡ bit b L.index
    bracket = ap (λ z. z % 2) in_brackets ∙ field_first b L.index (widest + j - (L.index + 1))

    next : run (is_bit v a) (is_bit 0 b) (suc (e - (q + 1))) q L.index d k ≡ run (is_bit v a) (is_bit 0 b) (e - p) p j d₀ k₀
    next = ap (λ w. run (is_bit v a) (is_bit 0 b) w q L.index d k) (sym left) ∙ L.rest

    -- to the next letter, with the index i
    on : (y i c g : ℕ) → j ≤ i → i ≤ L.index + 1 → y ≡ field b i (widest + j - i) → c ≤ d + 1 → g ≤ k + 1
        → run (is_bit v a) (is_bit 0 b) (e - (q + 1)) (q + 1) i c g ≡ run (is_bit v a) (is_bit 0 b) (e - p) p j d₀ k₀
        → Lettering (x / 2) y c g (q + 1)
    on y i c g m f h s r t =
        record {
          short = L.short;
          few = L.few;
          from = omega (arith, L.from);
          within = omega arith;
          letters = ap (λ z. z / 2) in_letters ∙ field_rest a q (e - (q + 1));
          index = i;
          base = m;
          taken = omega (arith, L.taken);
          brackets = h;
          rest = t;
          depth_few = omega (arith, L.depth_few);
          found_few = omega (arith, L.found_few);
        }

    pub lettering_neither : (r u c : ℕ) → r ≡ flat d 1 → r ≤ 1 → (x % 2 ≡ v → ⊥) → u ≡ y → c ≡ d → Lettering (x / 2) u c (k + r) (q + 1)
    lettering_neither r u c h o m hu hc =
        on u L.index c (k + r) L.base (omega arith) (hu ∙ L.brackets) (omega arith) (omega arith)
        (rw (hc, h) (sym (run_neither (is_bit v a) (is_bit 0 b) (e - (q + 1)) q L.index d k (ne_eqb (bit a q) v (λ f. m (letter ∙ f)))) ∙ next))

    -- a bracket of the family, which does not end the count
    pub lettering_goes : (r u c : ℕ) → r ≡ flat d 1 → r ≤ 1 → x % 2 ≡ v → y % 2 ≤ d → u ≡ y / 2 → c ≡ d + 1 - 2 * (y % 2)
        → Lettering (x / 2) u c (k + r) (q + 1)
    lettering_goes r u c h o m f hu hc =
        on u (L.index + 1) c (k + r) (omega (arith, L.base)) (omega arith)
        (hu ∙ ap (λ z. z / 2) in_brackets ∙ field_rest b L.index (widest + j - (L.index + 1))) (omega arith) (omega arith)
        (elim (same_or_not (y % 2) 0) [
          | inl z ↦
              let g : c ≡ d + 1 = omega arith in
              rw (g, h) (sym (run_opens (is_bit v a) (is_bit 0 b) (e - (q + 1)) q L.index d k own (eq-eqb (bit b L.index) 0 (sym bracket ∙ z))) ∙ next)
          | inr z ↦
              let g : c ≡ d - 1 = omega arith in
              rw (g, h) (sym (run_closes (is_bit v a) (is_bit 0 b) (e - (q + 1)) q L.index d k own (closing z) (omega arith)) ∙ next)
        ])
      where
        own : is_bit v a q ≡ true
        own = eq-eqb (bit a q) v (sym letter ∙ m)

        closing : (y % 2 ≡ 0 → ⊥) → is_bit 0 b L.index ≡ false
        closing z = ne_eqb (bit b L.index) 0 (λ g. z (bracket ∙ g))

    ended : (r : ℕ) → r ≡ flat d 1 → x % 2 ≡ v → d < y % 2 → gone d (k + r) ≡ run (is_bit v a) (is_bit 0 b) (e - p) p j d₀ k₀
    ended r h m f =
        rw h
        (sym (run_leaves (is_bit v a) (is_bit 0 b) (e - (q + 1)) q L.index d k (eq-eqb (bit a q) v (sym letter ∙ m))
        (ne_eqb (bit b L.index) 0 (omega (arith, bracket))) (omega arith)) ∙ next)

    pub lettering_leaves : (r : ℕ) → r ≡ flat d 1 → x % 2 ≡ v → d < y % 2
        → ((run (is_bit v a) (is_bit 0 b) (e - p) p j d₀ k₀).left ≡ true) × (k + r ≡ (run (is_bit v a) (is_bit 0 b) (e - p) p j d₀ k₀).found)
    lettering_leaves r h m f = (sym (ap (λ S. S.left) (ended r h m f)), ap (λ S. S.found) (ended r h m f))

  pub lettering_end : (x y d k q : ℕ) → Lettering x y d k q → e ≤ q → stand d k ≡ run (is_bit v a) (is_bit 0 b) (e - p) p j d₀ k₀
  lettering_end x y d k q L l =
      let f : 0 ≡ e - q = omega arith in
      sym (run_end (is_bit v a) (is_bit 0 b) q L.index d k) ∙ ap (λ w. run (is_bit v a) (is_bit 0 b) w q L.index d k) f ∙ L.rest

-- ---- run by run
module _ (v : ℕ) (a b : List ℕ) (n p₀ j₀ : ℕ) where
  pub record Going (p j d k : ℕ) : Type 0 where
    pub within : Within v n p j
    pub rest : (run (is_bit v a) (is_bit 0 b) (n - p) p j d k).found ≡ (run (is_bit v a) (is_bit 0 b) (n - p₀) p₀ j₀ 0 0).found
    pub depth_few : d ≤ j
    pub found_few : k ≤ p

  pub going_start : Within v n p₀ j₀ → Going p₀ j₀ 0 0
  going_start W = record { within = W; rest = refl; depth_few = omega arith; found_few = omega arith }

  module _ (p j d k e : ℕ) (G : Going p j d k) (l : p < n) (h : e ≡ min (p + widest) n) where
    pub going_ready : Ready v e p j d k
    going_ready =
        record {
          family = G.within.family;
          from = omega arith;
          short = omega arith;
          few = omega (arith, G.within.few);
          index_few = G.within.index_few;
          depth_few = G.depth_few;
          found_few = G.found_few;
        }

    pub going_counted : (m : ℕ) → m ≡ among v a p (min (e - p) widest) → m ≤ min (e - p) widest → (m ≡ among v a p (e - p)) × (m ≤ e - p)
    going_counted m c f =
        let x : min (e - p) widest ≡ e - p = omega arith in
        (rw x at c, omega arith)

    module _ (S : Stand) (r : S ≡ run (is_bit v a) (is_bit 0 b) (e - p) p j d k) where
      parts : n - p ≡ e - p + (n - e)
      parts = omega arith

      pub going_on : (m : ℕ) → m ≡ among v a p (e - p) → m ≤ e - p → S.left ≡ false → Going e (j + m) S.depth S.found
      unfolding rank
      going_on m c f z =
          let t = rank_among v a p (e - p) in
          let q : e ≡ p + (e - p) = omega arith in
          let g = ap (rank v a) q in
          record {
            within = record { family = G.within.family; from = omega arith; few = G.within.few; index_few = omega (arith, G.within.index_few) };
            rest =
                rw r
                (ap (λ T. T.found)
                (sym (run_on (is_bit v a) (is_bit 0 b) (n - e) (e - p) p j d k e (j + m) (n - p) parts q (omega arith) (rw r at z)))
                ∙ G.rest);
            depth_few = rw r (omega (arith, run_depth (is_bit v a) (is_bit 0 b) (e - p) p j d k, G.depth_few));
            found_few = rw r (omega (arith, run_found (is_bit v a) (is_bit 0 b) (e - p) p j d k, G.found_few));
          }

      pub going_off : S.left ≡ true → S.found ≡ (run (is_bit v a) (is_bit 0 b) (n - p₀) p₀ j₀ 0 0).found
      going_off z =
          ap (λ T. T.found) (r ∙ sym (run_off (is_bit v a) (is_bit 0 b) (n - e) (e - p) p j d k (n - p) parts (rw r at z))) ∙ G.rest

  pub going_end : (p j d k : ℕ) → Going p j d k → n ≤ p → k ≡ (run (is_bit v a) (is_bit 0 b) (n - p₀) p₀ j₀ 0 0).found
  going_end p j d k G l =
      let f : 0 ≡ n - p = omega arith in
      ap (λ T. T.found)
      (sym (run_end (is_bit v a) (is_bit 0 b) p j d k) ∙ ap (λ w. run (is_bit v a) (is_bit 0 b) w p j d k) f)
      ∙ G.rest
