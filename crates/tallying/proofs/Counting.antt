-- Counting the places of all areas in one loop, from the last place down.
--
-- Lowest P p n x  == x is 1 + the lowest number from p up to n that has the test P, and 0 where none has
-- lowest_end, lowest_here, lowest_other == before the first number, and what one number more makes of it
-- lowest_first    == of all numbers it is the one that a search finds
-- first_place     == every area of a map with a place has one, so that at the end it is the first place
-- blank_zeros     == a list of zeros is blank
-- Tallying        == what the loop of `count_sides` keeps: the sides from position p on are noted
-- tallied_position, tallied_area == the place before them is one of the map, and its area stands in the list
-- sides_entry, firsts_entry, sides_fit == there is an entry for the area of a position, and one side more fits
-- tallied_start, tallied_more == before the last place, one place more
-- tallied_all, tallied_sides, tallied_firsts == after the first
-- Assumes nothing.
use mathlib.Core.Path.{◌≡◌, refl, sym, ap, ◌∙◌}
use mathlib.Core.Logic.{◌≢◌, inl, inr}
use mathlib.Core.Bool.{Bool, true, false}
use mathlib.Core.List.{List}
use Prim.Native.Nat.{ℕ, suc, ◌+◌, ◌-◌, ◌≤◌, ◌<◌}
use native.Mathlib.Omega.{arith}
use native.Mathlib.Numerals.{add-one}
use lib.Dec.{eqb}
use lib.ListN.{length, get_or, set, length-set, replicate, length-replicate, get_or-replicate, get_or-eq_default}
use lib.Seq.{get_or-set_same, get_or-set_other}
use borrow.Author.Tests.{eq-eqb, ne_eqb}
use Rattle.count.specs.Below.{count, find}
use Rattle.count.proofs.Logic.{same_or_not, lt_or_ge, true_not_false, pick_yes, pick_no}
use Rattle.count.proofs.Below.{count_zero, count_yes, count_no, count_le, find_has, find_not, find_at_most}
use Rattle.answers.specs.Lent.{laid}
use Rattle.answers.specs.Answer.{Kind}
use Rattle.words.specs.Brackets.{number, first, size}
use Rattle.words.specs.declared.family.Family.TheVariants.{Square as square}
use Rattle.words.specs.Word.{seen}
use Rattle.words.proofs.Numbers.{number_positive, number_reached}
use Rattle.format.specs.Bytes.{size_in, bits_a, word_in}
use Rattle.format.specs.Open.{open_refusal}
use Rattle.format.specs.Calls.{cells_in, first_in, places_in}
use Rattle.format.proofs.Openings.{cells_numbers, number_cells, areas_most}
use Rattle.lending.proofs.Laying.{laid_table}
use Rattle.surveying.specs.Surveyed.{Numbers}
use Rattle.walking.specs.Positions.{Position}
use Rattle.walking.proofs.Decoded.{nested, places_most}
use Rattle.tallying.specs.Tallied.{sides_in, firsts_in, Blank, Tallied, entry_at, HasEntry, Noted}

-- ---- the lowest number that has a test, of those from p on
pub record Lowest (P : ℕ → Bool) (p n x : ℕ) : Type 0 where
  pub none : ((y : ℕ) → p ≤ y → y < n → P y ≡ false) → x ≡ 0
  pub some : (y : ℕ) → p ≤ y → y < n → P y ≡ true → ((z : ℕ) → p ≤ z → z < y → P z ≡ false) → x ≡ suc y

module _ (P : ℕ → Bool) (n : ℕ) where
  lowest_end : (x : ℕ) → x ≡ 0 → Lowest P n n x
  lowest_end x e = record { none = λ f. e; some = λ y l h t f. absurd (omega arith) }

  module _ (p : ℕ) (l : p < n) where
    lowest_here : P p ≡ true → Lowest P p n (suc p)
    lowest_here t =
        record {
          none = λ f. absurd (true_not_false (P p) t (f p (omega arith) l));
          some = λ y g h u f. elim (same_or_not y p) [
            | inl e ↦ ap suc (sym e)
            | inr d ↦ absurd (true_not_false (P p) t (f p (omega arith) (omega arith)))
          ];
        }

    lowest_other : (x : ℕ) → P p ≡ false → Lowest P (p + 1) n x → Lowest P p n x
    lowest_other x f L =
        record {
          none = λ g. L.none (λ y h k. g y (omega arith) k);
          some = λ y g h u k. elim (same_or_not y p) [
            | inl e ↦ absurd (true_not_false (P p) (ap P (sym e) ∙ u) f)
            | inr d ↦ L.some y (omega arith) h u (λ z a b. k z (omega arith) b)
          ];
        }

  lowest_first : (x y : ℕ) → Lowest P 0 n x → y < n → P y ≡ true → x ≡ suc (find P n)
  lowest_first x y L l t =
      let h = find_at_most P n y l t in
      L.some (find P n) (omega arith) (omega arith) (find_has P n (omega arith)) (λ z a b. find_not P n z b)

-- ---- the loop
-- whether position q has the number of the area with index i
abbrev on_area : List ℕ → ℕ → ℕ → Bool
on_area s i q = eqb (number (seen square (word_in s)) q) (suc i)

abbrev areas_of : List ℕ → ℕ
areas_of s = cells_in (size_in s) Kind.area

pub record Tallying (s ss₀ fs₀ : List ℕ) (p : ℕ) (ss fs : List ℕ) : Type 0 where
  pub opens : open_refusal s ≡ 0
  pub within : p ≤ bits_a (size_in s)
  pub few : p ≤ 4096
  pub sides : (i : ℕ) → i < areas_of s → get_or ss i 0 + count (on_area s i) p ≡ count (on_area s i) (bits_a (size_in s))
  pub firsts : (i : ℕ) → i < areas_of s → Lowest (on_area s i) p (bits_a (size_in s)) (get_or fs i 0)
  pub sides_rest : (i : ℕ) → areas_of s ≤ i → get_or ss i 0 ≡ get_or ss₀ i 0
  pub firsts_rest : (i : ℕ) → areas_of s ≤ i → get_or fs i 0 ≡ get_or fs₀ i 0
  pub sides_same : length ss ≡ length ss₀
  pub firsts_same : length fs ≡ length fs₀
  pub sides_room : 2049 ≤ length ss₀
  pub firsts_room : 2049 ≤ length fs₀

module _ (s ss₀ fs₀ : List ℕ) where
  pub tallied_start : (n : ℕ) → open_refusal s ≡ 0 → n ≡ bits_a (size_in s) → Blank ss₀ → 2049 ≤ length ss₀ → Blank fs₀ → 2049 ≤ length fs₀
      → Tallying s ss₀ fs₀ n ss₀ fs₀
  tallied_start n o e bs hs bf hf =
      record {
        opens = o;
        within = omega arith;
        few = omega (arith, places_most s o);
        sides = λ i l. omega (arith, bs.zero i, ap (count (on_area s i)) e);
        firsts = λ i l. rw e (lowest_end (on_area s i) (bits_a (size_in s)) (get_or fs₀ i 0) (bf.zero i));
        sides_rest = λ i l. refl;
        firsts_rest = λ i l. refl;
        sides_same = refl;
        firsts_same = refl;
        sides_room = hs;
        firsts_room = hf;
      }

  module _ (p : ℕ) (ss fs : List ℕ) (T : Tallying s ss₀ fs₀ p ss fs) where
    pub tallied_position : 0 < p → Position s (p - 1)
    tallied_position l = record { opens = T.opens; below = omega (arith, T.within); few = omega (arith, T.few) }

    pub tallied_area : 0 < p → (areas : List ℕ) → Numbers square s areas → 4096 ≤ length areas → (a : ℕ) → a ≡ get_or areas (p - 1) 0
        → a ≡ number (seen square (word_in s)) (p - 1)
    tallied_area l areas N h a e = e ∙ N.at (p - 1) (omega (arith, T.within)) (omega (arith, T.few))

    -- the area of a position has an entry, with room for one side more
    module _ (q a : ℕ) (Q : Position s q) (ha : a ≡ number (seen square (word_in s)) q) where
      area_within : (1 ≤ a) × (a ≤ areas_of s)
      area_within =
          let r = number_cells s T.opens Kind.area q Q.below in
          (omega (arith, number_positive (seen square (word_in s)) q), omega (arith, r.1))

      pub sides_entry : HasEntry ss a
      sides_entry =
          record { least = area_within.0; most = omega (arith, area_within, areas_most s T.opens, T.sides_same, T.sides_room) }

      pub firsts_entry : HasEntry fs a
      firsts_entry =
          record { least = area_within.0; most = omega (arith, area_within, areas_most s T.opens, T.firsts_same, T.firsts_room) }

      pub sides_fit : entry_at ss a < 65535
      sides_fit =
          let k : ℕ = a - 1 in
          omega (arith, T.sides k (omega (arith, area_within)), count_le (on_area s k) (bits_a (size_in s)), places_most s T.opens)

  -- one side more, at position p, of area a, whose index is k
  module _ (p : ℕ) (ss fs : List ℕ) (T : Tallying s ss₀ fs₀ (p + 1) ss fs) (a k : ℕ) (P : Position s p) (ha : a ≡ number (seen square (word_in s)) p) (hk : k ≡ a - 1) where
    within_areas : (1 ≤ a) × (a ≤ areas_of s)
    within_areas = area_within (p + 1) ss fs T p a P ha

    index_below : k < areas_of s
    index_below = omega (arith, within_areas)

    sides_index : k < length ss
    sides_index = omega (arith, sides_entry (p + 1) ss fs T p a P ha)

    firsts_index : k < length fs
    firsts_index = omega (arith, firsts_entry (p + 1) ss fs T p a P ha)

    own : on_area s k p ≡ true
    own = eq-eqb (number (seen square (word_in s)) p) (suc k) (omega (arith, within_areas))

    others : (i : ℕ) → i ≢ k → on_area s i p ≡ false
    others i n = ne_eqb (number (seen square (word_in s)) p) (suc i) (λ e. n (omega (arith, within_areas)))

    more_sides : (i : ℕ) → i < areas_of s
        → get_or (set ss k (get_or ss k 0 + 1)) i 0 + count (on_area s i) p ≡ count (on_area s i) (bits_a (size_in s))
    more_sides i h =
        elim (same_or_not i k) [
          | inl e ↦
              rw e (omega (arith, get_or-set_same ss k (get_or ss k 0 + 1) 0 sides_index, T.sides k index_below, count_yes (on_area s k) p own))
          | inr d ↦
              omega (arith, get_or-set_other ss k i (get_or ss k 0 + 1) 0 d, T.sides i h, count_no (on_area s i) p (others i d))
        ]

    more_firsts : (i : ℕ) → i < areas_of s → Lowest (on_area s i) p (bits_a (size_in s)) (get_or (set fs k (p + 1)) i 0)
    more_firsts i h =
        elim (same_or_not i k) [
          | inl e ↦
              rw (e, get_or-set_same fs k (p + 1) 0 firsts_index, add-one p) (lowest_here (on_area s k) (bits_a (size_in s)) p P.below own)
          | inr d ↦
              rw (get_or-set_other fs k i (p + 1) 0 d) (lowest_other (on_area s i) (bits_a (size_in s)) p P.below (get_or fs i 0) (others i d) (T.firsts i h))
        ]

    stored : Tallying s ss₀ fs₀ p (set ss k (get_or ss k 0 + 1)) (set fs k (p + 1))
    stored =
        record {
          opens = T.opens;
          within = omega (arith, T.within);
          few = omega (arith, T.few);
          sides = more_sides;
          firsts = more_firsts;
          sides_rest = λ i h. get_or-set_other ss k i (get_or ss k 0 + 1) 0 (omega (arith, index_below)) ∙ T.sides_rest i h;
          firsts_rest = λ i h. get_or-set_other fs k i (p + 1) 0 (omega (arith, index_below)) ∙ T.firsts_rest i h;
          sides_same = length-set ss k (get_or ss k 0 + 1) ∙ T.sides_same;
          firsts_same = length-set fs k (p + 1) ∙ T.firsts_same;
          sides_room = T.sides_room;
          firsts_room = T.firsts_room;
        }

  module _ (p : ℕ) (ss fs : List ℕ) (T : Tallying s ss₀ fs₀ p ss fs) where
    pub tallied_more : (a place : ℕ) (ss' fs' : List ℕ) → Noted a place ss fs ss' fs' → place ≡ p → 0 < p → a ≡ number (seen square (word_in s)) (p - 1)
        → Tallying s ss₀ fs₀ (p - 1) ss' fs'
    tallied_more a place ss' fs' N e l ha =
        let h : p - 1 + 1 ≡ p = omega arith in
        let U : Tallying s ss₀ fs₀ (p - 1 + 1) ss fs = rw h T in
        rw (N.counted, N.first, e ∙ sym h) (stored (p - 1) ss fs U a (a - 1) (tallied_position p ss fs T l) ha refl)

    -- ---- after the first place
    module _ (g : p ≤ 0) where
      ended : p ≡ 0
      ended = omega arith

      -- every area of a map with a place has one
      first_place : (i : ℕ) → i < areas_of s → get_or fs i 0 ≡ first_in (word_in s) Kind.area (suc i)
      unfolding first_in first word_in
      first_place i h =
          let N : ℕ = bits_a (size_in s) in
          let P : ℕ → Bool = on_area s i in
          let L : Lowest P 0 N (get_or fs i 0) = rw ended at (T.firsts i h) in
          elim (same_or_not N 0) [
            | inl z ↦ L.none (λ y a b. absurd (omega arith)) ∙ sym (pick_yes (eqb N 0) 0 (suc (find P N)) (eq-eqb N 0 z))
            | inr m ↦
                let r = number_reached (seen square (word_in s)) N (nested s square T.opens) (omega arith) (suc i) (omega arith)
                (omega (arith, cells_numbers s Kind.area T.opens)) in
                lowest_first P N (get_or fs i 0) r.0 L r.1 (eq-eqb (number (seen square (word_in s)) r.0) (suc i) r.2)
                ∙ sym (pick_no (eqb N 0) 0 (suc (find P N)) (ne_eqb N 0 m))
          ]

      pub tallied_all : Tallied s ss fs
      unfolding places_in size word_in
      tallied_all =
          record {
            sides_at = λ i h. omega (arith, T.sides i h, ap (count (on_area s i)) ended, count_zero (on_area s i));
            first_at = first_place;
          }

      pub tallied_sides : ss ≡ laid (sides_in s) ss₀
      unfolding sides_in
      tallied_sides =
          let f : ℕ → ℕ = λ i. places_in (word_in s) Kind.area (suc i) in
          laid_table f (areas_of s) ss₀ ss T.sides_same (omega (arith, areas_most s T.opens, T.sides_room)) tallied_all.sides_at T.sides_rest

      pub tallied_firsts : fs ≡ laid (firsts_in s) fs₀
      unfolding firsts_in
      tallied_firsts =
          let f : ℕ → ℕ = λ i. first_in (word_in s) Kind.area (suc i) in
          laid_table f (areas_of s) fs₀ fs T.firsts_same (omega (arith, areas_most s T.opens, T.firsts_room)) tallied_all.first_at T.firsts_rest

-- ---- lists to begin with
pub blank_zeros : (n : ℕ) → Blank (replicate n 0)
blank_zeros n =
    record {
      zero = λ i. elim (lt_or_ge i n) [
        | inl l ↦ get_or-replicate n i 0 0 l
        | inr g ↦ get_or-eq_default (replicate n 0) 0 (omega (arith, length-replicate {A = ℕ} n 0))
      ];
    }
