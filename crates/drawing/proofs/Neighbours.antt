-- What lies across the sides of an area: laws for any account of a map.
--
-- across_is       == the test decides it
-- across_mutual   == where crossing twice leads back, j is across a side of k exactly if k is across a side of j
-- neighbours_none == none exactly if nothing but the area itself is across its sides
-- neighbours_le, neighbours_most == no more neighbours than areas, and no more than sides
-- neighbours_same == accounts that are one another's, renamed, count the same neighbours
-- landings_same   == and the areas across their sides are the same, in walk order
-- Assumes nothing.
use mathlib.Core.Path.{◌≡◌, refl, sym, ap, ap₂, ◌∙◌}
use mathlib.Core.Logic.{◌↔◌, inl, inr}
use mathlib.Core.Bool.{Bool, true, not, ◌&&◌}
use mathlib.Core.List.{List, ◌∷◌}
use Prim.Native.Nat.{ℕ, zero, suc, pred, ◌≤◌, ◌<◌}
use native.Mathlib.Omega.{arith}
use lib.Dec.{eqb}
use borrow.Author.Tests.{eq-eqb, eqb-true, ne_eqb}
use Rattle.count.specs.Below.{Decides, count, find}
use Rattle.count.proofs.Logic.{true_not_false, same_or_not, both, both_left, both_right, not_both, bool_same}
use Rattle.count.proofs.Decides.{decides_eq, decides_both, decides_any, decides_as}
use Rattle.count.proofs.Below.{find_has, find_at_most, count_le, count_same, count_none, count_before, count_injection}
use Rattle.drawing.specs.Neighbours.{Across, is_across, neighbours, landings}

module _ (area cross : ℕ → ℕ) (n : ℕ) where
  -- whether area j is across the side p of area k
  abbrev leads : ℕ → ℕ → ℕ → Bool
  leads k j p = eqb (area p) k && eqb (area (cross p)) j

  pub across_is : (k j : ℕ) → Decides (is_across area cross n k j) (Across area cross n k j)
  unfolding is_across
  across_is k j =
      decides_as
      (λ x. record { side = x.0; below = x.1; here = x.2.0; there = x.2.1 })
      (λ x. (x.side, x.below, (x.here, x.there)))
      (decides_any (leads k j) (λ p. (area p ≡ k) × (area (cross p) ≡ j)) n
      (λ p l. decides_both (decides_eq (area p) k) (decides_eq (area (cross p)) j)))

  pub across_mutual : ((p : ℕ) → p < n → (cross p < n) × (cross (cross p) ≡ p)) → (k j : ℕ)
      → Across area cross n k j ↔ Across area cross n j k
  across_mutual back k j = (over k j, over j k)
    where
      over : (k j : ℕ) → Across area cross n k j → Across area cross n j k
      over k j x =
          let b = back x.side x.below in
          record { side = cross x.side; below = b.0; here = x.there; there = ap area b.1 ∙ x.here }

  module _ (v k : ℕ) where
    -- whether the area with index i, which is area i + 1, is a neighbour of k
    abbrev counts : ℕ → Bool
    counts i = not (eqb (suc i) k) && is_across area cross n k (suc i)

    pub neighbours_none : ((p : ℕ) → p < n → (1 ≤ area (cross p)) × (area (cross p) ≤ v))
        → (neighbours area cross n v k ≡ 0) ↔ ((j : ℕ) → Across area cross n k j → j ≡ k)
    unfolding neighbours
    neighbours_none range = (
      λ z j x.
          let r = range x.side x.below in
          let i : suc (pred j) ≡ j = omega (arith, x.there) in
          elim (same_or_not j k) [
            | inl e ↦ e
            | inr d ↦
                let t = both (not (eqb j k)) (is_across area cross n k j) (ap not (ne_eqb j k d)) ((across_is k j).complete x) in
                let c : counts (pred j) ≡ true = ap (λ y. not (eqb y k) && is_across area cross n k y) i ∙ t in
                absurd (omega (arith, x.there, count_before counts (pred j) v (omega (arith, x.there)) c))
          ],
      λ own.
          count_none counts v
          (λ i l.
          not_both (not (eqb (suc i) k)) (is_across area cross n k (suc i))
          (λ d t. let e = eq-eqb (suc i) k (own (suc i) ((across_is k (suc i)).sound t)) in true_not_false (not true) (ap not (sym e) ∙ d) refl)),
    )

    pub neighbours_le : neighbours area cross n v k ≤ v
    unfolding neighbours
    neighbours_le = count_le _ v

    -- a neighbour is across some side, and the first such side tells which neighbour it is
    side : ℕ → ℕ
    side i = find (leads k (suc i)) n

    side_of : (i : ℕ) → counts i ≡ true → (side i < n) × (leads k (suc i) (side i) ≡ true)
    unfolding side
    side_of i t =
        let x = (across_is k (suc i)).sound (both_right (not (eqb (suc i) k)) (is_across area cross n k (suc i)) t) in
        let at = (decides_both (decides_eq (area x.side) k) (decides_eq (area (cross x.side)) (suc i))).complete (x.here, x.there) in
        let l : find (leads k (suc i)) n < n = omega (arith, x.below, find_at_most (leads k (suc i)) n x.side x.below at) in
        (l, find_has (leads k (suc i)) n l)

    beyond : (i : ℕ) → counts i ≡ true → area (cross (side i)) ≡ suc i
    beyond i t =
        eqb-true (area (cross (side i))) (suc i) (both_right (eqb (area (side i)) k) (eqb (area (cross (side i))) (suc i)) (side_of i t).1)

    pub neighbours_most : neighbours area cross n v k ≤ count (λ p. eqb (area p) k) n
    unfolding neighbours
    neighbours_most =
        count_injection counts (λ p. eqb (area p) k) side v n
        (λ i l t. (side_of i t).0)
        (λ i l t. both_left (eqb (area (side i)) k) (eqb (area (cross (side i))) (suc i)) (side_of i t).1)
        (λ i h l m t u e. let s : suc i ≡ suc h = sym (beyond i t) ∙ ap (λ p. area (cross p)) e ∙ beyond h u in omega arith)

-- an account of the ends, and one of their positions: `at p` is the end at position p, `to h` the position of end h
module _ (area cross area' cross' at to : ℕ → ℕ) (n : ℕ)
    (at_below : (p : ℕ) → p < n → at p < n)
    (to_below : (h : ℕ) → h < n → to h < n)
    (at_to : (h : ℕ) → h < n → at (to h) ≡ h)
    (own : (p : ℕ) → p < n → area (at p) ≡ area' p)
    (over : (p : ℕ) → p < n → area (cross (at p)) ≡ area' (cross' p)) where
  across_same : (k j : ℕ) → is_across area cross n k j ≡ is_across area' cross' n k j
  across_same k j =
      bool_same (is_across area cross n k j) (is_across area' cross' n k j)
      (λ t.
      let x = (across_is area cross n k j).sound t in
      let p : ℕ = to x.side in
      let l = to_below x.side x.below in
      let e = at_to x.side x.below in
      (across_is area' cross' n k j).complete
      (record { side = p; below = l; here = sym (own p l) ∙ ap area e ∙ x.here; there = sym (over p l) ∙ ap (λ h. area (cross h)) e ∙ x.there }))
      (λ t.
      let x = (across_is area' cross' n k j).sound t in
      let p : ℕ = x.side in
      let l = x.below in
      (across_is area cross n k j).complete (record { side = at p; below = at_below p l; here = own p l ∙ x.here; there = over p l ∙ x.there }))

  pub neighbours_same : (v k : ℕ) → neighbours area cross n v k ≡ neighbours area' cross' n v k
  unfolding neighbours
  neighbours_same v k =
      count_same (counts area cross n v k) (counts area' cross' n v k) v
      (λ i l. ap (λ t. not (eqb (suc i) k) && t) (across_same k (suc i)))

-- the side at p of one account is the side `at p` of the other, and what follows it on the walk too; of no sides any p is the first
module _ (area cross along area' cross' along' at : ℕ → ℕ) (n : ℕ)
    (over : (p : ℕ) → p < n → area (cross (at p)) ≡ area' (cross' p))
    (next : (p : ℕ) → p < n → along (at p) ≡ at (along' p))
    (next_below : (p : ℕ) → p < n → along' p < n) where
  pub landings_same : (d p : ℕ) → (0 < d → p < n) → landings area cross along d (at p) ≡ landings area' cross' along' d p
  unfolding landings
  landings_same zero p some = refl
  landings_same (suc d) p some =
      let l : p < n = some (omega arith) in
      ap₂ (λ (j : ℕ) (js : List ℕ). j ∷ js) (over p l)
      (ap (landings area cross along d) (next p l) ∙ landings_same d (along' p) (λ s. next_below p l))
