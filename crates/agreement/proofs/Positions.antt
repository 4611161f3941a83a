-- Positions of the tour and the ends at them.
--
-- partner D p      == the position of the other end of the border met at position p
-- end_permutes     == the ends at the positions are a permutation
-- end_other        == the other end of the end at p is the end at p's partner
-- partner_below, partner_involutive, partner_moves == partners are positions, partners of one another, and two
-- partner_border   == partners are places of one border
-- border_places    == a border's only places are p and its partner
-- second_after     == a position is its border's second place exactly if its partner comes before it
-- end_next         == the end at the next position is one step of the tour further on
-- Assumes nothing.
use mathlib.Core.Path.{◌≡◌, sym, ap, ◌∙◌}
use mathlib.Core.Logic.{◌≢◌, ◌⊎◌, inl, inr}
use mathlib.Core.Bool.{Bool}
use Prim.Native.Nat.{ℕ, ◌+◌, ◌<◌}
use native.Mathlib.Omega.{arith}
use lib.Dec.{eqb, ltb}
use borrow.Author.Tests.{eqb-true, eq-eqb, ltb-true, lt-ltb}
use Rattle.count.proofs.Logic.{same_or_not, bool_same}
use Rattle.count.proofs.Below.{any_has, any_from}
use Rattle.orbits.specs.Cycles.{Permutes}
use Rattle.words.specs.Brackets.{next}
use Rattle.words.proofs.Step.{next_plain, next_last}
use Rattle.drawing.specs.Drawing.{Drawing, ends, border, other, is_marked, walk, end_at, position_of, is_second}
use Rattle.drawing.proofs.Ends.{other_border, other_other, other_moves, other_end, border_two, end_zero, end_after}
use Rattle.agreement.specs.Toured.{Toured}

abbrev pub partner : Drawing → ℕ → ℕ
partner D p = position_of D (other (end_at D p))

module _ {D : Drawing} (T : Toured D) where
  pub end_permutes : Permutes (ends D) (end_at D)
  end_permutes =
      record {
        below = T.meets.end_below;
        injective = λ p q l k e. sym (T.meets.position_end p l) ∙ ap (position_of D) e ∙ T.meets.position_end q k;
      }

  -- what stands across from a position is an end
  other_below_at : (p : ℕ) → p < ends D → other (end_at D p) < ends D
  other_below_at p l = other_end D (end_at D p) (T.meets.end_below p l)

  pub end_other : (p : ℕ) → p < ends D → end_at D (partner D p) ≡ other (end_at D p)
  end_other p l = T.meets.end_position (other (end_at D p)) (other_below_at p l)

  pub partner_below : (p : ℕ) → p < ends D → partner D p < ends D
  partner_below p l = T.meets.position_below (other (end_at D p)) (other_below_at p l)

  pub partner_involutive : (p : ℕ) → p < ends D → partner D (partner D p) ≡ p
  partner_involutive p l =
      ap (λ h. position_of D (other h)) (end_other p l) ∙ ap (position_of D) (other_other (end_at D p)) ∙ T.meets.position_end p l

  pub partner_moves : (p : ℕ) → p < ends D → partner D p ≢ p
  partner_moves p l e = other_moves (end_at D p) (sym (end_other p l) ∙ ap (end_at D) e)

  pub partner_border : (p : ℕ) → p < ends D → border (end_at D (partner D p)) ≡ border (end_at D p)
  partner_border p l = ap border (end_other p l) ∙ other_border (end_at D p)

  pub border_places : (p q : ℕ) → p < ends D → q < ends D → border (end_at D q) ≡ border (end_at D p) → (q ≡ p) ⊎ (q ≡ partner D p)
  border_places p q l k e =
      elim (border_two (end_at D q) (end_at D p) e) [
        | inl s ↦ inl (end_permutes.injective q p k l s)
        | inr s ↦ inr (end_permutes.injective q (partner D p) k (partner_below p l) (s ∙ sym (end_other p l)))
      ]

  pub second_after : (p : ℕ) → p < ends D → is_second D p ≡ ltb (partner D p) p
  unfolding is_second
  second_after p l =
      let met : ℕ → Bool = λ q. eqb (border (end_at D q)) (border (end_at D p)) in
      bool_same (is_second D p) (ltb (partner D p) p)
      (λ t. let a = any_has met p t in
      elim (border_places p a.0 l (omega (arith, a.1)) (eqb-true (border (end_at D a.0)) (border (end_at D p)) a.2)) [
        | inl e ↦ absurd (omega (arith, a.1))
        | inr e ↦ lt-ltb (partner D p) p (rw e at a.1)
      ])
      (λ t. any_from met p (partner D p) (ltb-true (partner D p) p t) (eq-eqb (border (end_at D (partner D p))) (border (end_at D p)) (partner_border p l)))

  pub end_next : (p : ℕ) → p < ends D → end_at D (next (ends D) p) ≡ walk D (is_marked D) (end_at D p)
  end_next p l =
      elim (same_or_not (p + 1) (ends D)) [
        | inl e ↦
            ap (end_at D) (next_last (ends D) p e) ∙ end_zero D ∙ sym T.meets.comes_back ∙ ap (end_at D) (sym e) ∙ end_after D p
        | inr d ↦ ap (end_at D) (next_plain (ends D) p d) ∙ end_after D p
      ]
