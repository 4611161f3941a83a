-- The word of a tour is balanced in both families, and partners are the two places of a border.
--
-- family_of t       == the family of a border by its mark: round if it is marked, square if not
-- in_family D K e   == whether border e is of family K
-- met_in D K p      == whether the border met at position p is
-- partner_in D K p  == p's partner where its border is of family K, else p: partner_in_lem, partner_out
-- word_size        == the word has as many letters as there are ends
-- seen_is          == what the letter at p is to family K: neither, or by whether p's partner comes before p
-- seen_out, seen_opens, seen_closes == the three cases
-- word_pairing     == partner_in pairs the letters of family K, and no two pairs alternate
-- word_balanced    == so the word is balanced
-- mate_partner     == and partner_in gives the partners
-- cross_mate       == the place of the other end is the partner in its own family
-- Assumes nothing.
use mathlib.Core.Path.{◌≡◌, refl, sym, ap, ◌∙◌}
use mathlib.Core.Logic.{◌≢◌, ◌↔◌, inl, inr}
use mathlib.Core.Bool.{Bool, true, false}
use Prim.Native.Nat.{ℕ, ◌<◌}
use native.Mathlib.Omega.{arith}
use lib.Dec.{ltb}
use borrow.Author.Tests.{lt-ltb, le-ltb}
use Rattle.count.specs.Below.{pick}
use Rattle.count.proofs.Logic.{lt_or_ge, true_or_false, pick_yes, pick_no}
use Rattle.words.specs.Brackets.{opens, closes, neither, Balanced, mate}
use Rattle.words.specs.declared.family.Family.{Family}
use Rattle.words.specs.declared.family.Family.TheVariants.{Round as round, Square as square}
use Rattle.words.specs.Word.{same_family, seen, mate_in}
use Rattle.words.proofs.Letters.{opens_not_closes, opens_not_neither, closes_not_neither}
use Rattle.words.proofs.Unique.{Pairing, pairing_balanced, mate_unique}
use Rattle.drawing.specs.Drawing.{Drawing, ends, border, other, is_marked, end_at, position_of}
use Rattle.format.specs.Pack.{word_of}
use Rattle.agreement.specs.Toured.{Toured}
use Rattle.agreement.proofs.Positions.{partner, partner_below, partner_involutive, partner_moves, partner_border, border_places, second_after}

abbrev pub family_of : Bool → Family
family_of t = pick t round square

abbrev pub in_family : Drawing → Family → ℕ → Bool
in_family D K e = same_family K (family_of (is_marked D e))

abbrev pub met_in : Drawing → Family → ℕ → Bool
met_in D K p = in_family D K (border (end_at D p))

abbrev pub partner_in : Drawing → Family → ℕ → ℕ
partner_in D K p = pick (met_in D K p) (partner D p) p

-- two borders of one family are both marked or both not
one_family : (K : Family) (s t : Bool) → same_family K (family_of s) ≡ true → same_family K (family_of t) ≡ true → s ≡ t
one_family round true true e f = refl
one_family round true false e f = cc
one_family round false true e f = cc
one_family round false false e f = refl
one_family square true true e f = refl
one_family square true false e f = cc
one_family square false true e f = cc
one_family square false false e f = refl

-- a border is of its own family
own_family : (t : Bool) → same_family (family_of t) (family_of t) ≡ true
own_family true = refl
own_family false = refl

pub word_size : (D : Drawing) → (word_of D).size ≡ ends D
unfolding word_of
word_size D = refl

module _ {D : Drawing} (T : Toured D) where
  pub seen_is : (K : Family) (p : ℕ) → p < ends D
      → seen K (word_of D) p ≡ pick (met_in D K p) (pick (ltb (partner D p) p) closes opens) neither
  unfolding seen word_of
  seen_is K p l = rw (second_after T p l)

  module _ (K : Family) where
    pub seen_out : (p : ℕ) → p < ends D → met_in D K p ≡ false → seen K (word_of D) p ≡ neither
    seen_out p l e = rw (seen_is K p l, e)

    pub seen_opens : (p : ℕ) → p < ends D → met_in D K p ≡ true → p < partner D p → seen K (word_of D) p ≡ opens
    seen_opens p l e h = rw (seen_is K p l, e, le-ltb (partner D p) p (omega arith))

    pub seen_closes : (p : ℕ) → p < ends D → met_in D K p ≡ true → partner D p < p → seen K (word_of D) p ≡ closes
    seen_closes p l e h = rw (seen_is K p l, e, lt-ltb (partner D p) p h)

    pub partner_in_lem : (p : ℕ) → met_in D K p ≡ true → partner_in D K p ≡ partner D p
    partner_in_lem p e = pick_yes (met_in D K p) (partner D p) p e

    pub partner_out : (p : ℕ) → met_in D K p ≡ false → partner_in D K p ≡ p
    partner_out p e = pick_no (met_in D K p) (partner D p) p e

    -- a letter of family K is one of its border's two places
    met_in_lem : (p : ℕ) → p < ends D → seen K (word_of D) p ≢ neither → met_in D K p ≡ true
    met_in_lem p l d = elim (true_or_false (met_in D K p)) [ inl t ↦ t | inr f ↦ absurd (d (seen_out p l f)) ]

    seen_in : (p : ℕ) → p < ends D → met_in D K p ≡ true → seen K (word_of D) p ≢ neither
    seen_in p l t e =
        elim (lt_or_ge p (partner D p)) [
          | inl h ↦ opens_not_neither (seen_opens p l t h) e
          | inr h ↦ let d : partner D p ≢ p = partner_moves T p l in closes_not_neither (seen_closes p l t (omega arith)) e
        ]

    -- partners are of one family
    met_partner : (p : ℕ) → p < ends D → met_in D K (partner D p) ≡ met_in D K p
    met_partner p l = ap (in_family D K) (partner_border T p l)

    -- the openings of family K are the first places of its borders
    opening : (p : ℕ) → p < ends D
        → (seen K (word_of D) p ≡ opens) ↔ ((seen K (word_of D) p ≢ neither) × (p < partner_in D K p))
    opening p l = (
      λ o.
          let d : seen K (word_of D) p ≢ neither = λ e. opens_not_neither o e in
          let t = met_in_lem p l d in
          elim (lt_or_ge p (partner D p)) [
            | inl h ↦ (d, rw (partner_in_lem p t) h)
            | inr h ↦ let m : partner D p ≢ p = partner_moves T p l in absurd (opens_not_closes o (seen_closes p l t (omega arith)))
          ],
      λ w. let t = met_in_lem p l w.0 in seen_opens p l t (rw (partner_in_lem p t) at w.1),
    )

    -- two pairs of places that alternate would be two borders that do
    nested : (p q : ℕ) → p < ends D → q < ends D → seen K (word_of D) p ≢ neither → seen K (word_of D) q ≢ neither
        → p < q → q < partner_in D K p → partner_in D K p < partner_in D K q → ⊥
    nested p q l k d e h i j =
        let s = met_in_lem p l d in
        let t = met_in_lem q k e in
        let i' : q < partner D p = rw (partner_in_lem p s) at i in
        let j' : partner D p < partner D q = rw (partner_in_lem p s, partner_in_lem q t) at j in
        T.nests (border (end_at D p)) (border (end_at D q))
        (λ same. elim (border_places T p q l k (sym same)) [ inl z ↦ omega arith | inr z ↦ omega arith ])
        (one_family K (is_marked D (border (end_at D p))) (is_marked D (border (end_at D q))) s t)
        (record {
          p = p;
          q = q;
          r = partner D p;
          s = partner D q;
          p_q = h;
          q_r = i';
          r_s = j';
          s_end = partner_below T q k;
          at_p = refl;
          at_q = refl;
          at_r = partner_border T p l;
          at_s = partner_border T q k;
        })

    word_pairing : Pairing (seen K (word_of D)) (ends D) (partner_in D K)
    word_pairing =
        record {
          below = λ p l. elim (true_or_false (met_in D K p)) [
            | inl t ↦ rw (partner_in_lem p t) (partner_below T p l)
            | inr f ↦ rw (partner_out p f) l
          ];
          involutive = λ p l. elim (true_or_false (met_in D K p)) [
            | inl t ↦ rw (partner_in_lem p t) (partner_in_lem (partner D p) (met_partner p l ∙ t) ∙ partner_involutive T p l)
            | inr f ↦ rw (partner_out p f) (partner_out p f)
          ];
          stays = λ p l e. elim (true_or_false (met_in D K p)) [
            | inl t ↦ absurd (seen_in p l t e)
            | inr f ↦ partner_out p f
          ];
          moves = λ p l d. rw (partner_in_lem p (met_in_lem p l d)) (partner_moves T p l);
          keeps = λ p l d. let t = met_in_lem p l d in
              rw (partner_in_lem p t) (seen_in (partner D p) (partner_below T p l) (met_partner p l ∙ t));
          opening = opening;
          nested = nested;
        }

    pub word_balanced : Balanced (seen K (word_of D)) (ends D)
    word_balanced = pairing_balanced (seen K (word_of D)) (ends D) (partner_in D K) word_pairing

    pub mate_partner : (p : ℕ) → p < ends D → mate (seen K (word_of D)) (ends D) p ≡ partner_in D K p
    mate_partner p l = mate_unique (seen K (word_of D)) (ends D) (partner_in D K) word_pairing p l

  pub cross_mate : (p : ℕ) → p < ends D → position_of D (other (end_at D p)) ≡ mate_in (word_of D) p
  unfolding mate_in word_of
  cross_mate p l =
      let K : Family = family_of (is_marked D (border (end_at D p))) in
      sym (mate_partner K p l ∙ partner_in_lem K p (own_family (is_marked D (border (end_at D p)))))
