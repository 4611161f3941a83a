-- The mates on the way: a pair is known once its closing was passed; till then the entry of its opening says nothing. A word that is
-- balanced in both families.
--
-- Paired w old p l == l is old, with the mates of the pairs that were passed before p
-- paired_start    == before the first position
-- paired_opens    == an opening is put down as its own mate, for now
-- paired_closes   == a closing and its opening become mates
-- paired_end      == after the last position all have their mates
-- Assumes nothing.
use mathlib.Core.Path.{◌≡◌, refl, sym, ap, ◌∙◌}
use mathlib.Core.Logic.{◌≢◌, inl, inr}
use mathlib.Core.List.{List}
use Prim.Native.Nat.{ℕ, ◌+◌, ◌<◌, ◌≤◌}
use native.Mathlib.Omega.{arith}
use lib.ListN.{length, get_or, set, length-set}
use lib.Seq.{get_or-set_same, get_or-set_other}
use Rattle.count.specs.Below.{table}
use Rattle.count.proofs.Logic.{same_or_not}
use Rattle.answers.specs.Lent.{laid}
use Rattle.words.specs.Brackets.{Balanced, opens, closes, inner, mate}
use Rattle.words.specs.declared.family.Family.{Family}
use Rattle.words.specs.Word.{Word, seen, mate_in}
use Rattle.words.proofs.Mate.{inner_closing}
use Rattle.words.proofs.Mates.{seen_opens, seen_closes, mate_own, mate_in_opens, mate_in_closes, mate_in_below, mate_in_involutive}
use Rattle.lending.proofs.Laying.{laid_table}

pub record Paired (w : Word) (old : List ℕ) (p : ℕ) (l : List ℕ) : Type 0 where
  pub room : w.size ≤ length old
  pub long : length l ≡ length old
  pub paired : (q : ℕ) → q < p → mate_in w q < p → get_or l q 0 ≡ mate_in w q
  pub rest : (q : ℕ) → p ≤ q → get_or l q 0 ≡ get_or old q 0

module _ (w : Word) (old : List ℕ) where
  pub paired_start : w.size ≤ length old → Paired w old 0 old
  paired_start r =
      record {
        room = r;
        long = refl;
        paired = λ q i j. absurd (omega arith);
        rest = λ q i. refl;
      }

  pub paired_end : (p : ℕ) (l : List ℕ) → ((K : Family) → Balanced (seen K w) w.size) → Paired w old p l → w.size ≡ p
      → l ≡ laid (table (mate_in w) w.size) old
  paired_end p l bal P e =
      laid_table (mate_in w) w.size old l P.long P.room
      (λ q i. P.paired q (omega arith) (omega (arith, mate_in_below w bal q i)))
      (λ q i. P.rest q (omega arith))

  module _ (bal : (K : Family) → Balanced (seen K w) w.size) (K : Family) (p : ℕ) (i : p < w.size) (l : List ℕ) (P : Paired w old p l) where
    here : p < length l
    here = omega (arith, P.room, P.long)

    -- who crosses to p is who p crosses to
    crossed : (q : ℕ) → q < w.size → mate_in w q ≡ p → q ≡ mate_in w p
    crossed q j e = sym (mate_in_involutive w bal q j) ∙ ap (mate_in w) e

    pub paired_opens : seen K w p ≡ opens → Paired w old (p + 1) (set (set l p p) p p)
    paired_opens o =
        let up : p < mate_in w p = mate_in_opens w bal p i (seen_opens w K p o).1 in
        let other : (x : ℕ) → x ≢ p → get_or (set (set l p p) p p) x 0 ≡ get_or l x 0
        = λ x c. get_or-set_other (set l p p) p x p 0 c ∙ get_or-set_other l p x p 0 c in
        record {
          room = P.room;
          long = length-set (set l p p) p p ∙ length-set l p p ∙ P.long;
          paired = λ q j k.
              elim (same_or_not q p) [
                | inl c ↦ let z : p < mate_in w q = rw c up in absurd (omega arith)
                | inr c ↦
                    other q c
                    ∙ P.paired q (omega arith)
                    (elim (same_or_not (mate_in w q) p) [
                      | inl d ↦ absurd (let z = crossed q (omega arith) d in omega arith)
                      | inr d ↦ omega arith
                    ])
              ];
          rest = λ q j. other q (λ c. omega arith) ∙ P.rest q (omega arith);
        }

    module _ (q : ℕ) (o : seen K w p ≡ closes) (e : inner (seen K w) p ≡ q + 1) where
      opening : q ≡ mate_in w p
      opening =
          let h = seen_closes w K p o in
          let m : mate (seen K w) w.size p ≡ mate_in w p = mate_own w K p h.0 in
          omega (arith, inner_closing (seen K w) w.size (bal K) p i o)

      earlier : q < p
      earlier = let h = mate_in_closes w bal p i (seen_closes w K p o).1 in let g = opening in omega arith

      returned : mate_in w q ≡ p
      returned = ap (mate_in w) opening ∙ mate_in_involutive w bal p i

      pub paired_closes : Paired w old (p + 1) (set (set l q p) p q)
      paired_closes =
          let b : q < p = earlier in
          let r : mate_in w q ≡ p = returned in
          let o' : q ≡ mate_in w p = opening in
          let in_list : p < length (set l q p) = omega (arith, length-set l q p, here) in
          let other : (x : ℕ) → x ≢ p → x ≢ q → get_or (set (set l q p) p q) x 0 ≡ get_or l x 0
          = λ x c d. get_or-set_other (set l q p) p x q 0 c ∙ get_or-set_other l q x p 0 d in
          record {
            room = P.room;
            long = length-set (set l q p) p q ∙ length-set l q p ∙ P.long;
            paired = λ x j k.
                elim (same_or_not x p) [
                  | inl c ↦
                      ap (λ z. get_or (set (set l q p) p q) z 0) c ∙ get_or-set_same (set l q p) p q 0 in_list ∙ o' ∙ ap (mate_in w) (sym c)
                  | inr c ↦
                      elim (same_or_not x q) [
                        | inl d ↦
                            ap (λ z. get_or (set (set l q p) p q) z 0) d
                            ∙ get_or-set_other (set l q p) p q q 0 (λ z. omega arith)
                            ∙ get_or-set_same l q p 0 (omega (arith, here))
                            ∙ sym r ∙ ap (mate_in w) (sym d)
                        | inr d ↦
                            other x c d
                            ∙ P.paired x (omega arith)
                            (elim (same_or_not (mate_in w x) p) [
                              | inl y ↦ absurd (d (crossed x (omega arith) y ∙ sym o'))
                              | inr y ↦ omega arith
                            ])
                      ]
                ];
            rest = λ x j. other x (λ c. omega arith) (λ d. omega arith) ∙ P.rest x (omega arith);
          }
