-- Where the next bits of each family stand, and what they tell of the letter.
--
-- Unread a us p l == l has so, at the bit of each family, of strings that begin at us: the letters before position p are read
-- unread_start, unread_more == before the first position, and after one of the family
-- unread_few      == no large number, as long as there are few letters
-- unread_told     == the bit there tells what the letter is
-- Assumes nothing.
use mathlib.Core.Path.{◌≡◌, sym, ap, ◌∙◌}
use mathlib.Core.Logic.{inl, inr}
use mathlib.Core.List.{List}
use Prim.Native.Nat.{ℕ, ◌+◌, ◌^◌, ◌<◌, ◌≤◌}
use native.Mathlib.Omega.{arith}
use borrow.Author.Tests.{eq-eqb, ne_eqb}
use lib.Dec.{eqb}
use lib.ListN.{length, get_or, set, length-set}
use lib.Seq.{get_or-set_same, get_or-set_other}
use Rattle.count.specs.Below.{pick}
use Rattle.count.proofs.Logic.{pick_yes, pick_no}
use Rattle.words.specs.Brackets.{opens, closes}
use Rattle.words.specs.declared.family.Family.{Family}
use Rattle.words.specs.Word.{seen}
use Rattle.bits.specs.Strings.{bit, rank}
use Rattle.bits.specs.Letters.{family_bit}
use Rattle.bits.proofs.Laws.{bit_below_2, rank_zero, rank_here, rank_other, rank_le}
use Rattle.bits.proofs.Letters.{family_small, family_told, spelled_own, spelled_other}
use Rattle.pairing.specs.Paired.{word_at}
use Rattle.pairing.proofs.Passed.{Told}

pub record Unread (a us : List ℕ) (p : ℕ) (l : List ℕ) : Type 0 where
  pub long : 2 ≤ length l
  pub at : (K : Family) → get_or l (family_bit K) 0 ≡ get_or us (family_bit K) 0 + rank (family_bit K) a p

pub unread_start : (a us : List ℕ) → 2 ≤ length us → Unread a us 0 us
unread_start a us h = record { long = h; at = λ K. omega (arith, rank_zero (family_bit K) a) }

module _ (a us l : List ℕ) (p : ℕ) (U : Unread a us p l) (K : Family) where
  pub unread_few : (n : ℕ) → p < n → get_or us (family_bit K) 0 + n < 2 ^ 64 → get_or l (family_bit K) 0 + 1 < 2 ^ 64
  unread_few n i h = omega (arith, U.at K, rank_le (family_bit K) a p)

  module _ (own : bit a p ≡ family_bit K) where
    pub unread_more : Unread a us (p + 1) (set l (family_bit K) (get_or l (family_bit K) 0 + 1))
    unread_more =
        let x : ℕ = family_bit K in
        let y : ℕ = get_or l x 0 + 1 in
        record {
          long = omega (arith, length-set l x y, U.long);
          at = λ X.
              elim (family_told K X) [
                | inl e ↦
                    ap (λ Y. get_or (set l x y) (family_bit Y) 0) e ∙ get_or-set_same l x y 0 (omega (arith, family_small K, U.long))
                    ∙ omega (arith, U.at K, rank_here x a p own)
                    ∙ ap (λ Y. get_or us (family_bit Y) 0 + rank (family_bit Y) a (p + 1)) (sym e)
                | inr d ↦
                    get_or-set_other l x (family_bit X) y 0 d ∙ U.at X
                    ∙ ap (λ k. get_or us (family_bit X) 0 + k) (sym (rank_other (family_bit X) a p (λ e. d (sym e ∙ own))))
              ];
        }

    pub unread_told : (n v : ℕ) (t : List ℕ) → v ≡ bit t (get_or l (family_bit K) 0) → Told (word_at a n t us) K p v
    unfolding word_at
    unread_told n v t h =
        let B : Family → ℕ → ℕ = λ L j. bit t (get_or us (family_bit L) 0 + j) in
        let j : ℕ = rank (family_bit K) a p in
        let e : v ≡ B K j = h ∙ ap (bit t) (U.at K) in
        let two : B K j < 2 = bit_below_2 t (get_or us (family_bit K) 0 + j) in
        let own_seen : seen K (word_at a n t us) p ≡ pick (eqb (B K j) 0) opens closes
        = spelled_own a B n K p (eq-eqb (bit a p) (family_bit K) own) two in
        record {
          bit = omega arith;
          opening = λ z. own_seen ∙ pick_yes (eqb (B K j) 0) opens closes (eq-eqb (B K j) 0 (sym e ∙ z));
          closing = λ n. own_seen ∙ pick_no (eqb (B K j) 0) opens closes (ne_eqb (B K j) 0 (λ z. n (e ∙ z)));
          other = λ X d. spelled_other a B n X p (ne_eqb (bit a p) (family_bit X) (λ f. d (sym f ∙ own)));
        }
