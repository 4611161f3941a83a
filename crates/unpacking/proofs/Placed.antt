-- The pass that puts an end at each position: the next even one at an opening, the one beside its mate's at a closing.
--
-- nested_in         == the word of bytes that open is balanced in both families
-- end_first, end_second == which of two numbers the end at a position is
-- Placing s old n p even l == the ends before position p stand in l, and the next opening has the end `even`
-- placing_start, placing_opens, placing_closes, placing_end == from one position to the next
-- placing_room, mate_room == there are entries for a position and for its mate
-- end_small       == an end fits its entry
-- Assumes nothing.
use mathlib.Core.Path.{◌≡◌, refl, sym, ap, ◌∙◌}
use mathlib.Core.Logic.{◌≢◌, ⊎_elim}
use mathlib.Core.Bool.{true, false, not}
use mathlib.Core.List.{List}
use Prim.Native.Nat.{ℕ, ◌+◌, ◌*◌, ◌<◌, ◌≤◌}
use native.Mathlib.Omega.{arith}
use borrow.Author.Tests.{lt-ltb, le-ltb}
use lib.Dec.{ltb}
use lib.ListN.{length, get_or, set}
use Rattle.count.specs.Below.{pick}
use Rattle.count.proofs.Logic.{lt_or_ge, pick_yes, pick_no}
use Rattle.count.proofs.Below.{count_zero, count_yes, count_no, count_le}
use Rattle.words.specs.Brackets.{Balanced}
use Rattle.words.specs.declared.family.Family.{Family}
use Rattle.words.specs.Word.{Word, seen, mate_in}
use Rattle.words.proofs.Mates.{mate_in_below, mate_in_closing, mate_in_moves, mate_in_later, mate_in_earlier}
use Rattle.format.specs.Bytes.{size_in, bits_a, word_in}
use Rattle.format.specs.Open.{open_refusal}
use Rattle.format.specs.Pack.{opens_before, end_in}
use Rattle.format.proofs.Passes.{opens_passes}
use Rattle.format.proofs.Decode.{passes_nested}
use Rattle.roundtrip.proofs.Ends.{end_in_opens, end_in_closes, end_in_below}
use Rattle.surveying.specs.Surveyed.{Mates}
use Rattle.walking.proofs.Decoded.{places_most}
use Rattle.unpacking.specs.Ended.{Ends}
use Rattle.unpacking.proofs.Filling.{Filling, filling_start, filling_more}

pub nested_in : (s : List ℕ) → open_refusal s ≡ 0 → (K : Family) → Balanced (seen K (word_in s)) (word_in s).size
unfolding word_in
nested_in s o K = passes_nested s (opens_passes s o) K

-- ---- counting the openings
module _ (w : Word) where
  opens_zero : opens_before w 0 ≡ 0
  unfolding opens_before
  opens_zero = count_zero (λ q. not (w.letter q).closing)

  opens_le : (p : ℕ) → opens_before w p ≤ p
  unfolding opens_before
  opens_le p = count_le (λ q. not (w.letter q).closing) p

  opens_more : (p : ℕ) → (w.letter p).closing ≡ false → opens_before w (p + 1) ≡ opens_before w p + 1
  unfolding opens_before
  opens_more p e = count_yes (λ q. not (w.letter q).closing) p (ap not e)

  opens_same : (p : ℕ) → (w.letter p).closing ≡ true → opens_before w (p + 1) ≡ opens_before w p
  unfolding opens_before
  opens_same p e = count_no (λ q. not (w.letter q).closing) p (ap not e)

-- the end at a closing is beside its partner's
beside_closes : (w : Word) (bal : (K : Family) → Balanced (seen K w) w.size) (p : ℕ) → p < w.size → (w.letter p).closing ≡ true
    → end_in w p ≡ end_in w (mate_in w p) + 1
beside_closes w bal p l t =
    end_in_closes w p t ∙ ap (λ x. x + 1) (sym (end_in_opens w (mate_in w p) (mate_in_closing w bal p l ∙ ap not t)))

pub end_first : (p q even x : ℕ) → p < q → even ≡ pick (ltb p q) even x
end_first p q even x c = sym (pick_yes (ltb p q) even x (lt-ltb p q c))

pub end_second : (p q even x : ℕ) → q ≤ p → x ≡ pick (ltb p q) even x
end_second p q even x c = sym (pick_no (ltb p q) even x (le-ltb p q c))

module _ (s old : List ℕ) (n : ℕ) where
  pub record Placing (p even : ℕ) (l : List ℕ) : Type 0 where
    pub opens : open_refusal s ≡ 0
    pub size : n ≡ bits_a (size_in s)
    pub few : n ≤ 4096
    pub counted : even ≡ 2 * opens_before (word_in s) p
    pub small : even ≤ 2 * p
    pub filling : Filling old n (end_in (word_in s)) (λ x. x) p l

  pub placing_start : open_refusal s ≡ 0 → n ≡ bits_a (size_in s) → 4096 ≤ length old → Placing 0 0 old
  placing_start o h r =
      let f : n ≤ 4096 = omega (arith, places_most s o) in
      record {
        opens = o;
        size = h;
        few = f;
        counted = omega (arith, opens_zero (word_in s));
        small = omega arith;
        filling = filling_start old n (end_in (word_in s)) (λ x. x) (omega arith);
      }

  module _ (p even : ℕ) (l : List ℕ) (W : Placing p even l) where
    pub placing_room : p < n → p < length l
    placing_room h = omega (arith, W.filling.room, W.filling.same_length)

    pub placing_end : n ≤ p → Ends s l
    placing_end h = record { at = λ q i. W.filling.done q (omega (arith, W.size)) }

    module _ (mates : List ℕ) (q : ℕ) (h : p < n) (M : Mates s mates) (k : 4096 ≤ length mates) (e : q ≡ get_or mates p 0) where
      bal : (K : Family) → Balanced (seen K (word_in s)) (word_in s).size
      bal = nested_in s W.opens

      inside : p < (word_in s).size
      unfolding word_in
      inside = omega (arith, W.size)

      mate_is : q ≡ mate_in (word_in s) p
      mate_is = e ∙ M.at p (omega (arith, W.size)) (omega (arith, W.few))

      pub mate_room : q < length l
      unfolding word_in
      mate_room =
          omega (arith, mate_is, mate_in_below (word_in s) bal p inside, W.size, W.filling.room, W.filling.same_length)

      module _ (x h' : ℕ) (g : x ≡ get_or l q 0) (r : h' ≡ pick (ltb p q) even (x + 1)) where
        later : p < q → (((word_in s).letter p).closing ≡ false) × (h' ≡ end_in (word_in s) p)
        later c =
            let w = word_in s in
            let t : (w.letter p).closing ≡ false = mate_in_later w bal p inside (omega (arith, mate_is)) in
            (t, r ∙ pick_yes (ltb p q) even (x + 1) (lt-ltb p q c) ∙ W.counted ∙ sym (end_in_opens w p t))

        earlier : q ≤ p → (((word_in s).letter p).closing ≡ true) × (h' ≡ end_in (word_in s) p)
        earlier c =
            let w = word_in s in
            let m : q ≢ p = λ z. mate_in_moves w bal p inside (sym mate_is ∙ z) in
            let b : q < p = omega arith in
            let t : (w.letter p).closing ≡ true = mate_in_earlier w bal p inside (omega (arith, mate_is)) in
            let e : x ≡ end_in w (mate_in w p) = g ∙ W.filling.done q b ∙ ap (end_in w) mate_is in
            (t, r ∙ pick_no (ltb p q) even (x + 1) (le-ltb p q c) ∙ ap (λ z. z + 1) e ∙ sym (beside_closes w bal p inside t))

        end_is : h' ≡ end_in (word_in s) p
        end_is = ⊎_elim (λ c. (later c).1) (λ c. (earlier c).1) (lt_or_ge p q)

        pub end_small : h' < 65536
        unfolding word_in
        end_small = omega (arith, end_is, end_in_below (word_in s) bal p inside, W.size, W.few)

        more : (even' : ℕ) → even' ≡ 2 * opens_before (word_in s) (p + 1) → Placing (p + 1) even' (set l p h')
        more even' e =
            record {
              opens = W.opens;
              size = W.size;
              few = W.few;
              counted = e;
              small = omega (arith, opens_le (word_in s) (p + 1));
              filling = filling_more old n (end_in (word_in s)) (λ x. x) p l W.filling p h' h refl end_is;
            }

        pub placing_opens : p < q → (even' : ℕ) → even' ≡ even + 2 → Placing (p + 1) even' (set l p h')
        placing_opens c even' e = more even' (omega (arith, W.counted, opens_more (word_in s) p (later c).0))

        pub placing_closes : q ≤ p → (even' : ℕ) → even' ≡ even → Placing (p + 1) even' (set l p h')
        placing_closes c even' e = more even' (omega (arith, W.counted, opens_same (word_in s) p (earlier c).0))
