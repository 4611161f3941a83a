-- How many brackets open: in a word of two families as in the string of one.
--
-- thin_openings  == as many of the family open before p as open in its string before the rank of p
-- thin_rank      == the rank of the innermost open bracket is the innermost open one of the string
-- thin_number    == the number at p is the number in the string at the rank of p
-- thin_opening   == the j-th opening of the family is the j-th of its string, sent back
-- Assumes nothing.
use mathlib.Core.Path.{◌≡◌, refl, sym, ap, ◌∙◌}
use mathlib.Core.Logic.{⊎_elim}
use mathlib.Core.Bool.{Bool, true, false}
use Prim.Native.Nat.{ℕ, zero, suc, ◌+◌, ◌<◌, ◌≤◌}
use native.Mathlib.Omega.{arith}
use Rattle.count.specs.Below.{count, nth}
use Rattle.count.proofs.Below.{count_zero, count_yes, nth_below, nth_has, nth_count, nth_of_count}
use Rattle.words.specs.Brackets.{Bracket, is_opens, inner, number}
use Rattle.words.proofs.Stack.{zero_or_more, inner_le}
use Rattle.words.proofs.Numbers.{openings, number_is}
use Rattle.words.proofs.Thin.{Thins, thin_inner}

module _ (P : ℕ → Bool) (b c : ℕ → Bracket) (n : ℕ) (T : Thins P b c n) where
  -- one letter more
  openings_grow : (p : ℕ) → p < n → (t : Bool) → P p ≡ t → openings b p ≡ openings c (count P p) → openings b (suc p) ≡ openings c (count P (suc p))
  unfolding count
  openings_grow p l true e ih = rw (e, T.inside p l e, ih)
  openings_grow p l false e ih = rw (e, T.outside p l e) ih

  pub thin_openings : (p : ℕ) → p ≤ n → openings b p ≡ openings c (count P p)
  unfolding count
  thin_openings zero l = refl
  thin_openings (suc p) l = openings_grow p l (P p) refl (thin_openings p (omega arith))

  pub thin_rank : (p : ℕ) → p ≤ n → count P (inner b p) ≡ inner c (count P p)
  thin_rank p l =
      let h = thin_inner P b c n T p l in
      ⊎_elim
      (λ e. ap (count P) (h.0.1 e) ∙ count_zero P ∙ sym e)
      (λ t.
      let q = nth P t.0 n in
      let f : inner b p ≡ q + 1 = h.1 t.0 t.1 in
      let k : q < n = omega (arith, inner_le b p) in
      ap (count P) f ∙ count_yes P q (nth_has P t.0 n k) ∙ omega (arith, nth_count P t.0 n k, t.1))
      (zero_or_more (inner c (count P p)))

  pub thin_number : (p : ℕ) → p ≤ n → number b p ≡ number c (count P p)
  thin_number p l =
      let e : openings b (inner b p) ≡ openings c (count P (inner b p)) = thin_openings (inner b p) (omega (arith, inner_le b p)) in
      let f : openings c (count P (inner b p)) ≡ openings c (inner c (count P p)) = ap (openings c) (thin_rank p l) in
      omega (arith, number_is b p, number_is c (count P p))

  pub thin_opening : (j : ℕ) → j < openings c (count P n)
      → nth (λ q. is_opens (b q)) j n ≡ nth P (nth (λ q. is_opens (c q)) j (count P n)) n
  thin_opening j l =
      let i = nth (λ q. is_opens (c q)) j (count P n) in
      let k : i < count P n = nth_below (λ q. is_opens (c q)) j (count P n) l in
      let q = nth P i n in
      let m : q < n = nth_below P i n k in
      let e : count P q ≡ i = nth_count P i n m in
      let o : is_opens (b q) ≡ true
      = ap is_opens (T.inside q m (nth_has P i n m) ∙ ap c e) ∙ nth_has (λ q. is_opens (c q)) j (count P n) k in
      let f : openings b q ≡ j
      = thin_openings q (omega arith) ∙ ap (openings c) e ∙ nth_count (λ q. is_opens (c q)) j (count P n) k in
      ap (λ x. nth (λ q. is_opens (b q)) x n) (sym f) ∙ nth_of_count (λ q. is_opens (b q)) q n m o
