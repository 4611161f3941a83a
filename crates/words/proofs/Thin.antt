-- Brackets of one family among letters of others, and the sequence that is left when the others are taken out.
--
-- Thins P b c n   == below n, b has no bracket where P fails, and c is what b has where P holds, in order
-- thin_stack      == the stack of b is that of c, each position sent back to where it stands in b
-- thin_inner      == nothing is open in b exactly if nothing is in c, and the innermost open brackets are one
-- thin_balanced   == b is balanced exactly if c is
-- thin_mate       == partners in b are partners in c, sent back
-- Assumes nothing.
use mathlib.Core.Path.{◌≡◌, refl, sym, ◌∙◌, ap}
use mathlib.Core.Logic.{◌↔◌, inl, inr}
use mathlib.Core.Bool.{Bool, true, false, ◌&&◌}
use mathlib.Core.List.{List, [], ◌∷◌, map}
use Prim.Native.Nat.{ℕ, zero, suc, pred, ◌+◌, ◌<◌, ◌≤◌}
use native.Mathlib.Numerals.{add-one}
use native.Mathlib.Omega.{arith}
use lib.Dec.{eqb}
use borrow.Author.Tests.{eqb-true, eq-eqb}
use Rattle.count.specs.Below.{count, nth, find}
use Rattle.count.proofs.Logic.{lt_or_ge, true_or_false, bool_same}
use Rattle.count.proofs.Below.{count_before, nth_below, nth_has, nth_count, nth_none, nth_of_count}
use Rattle.count.proofs.Below.{find_has, find_not, find_is, find_none}
use Rattle.words.specs.Brackets.{Bracket, opens, closes, neither, is_closes, push, stack, top, inner, Balanced, closer, mate}
use Rattle.words.proofs.Letters.{by_bracket, closes_not_neither}
use Rattle.words.proofs.Mate.{mate_of_opens, mate_of_closes, mate_neither}

pub record Thins (P : ℕ → Bool) (b c : ℕ → Bracket) (n : ℕ) : Type 0 where
  pub outside : (p : ℕ) → p < n → P p ≡ false → b p ≡ neither
  pub inside : (p : ℕ) → p < n → P p ≡ true → b p ≡ c (count P p)

map_push : (f : ℕ → ℕ) (x : Bracket) (k : ℕ) (s : List ℕ) → map f (push x k s) ≡ push x (f k) (map f s)
map_push f opens k s = refl
map_push f closes k [] = refl
map_push f closes k (q ∷ s) = refl
map_push f neither k s = refl

-- where a position of a stack is sent, its top is sent too
sent : (ℕ → ℕ) → ℕ → ℕ
sent f zero = 0
sent f (suc j) = suc (f j)

top_map : (f : ℕ → ℕ) (s : List ℕ) → top (map f s) ≡ sent f (top s)
unfolding sent
top_map f [] = refl
top_map f (q ∷ s) = refl

-- the first that has a test, where only numbers with P have it
find_thin : (P Q R : ℕ → Bool) (n : ℕ) → ((x : ℕ) → x < n → P x ≡ false → Q x ≡ false)
    → ((x : ℕ) → x < n → P x ≡ true → Q x ≡ R (count P x)) → find Q n ≡ nth P (find R (count P n)) n
find_thin P Q R n outside inside =
    let j = find R (count P n) in
    elim (lt_or_ge j (count P n)) [
      | inl l ↦
          let k = nth_below P j n l in
          let e = nth_count P j n k in
          find_is Q n (nth P j n) k (inside (nth P j n) k (nth_has P j n k) ∙ ap R e ∙ find_has R (count P n) l)
          (λ y h.
          elim (true_or_false (P y)) [
            | inl t ↦ inside y (omega arith) t ∙ find_not R (count P n) (count P y) (omega (arith, count_before P y (nth P j n) h t))
            | inr f ↦ outside y (omega arith) f
          ])
      | inr g ↦
          find_none Q n
          (λ y h.
          elim (true_or_false (P y)) [
            | inl t ↦ inside y h t ∙ find_not R (count P n) (count P y) (omega (arith, count_before P y n h t))
            | inr f ↦ outside y h f
          ])
          ∙ sym (nth_none P j n g)
    ]

module _ (P : ℕ → Bool) (b c : ℕ → Bracket) (n : ℕ) (T : Thins P b c n) where
  -- one letter more
  thin_grows : (p : ℕ) → p < n → (t : Bool) → P p ≡ t → stack b p ≡ map (λ j. nth P j n) (stack c (count P p))
      → stack b (suc p) ≡ map (λ j. nth P j n) (stack c (count P (suc p)))
  unfolding stack count
  thin_grows p l true e ih =
      let k = count P p in
      let f : ℕ → ℕ = λ j. nth P j n in
      let back : push (c k) (f k) (map f (stack c k)) ≡ push (c k) p (map f (stack c k))
      = ap (λ x. push (c k) x (map f (stack c k))) (nth_of_count P p n l e) in
      rw (e, T.inside p l e, ih) (sym (map_push f (c k) k (stack c k) ∙ back))
  thin_grows p l false e ih = rw (e, T.outside p l e) ih

  pub thin_stack : (p : ℕ) → p ≤ n → stack b p ≡ map (λ j. nth P j n) (stack c (count P p))
  unfolding stack count
  thin_stack zero l = refl
  thin_stack (suc p) l = thin_grows p l (P p) refl (thin_stack p (omega arith))

  thin_sent : (p : ℕ) → p ≤ n → inner b p ≡ sent (λ j. nth P j n) (inner c (count P p))
  unfolding inner
  thin_sent p l = ap top (thin_stack p l) ∙ top_map (λ j. nth P j n) (stack c (count P p))

  thin_some : (p j : ℕ) → p ≤ n → inner c (count P p) ≡ j + 1 → inner b p ≡ nth P j n + 1
  unfolding sent
  thin_some p j l e = thin_sent p l ∙ ap (sent (λ j. nth P j n)) (e ∙ add-one j) ∙ sym (add-one (nth P j n))

  thin_none : (p : ℕ) → p ≤ n → inner c (count P p) ≡ 0 → inner b p ≡ 0
  unfolding sent
  thin_none p l e = thin_sent p l ∙ ap (sent (λ j. nth P j n)) e

  thin_none_back : (p : ℕ) → p ≤ n → inner b p ≡ 0 → inner c (count P p) ≡ 0
  thin_none_back p l e = go (inner c (count P p)) refl
    where
      go : (k : ℕ) → inner c (count P p) ≡ k → inner c (count P p) ≡ 0
      go zero q = q
      go (suc j) q = absurd (omega (arith, thin_some p j l (omega arith)))

  pub thin_inner : (p : ℕ) → p ≤ n
      → ((inner b p ≡ 0) ↔ (inner c (count P p) ≡ 0)) × ((j : ℕ) → inner c (count P p) ≡ j + 1 → inner b p ≡ nth P j n + 1)
  thin_inner p l = ((thin_none_back p l, thin_none p l), λ j. thin_some p j l)

  -- the bracket of c at j, where it stands in b
  thin_at : (j : ℕ) → j < count P n → b (nth P j n) ≡ c j
  thin_at j l =
      let k = nth_below P j n l in
      T.inside (nth P j n) k (nth_has P j n k) ∙ ap c (nth_count P j n k)

  -- a closing bracket is one of c
  thin_closing : (p : ℕ) → p < n → b p ≡ closes → P p ≡ true
  thin_closing p l e =
      elim (true_or_false (P p)) [ inl t ↦ t | inr f ↦ absurd (closes_not_neither e (T.outside p l f)) ]

  pub thin_balanced : Balanced b n ↔ Balanced c (count P n)
  thin_balanced = (
    λ B. record {
      closing = λ j l e z.
          let k = nth_below P j n l in
          B.closing (nth P j n) k (thin_at j l ∙ e) (thin_none (nth P j n) (omega arith) (ap (inner c) (nth_count P j n k) ∙ z));
      end = thin_none_back n (omega arith) B.end;
    },
    λ B. record {
      closing = λ p l e z.
          let t = thin_closing p l e in
          B.closing (count P p) (count_before P p n l t) (sym (T.inside p l t) ∙ e) (thin_none_back p (omega arith) z);
      end = thin_none n (omega arith) B.end;
    },
  )

  -- p is the innermost open bracket of b where its place in c is that of c
  thin_holds : (p q : ℕ) → p < n → q ≤ n → P p ≡ true → eqb (inner b q) (suc p) ≡ eqb (inner c (count P q)) (suc (count P p))
  thin_holds p q l k t =
      bool_same (eqb (inner b q) (suc p)) (eqb (inner c (count P q)) (suc (count P p)))
      (λ h. let e = eqb-true (inner b q) (suc p) h in eq-eqb (inner c (count P q)) (suc (count P p)) (go (inner c (count P q)) refl e))
      (λ h.
      let e = eqb-true (inner c (count P q)) (suc (count P p)) h in
      eq-eqb (inner b q) (suc p) (omega (arith, thin_some q (count P p) k (omega arith), nth_of_count P p n l t)))
    where
      go : (i : ℕ) → inner c (count P q) ≡ i → inner b q ≡ suc p → inner c (count P q) ≡ suc (count P p)
      go zero e h = absurd (omega (arith, thin_none q k e))
      go (suc j) e h =
          let s : nth P j n ≡ p = omega (arith, thin_some q j k (omega arith)) in
          omega (arith, nth_count P j n (omega arith), ap (count P) s)

  thin_closer : (p : ℕ) → p < n → P p ≡ true → closer b n p ≡ nth P (closer c (count P n) (count P p)) n
  unfolding closer
  thin_closer p l t =
      find_thin P (λ q. is_closes (b q) && eqb (inner b q) (suc p)) (λ j. is_closes (c j) && eqb (inner c j) (suc (count P p))) n
      (λ q k f. rw (T.outside q k f))
      (λ q k f. rw (T.inside q k f, thin_holds p q l (omega arith) t))

  thin_pred : (p : ℕ) → p < n → b p ≡ closes → Balanced b n
      → (i : ℕ) → inner c (count P p) ≡ i → pred (inner b p) ≡ nth P (pred (inner c (count P p))) n
  thin_pred p l e B zero z = absurd (B.closing p l e (thin_none p (omega arith) z))
  thin_pred p l e B (suc j) z = rw (thin_some p j (omega arith) (z ∙ sym (add-one j)), z, add-one)

  pub thin_mate : (p : ℕ) → p < n → P p ≡ true → Balanced b n → mate b n p ≡ nth P (mate c (count P n) (count P p)) n
  thin_mate p l t B =
      let k = count P p in
      let s = T.inside p l t in
      by_bracket (b p)
      (λ e. mate_of_opens b n p e ∙ thin_closer p l t ∙ ap (λ x. nth P x n) (sym (mate_of_opens c (count P n) k (sym s ∙ e))))
      (λ e. mate_of_closes b n p e ∙ thin_pred p l e B (inner c k) refl ∙ ap (λ x. nth P x n) (sym (mate_of_closes c (count P n) k (sym s ∙ e))))
      (λ e. mate_neither b n p e ∙ sym (nth_of_count P p n l t) ∙ ap (λ x. nth P x n) (sym (mate_neither c (count P n) k (sym s ∙ e))))
