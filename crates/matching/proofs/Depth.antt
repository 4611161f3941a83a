-- Matching brackets by depth, one bracket at a time, in any string, balanced or not: a closing that meets an empty stack takes nothing.
--
-- Level b p d     == the first p brackets leave d open, and no closing among them met an empty stack
-- level_start, level_opens, level_closes == from one bracket to the next
-- level_end, level_stuck                 == what balanced says at the end, and at a closing with none open
-- Inside b p d q  == from the opening at p on, d more are open at q, and none before q closes p
-- inside_start, inside_opens, inside_closes == from one bracket to the next
-- inside_here, inside_none, inside_far   == the closer of p: the first closing with none more open; n where there is none
-- Closed b i d k  == the brackets from k to i close d of those open at k, and leave none of their own open
-- closed_start, closed_opens, closed_closes == from one bracket to the one before
-- closed_here, closed_none               == the innermost open bracket at i: the first opening that none closes; 0 where there is none
-- Assumes nothing.
use mathlib.Core.Path.{◌≡◌, refl, sym, ap, ◌∙◌}
use mathlib.Core.Bool.{Bool, true, false, not, ◌&&◌}
use mathlib.Core.List.{List, [], ◌∷◌, tail}
use Prim.Native.Nat.{ℕ, suc, ◌-◌, ◌<◌, ◌≤◌}
use native.Mathlib.Numerals.{add-one}
use native.Mathlib.Omega.{arith}
use borrow.Author.Count.{below_more}
use borrow.Author.Tests.{eq-eqb, eqb-true}
use lib.Dec.{eqb}
use lib.ListN.{length, drop, length-drop}
use lib.Seq.{drop-nil}
use Rattle.count.proofs.Logic.{both, both_left, not_both, bool_same, true_not_false}
use Rattle.count.proofs.Below.{all_from, all_has, find_is, find_none}
use Rattle.count.specs.Below.{all}
use Rattle.words.specs.Brackets.{Bracket, opens, closes, is_closes, stack, top, inner, balanced, closer}
use Rattle.words.proofs.Stack.{stack_opens, stack_closes, stack_zero, inner_top, inner_le}

drop_tail : (d : ℕ) (l : List ℕ) → drop d (tail l) ≡ drop (suc d) l
drop_tail d [] = drop-nil d
drop_tail d (x ∷ l) = refl

length_tail : (l : List ℕ) → length (tail l) ≡ length l - 1
length_tail [] = refl
length_tail (x ∷ l) = omega arith

top_empty : (l : List ℕ) → length l ≡ 0 → top l ≡ 0
top_empty [] e = refl
top_empty (x ∷ l) e = absurd (omega arith)

empty_top : (l : List ℕ) → top l ≡ 0 → length l ≡ 0
empty_top [] e = refl
empty_top (x ∷ l) e = absurd (omega arith)

-- what holds below p and at p
more : (P : ℕ → Type 0) (p : ℕ) → ((x : ℕ) → x < p → P x) → P p → (x : ℕ) → x < suc p → P x
more P p h l = rw (← add-one p) (below_more P p h l)

module _ (b : ℕ → Bracket) where
  opened : (p : ℕ) → b p ≡ opens → stack b (suc p) ≡ p ∷ stack b p
  opened p o = rw (← add-one p) (stack_opens b p o)

  closed : (p : ℕ) → b p ≡ closes → stack b (suc p) ≡ tail (stack b p)
  closed p c = rw (← add-one p) (stack_closes b p c)

  none_open : (p : ℕ) → length (stack b p) ≡ 0 → inner b p ≡ 0
  unfolding inner
  none_open p e = top_empty (stack b p) e

  open_none : (p : ℕ) → inner b p ≡ 0 → length (stack b p) ≡ 0
  unfolding inner
  open_none p e = empty_top (stack b p) e

  -- whether p is a closing that meets an empty stack
  abbrev pub stuck : ℕ → Bool
  stuck p = is_closes (b p) && eqb (inner b p) 0

  stuck_is : (p : ℕ) → b p ≡ closes → inner b p ≡ 0 → stuck p ≡ true
  stuck_is p k e = both (is_closes (b p)) (eqb (inner b p) 0) (ap is_closes k) (eq-eqb (inner b p) 0 e)

  pub record Level (p d : ℕ) : Type 0 where
    pub depth : length (stack b p) ≡ d
    pub fine : (x : ℕ) → x < p → not (stuck x) ≡ true

  pub level_start : Level 0 0
  level_start = record { depth = ap length (stack_zero b); fine = λ x l. absurd (omega arith) }

  pub level_opens : (p d : ℕ) → Level p d → b p ≡ opens → Level (suc p) (suc d)
  level_opens p d L o =
      record {
        depth = ap length (opened p o) ∙ ap suc L.depth;
        fine = more (λ x. not (stuck x) ≡ true) p L.fine (rw o);
      }

  pub level_closes : (p d : ℕ) → Level p (suc d) → b p ≡ closes → Level (suc p) d
  level_closes p d L c =
      record {
        depth = ap length (closed p c) ∙ length_tail (stack b p) ∙ omega (arith, L.depth);
        fine =
            more (λ x. not (stuck x) ≡ true) p L.fine
            (ap not (not_both (is_closes (b p)) (eqb (inner b p) 0)
            (λ h z. omega (arith, L.depth, open_none p (eqb-true (inner b p) 0 z)))));
      }

  pub level_end : (p d : ℕ) → Level p d → eqb d 0 ≡ balanced b p
  unfolding balanced
  level_end p d L =
      let a : all (λ x. not (stuck x)) p ≡ true = all_from (λ x. not (stuck x)) p L.fine in
      let e : length (stack b p) ≡ d = L.depth in
      bool_same (eqb d 0) (eqb (inner b p) 0 && all (λ x. not (stuck x)) p)
      (λ h. both (eqb (inner b p) 0) (all (λ x. not (stuck x)) p) (eq-eqb (inner b p) 0 (none_open p (e ∙ eqb-true d 0 h))) a)
      (λ h. eq-eqb d 0 (sym e ∙ open_none p (eqb-true (inner b p) 0 (both_left (eqb (inner b p) 0) (all (λ x. not (stuck x)) p) h))))

  pub level_stuck : (n p : ℕ) → Level p 0 → p < n → b p ≡ closes → false ≡ balanced b n
  unfolding balanced
  level_stuck n p L l k =
      sym (not_both (eqb (inner b n) 0) (all (λ x. not (stuck x)) n)
      (λ h a. true_not_false (not (stuck p)) (all_has (λ x. not (stuck x)) n a p l)
      (ap not (stuck_is p k (none_open p L.depth)))))

  -- whether q is the closing that takes p off the stack
  abbrev pub takes : ℕ → ℕ → Bool
  takes p q = is_closes (b q) && eqb (inner b q) (suc p)

  takes_not : (p q : ℕ) → (inner b q ≡ suc p → ⊥) → takes p q ≡ false
  takes_not p q n = not_both (is_closes (b q)) (eqb (inner b q) (suc p)) (λ h z. n (eqb-true (inner b q) (suc p) z))

  early : (p q : ℕ) → q ≤ p → takes p q ≡ false
  early p q l = takes_not p q (λ e. omega (arith, inner_le b q))

  pub record Inside (p d q : ℕ) : Type 0 where
    pub rest : drop d (stack b q) ≡ p ∷ stack b p
    pub none : (x : ℕ) → x < q → takes p x ≡ false

  pub inside_start : (p : ℕ) → b p ≡ opens → Inside p 0 (suc p)
  inside_start p o = record { rest = opened p o; none = λ x l. early p x (omega arith) }

  pub inside_opens : (p d q : ℕ) → Inside p d q → b q ≡ opens → Inside p (suc d) (suc q)
  inside_opens p d q I o =
      record {
        rest = rw (opened q o) I.rest;
        none = more (λ x. takes p x ≡ false) q I.none (rw o);
      }

  pub inside_closes : (p d q : ℕ) → Inside p (suc d) q → b q ≡ closes → Inside p d (suc q)
  inside_closes p d q I c =
      let below : (inner b q ≡ suc p → ⊥) = λ h.
      omega (arith, ap length I.rest, length-drop (suc d) (stack b q), ap length (inner_top b q p (h ∙ sym (add-one p))).shape) in
      record {
        rest = ap (drop d) (closed q c) ∙ drop_tail d (stack b q) ∙ I.rest;
        none = more (λ x. takes p x ≡ false) q I.none (takes_not p q below);
      }

  pub inside_here : (n p q : ℕ) → Inside p 0 q → q < n → b q ≡ closes → q ≡ closer b n p
  unfolding closer inner
  inside_here n p q I l k =
      let z : inner b q ≡ suc p = ap top I.rest in
      sym (find_is (takes p) n q l (both (is_closes (b q)) (eqb (inner b q) (suc p)) (ap is_closes k) (eq-eqb (inner b q) (suc p) z)) I.none)

  pub inside_none : (n p d : ℕ) → Inside p d n → n ≡ closer b n p
  unfolding closer
  inside_none n p d I = sym (find_none (takes p) n I.none)

  pub inside_far : (n p : ℕ) → n ≤ p → n ≡ closer b n p
  unfolding closer
  inside_far n p l = sym (find_none (takes p) n (λ x h. early p x (omega arith)))

  pub record Closed (i d k : ℕ) : Type 0 where
    pub rest : stack b i ≡ drop d (stack b k)

  pub closed_start : (i : ℕ) → Closed i 0 i
  closed_start i = record { rest = refl }

  pub closed_opens : (i d k : ℕ) → Closed i (suc d) (suc k) → b k ≡ opens → Closed i d k
  closed_opens i d k C o = record { rest = C.rest ∙ ap (drop (suc d)) (opened k o) }

  pub closed_closes : (i d k : ℕ) → Closed i d (suc k) → b k ≡ closes → Closed i (suc d) k
  closed_closes i d k C c = record { rest = C.rest ∙ ap (drop d) (closed k c) ∙ drop_tail d (stack b k) }

  pub closed_here : (i k : ℕ) → Closed i 0 (suc k) → b k ≡ opens → suc k ≡ inner b i
  unfolding inner
  closed_here i k C o = sym (ap top (C.rest ∙ opened k o))

  pub closed_none : (i d : ℕ) → Closed i d 0 → 0 ≡ inner b i
  unfolding inner
  closed_none i d C = sym (ap top (C.rest ∙ ap (drop d) (stack_zero b) ∙ drop-nil d))
