-- A call's checks in order: the refusal that comes out is that of the first check that fails.
--
-- Each cs          == all checks hold, one after the other
-- each_hold        == and so they hold where others follow
-- decided_append   == a call's own checks, after others that run first
-- checked_append, refusal-append == what comes out of both, one after the other
-- first_failing    == all checks hold, and none refuses; or one is the first that fails, and refuses
-- one-first        == there is only one first check that fails
-- in_order         == a call answered after its checks gives the refusal of the first that fails, with what it carries, or its answer
-- none_refuses     == no number comes out exactly if all checks hold
-- once cs i, refused_at, number_at == a number that stands once in the list comes out exactly if its check is the first that fails
-- Assumes nothing.
use mathlib.Core.Path.{◌≡◌, refl, sym, ap, ap₂, ◌∙◌}
use mathlib.Core.Logic.{◌⊎◌, inl, inr, ◌↔◌}
use mathlib.Core.Bool.{Bool, true, false, ◌||◌, not}
use mathlib.Core.List.{List, [], ◌∷◌, ◌++◌}
use Prim.Native.Nat.{ℕ, zero, suc, ◌<◌}
use native.Mathlib.Omega.{arith}
use lib.Dec.{eqb, ltb}
use lib.ListN.{length}
use borrow.Author.Tests.{ltb-true, eqb-true, eq-eqb}
use Rattle.count.specs.Below.{all}
use Rattle.count.proofs.Logic.{lt_or_ge, both_left, both_right, one_of, true_not_false}
use Rattle.count.proofs.Search.{all_has}
use Rattle.count.proofs.Decides.{decides_refutes}
use Rattle.answers.specs.Answer.{Answer, answer, refused_with}
use Rattle.answers.specs.Checks.{Check, refusal_in, checked, after, check_at, Hold, FirstFails, InOrder, Decided, numbered}

abbrev pub Each : List Check → Type 0
Each [] = Unit
Each (c ∷ cs) = c.holds × Each cs

hold_none : (cs : List Check) → Hold cs 0
hold_none cs i l = absurd (omega arith)

hold_from : (c : Check) (cs : List Check) (e : ℕ) → c.holds → Hold cs e → Hold (c ∷ cs) (suc e)
hold_from c cs e p rest zero l = p
hold_from c cs e p rest (suc i) l = rest i (omega arith)

hold_rest : (c : Check) (cs : List Check) (e : ℕ) → Hold (c ∷ cs) (suc e) → Hold cs e
hold_rest c cs e h i l = h (suc i) (omega arith)

pub each_hold : (cs ds : List Check) → Each cs → Hold (cs ++ ds) (length cs)
each_hold [] ds h = hold_none ds
each_hold (c ∷ cs) ds h = hold_from c (cs ++ ds) (length cs) h.0 (each_hold cs ds h.1)

pub hold_each : (cs : List Check) → Hold cs (length cs) → Each cs
hold_each [] h = tt
hold_each (c ∷ cs) h = (h 0 (omega arith), hold_each cs (hold_rest c cs (length cs) h))

-- ---- one list after another
pub decided_append : (cs ds : List Check) → Decided cs → (Each cs → Decided ds) → Decided (cs ++ ds)
decided_append [] ds c d = d tt
decided_append (x ∷ cs) ds c d = (c.0, λ p. decided_append cs ds (c.1 p) (λ h. d (p, h)))

pub checked_append : {A : Type 0} (cs ds : List Check) (a : Answer A) → checked (cs ++ ds) a ≡ checked cs (checked ds a)
checked_append [] ds a = refl
checked_append (c ∷ cs) ds a = rw (checked_append cs ds a)

-- ---- the first that fails
module _ {A : Type 0} (a : Answer A) where
  record Stops (cs : List Check) : Type 0 where
    k : ℕ
    xs : List ℕ
    first : FirstFails cs k xs
    number : refusal_in cs ≡ k
    refuses : checked cs a ≡ refused_with k xs

  record Passes (cs : List Check) : Type 0 where
    all_hold : Hold cs (length cs)
    none : refusal_in cs ≡ 0
    answers : checked cs a ≡ a

  first_failing : (cs : List Check) → Decided cs → Passes cs ⊎ Stops cs
  first_failing [] d = inl (record { all_hold = hold_none []; none = refl; answers = refl })
  first_failing (c ∷ cs) d = go c.test refl (λ p. first_failing cs (d.1 p))
    where
      go : (t : Bool) → c.test ≡ t → (c.holds → Passes cs ⊎ Stops cs) → Passes (c ∷ cs) ⊎ Stops (c ∷ cs)
      go false e rest =
          inr (record {
            k = c.number;
            xs = c.carries;
            first =
                record {
                  at = 0;
                  within = omega arith;
                  before = hold_none (c ∷ cs);
                  fails = decides_refutes d.0 e;
                  number = refl;
                  carried = refl;
                };
            number = rw e;
            refuses = rw e;
          })
      go true e rest =
          let p : c.holds = d.0.sound e in
          elim (rest p) [
            | inl z ↦ inl (record { all_hold = hold_from c cs (length cs) p z.all_hold; none = rw e z.none; answers = rw e z.answers })
            | inr z ↦
                let F : FirstFails cs z.k z.xs = z.first in
                inr (record {
                  k = z.k;
                  xs = z.xs;
                  first =
                      record {
                        at = suc F.at;
                        within = omega (arith, F.within);
                        before = hold_from c cs F.at p F.before;
                        fails = F.fails;
                        number = F.number;
                        carried = F.carried;
                      };
                  number = rw e z.number;
                  refuses = rw e z.refuses;
                })
          ]

-- where all checks hold, none fails
none_fails : (cs : List Check) (k : ℕ) (xs : List ℕ) → Hold cs (length cs) → FirstFails cs k xs → ⊥
none_fails cs k xs h F = F.fails (h F.at F.within)

same_first : (cs : List Check) (j k : ℕ) (xs ys : List ℕ) (F : FirstFails cs j xs) (G : FirstFails cs k ys) → F.at ≡ G.at
same_first cs j k xs ys F G =
    elim (lt_or_ge F.at G.at) [
      | inl l ↦ absurd (F.fails (G.before F.at l))
      | inr g ↦
          elim (lt_or_ge G.at F.at) [
            | inl l ↦ absurd (G.fails (F.before G.at l))
            | inr h ↦ omega arith
          ]
    ]

pub in_order : {A : Type 0} (cs : List Check) (x : A) → Decided cs → InOrder cs x (after cs x)
in_order {A} cs x d =
    elim (first_failing (answer x) cs d) [
      | inl z ↦
          record {
            refuses = λ k xs. (
              λ r. (let w : ◌≡◌ {A = ℕ} 0 1 = cc z.answers in absurd (omega arith)),
              λ F. absurd (none_fails cs k xs z.all_hold F),
            );
            answers = (λ r. z.all_hold, λ h. z.answers);
          }
      | inr z ↦
          record {
            refuses = λ k xs. (
              λ r.
                  let F : FirstFails cs z.k z.xs = z.first in
                  let e : ◌≡◌ {A = Answer A} (refused_with z.k z.xs) (refused_with k xs) = sym z.refuses ∙ r in
                  let a : k ≡ z.k = cc in
                  let b : xs ≡ z.xs = cc in
                  record { at = F.at; within = F.within; before = F.before; fails = F.fails; number = a ∙ F.number; carried = b ∙ F.carried },
              λ G.
                  let F : FirstFails cs z.k z.xs = z.first in
                  let e = same_first cs z.k k z.xs xs F G in
                  z.refuses
                  ∙ ap₂ refused_with
                  (F.number ∙ ap (λ i. (check_at cs i).number) e ∙ sym G.number)
                  (F.carried ∙ ap (λ i. (check_at cs i).carries) e ∙ sym G.carried),
            );
            answers = (
              λ r. (let w : ◌≡◌ {A = ℕ} 0 1 = cc z.refuses in absurd (omega arith)),
              λ h. absurd (none_fails cs z.k z.xs h z.first),
            );
          }
    ]

-- ---- the number alone
some_number : (cs : List Check) (i : ℕ) → numbered cs ≡ true → i < length cs → 0 < (check_at cs i).number
some_number [] i n l = absurd (omega arith)
some_number (c ∷ cs) zero n l = ltb-true 0 c.number (both_left (ltb 0 c.number) (numbered cs) n)
some_number (c ∷ cs) (suc i) n l = some_number cs i (both_right (ltb 0 c.number) (numbered cs) n) (omega arith)

pub none_refuses : (cs : List Check) → Decided cs → numbered cs ≡ true → (refusal_in cs ≡ 0) ↔ Hold cs (length cs)
none_refuses cs d n =
    elim (first_failing (answer (tt {0})) cs d) [
      | inl z ↦ (λ e. z.all_hold, λ h. z.none)
      | inr z ↦
          let F : FirstFails cs z.k z.xs = z.first in (
            λ e. absurd (omega (arith, some_number cs F.at n F.within, F.number, z.number)),
            λ h. absurd (none_fails cs z.k z.xs h F),
          )
    ]

-- a number that stands once in the list
unfoldable pub once : List Check → ℕ → Bool
unfolding all
once cs i = all (λ j. eqb j i || not (eqb (check_at cs j).number (check_at cs i).number)) (length cs)

once_at : (cs : List Check) (i j : ℕ) → once cs i ≡ true → j < length cs → (check_at cs i).number ≡ (check_at cs j).number → j ≡ i
unfolding once
once_at cs i j o l e =
    elim (one_of (eqb j i) (not (eqb (check_at cs j).number (check_at cs i).number))
    (all_has (λ j. eqb j i || not (eqb (check_at cs j).number (check_at cs i).number)) (length cs) o j l)) [
      | inl t ↦ eqb-true j i t
      | inr t ↦ absurd (true_not_false true refl (sym (rw (eq-eqb (check_at cs j).number (check_at cs i).number (sym e)) at t)))
    ]

pub refused_at : {A : Type 0} (cs : List Check) (x : A) (i : ℕ) (xs : List ℕ) → Decided cs → once cs i ≡ true → i < length cs
    → (after cs x ≡ refused_with (check_at cs i).number xs) ↔ (Hold cs i × ((check_at cs i).holds → ⊥) × (xs ≡ (check_at cs i).carries))
refused_at cs x i xs d o l =
    let order = (in_order cs x d).refuses (check_at cs i).number xs in (
      λ e.
          let F : FirstFails cs (check_at cs i).number xs = order.0 e in
          let z : F.at ≡ i = once_at cs i F.at o F.within F.number in
          (rw z at F.before, rw z at F.fails, rw z at F.carried),
      λ h. order.1 (record { at = i; within = l; before = h.0; fails = h.1; number = refl; carried = h.2 }),
    )

-- the same of the number alone
pub number_at : (cs : List Check) (i : ℕ) → Decided cs → numbered cs ≡ true → once cs i ≡ true → i < length cs
    → (refusal_in cs ≡ (check_at cs i).number) ↔ (Hold cs i × ((check_at cs i).holds → ⊥))
number_at cs i d n o l =
    elim (first_failing (answer (tt {0})) cs d) [
      | inl z ↦ (
        λ e. absurd (omega (arith, some_number cs i n l, z.none)),
        λ h. absurd (h.1 (z.all_hold i l)),
      )
      | inr z ↦
          let F : FirstFails cs z.k z.xs = z.first in (
            λ e.
                let p : F.at ≡ i = once_at cs i F.at o F.within (sym e ∙ z.number ∙ F.number) in
                (rw p at F.before, rw p at F.fails),
            λ h.
                let G : FirstFails cs (check_at cs i).number (check_at cs i).carries
                = record { at = i; within = l; before = h.0; fails = h.1; number = refl; carried = refl } in
                z.number ∙ F.number ∙ ap (λ j. (check_at cs j).number) (same_first cs z.k (check_at cs i).number z.xs (check_at cs i).carries F G),
          )
    ]
