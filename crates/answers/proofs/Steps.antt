-- What a function knows of its refusal at each of its returns, one check after another.
--
-- Passed cs i      == the first i tests hold
-- stops_at         == an early return: the tests before i hold and that at i fails, so the number is that of check i
-- passes_all       == the last return: all tests hold, so there is no number
-- number_after     == the number of a call is that of its checks
-- Numbers, by_numbers == what holds of every number in the list, and of 0, holds of the one that comes out
-- goes_on, goes_on_with == where the first tests hold, the others decide
-- refuses_at, answers_all == the same of an answer
-- first_stops, first_passes == a function that runs the first checks, and its caller, which goes on with the others
-- none_found       == the first function gave no number
-- next_stops, next_passes == its returns, after those first checks passed
-- none_append      == no number of two lists: none of either
-- by_checks        == what holds of every refusal, and of the answer where the checks pass, holds of a call
-- checked_none, checked_some == a call by its number; no check carries anything (`bare`)
-- answered_all, answered_none == an answer comes only where all tests hold, so that no check refuses
-- checked_answers  == the same of a call whose own answer may be a refusal
-- told_answered    == what is told of an answer tells that there is one
-- Refusals, by_refusals == what holds of every number with what it carries holds of the refusal that comes out
-- checked_same     == answers that are the same where the checks pass
-- checked_answered, checked_refused == a call that runs the checks of another one first
-- Assumes nothing.
use mathlib.Core.Path.{◌≡◌, refl, sym, ◌∙◌}
use mathlib.Core.Bool.{Bool, true, false}
use mathlib.Core.List.{List, [], ◌∷◌, ◌++◌}
use Prim.Native.Nat.{ℕ, zero, suc, ◌<◌}
use native.Mathlib.Omega.{arith}
use lib.Dec.{ltb, eqb}
use lib.ListN.{length}
use borrow.Author.Tests.{ltb-true, eqb-true}
use Rattle.count.specs.Below.{pick}
use Rattle.count.proofs.Logic.{both_left, both_right, true_not_false}
use Rattle.answers.specs.Answer.{Answer, answer, refused_with, refused, number_of, told}
use Rattle.answers.proofs.Order.{checked_append}
use Rattle.answers.specs.Checks.{Check, unless, refusal_in, checked, after, check_at, numbered, is_bare, bare}

bare_carries : (c : Check) → is_bare c ≡ true → c.carries ≡ []
bare_carries c b = go c.carries b
  where
    go : (xs : List ℕ) → eqb (length xs) 0 ≡ true → xs ≡ []
    go [] e = refl
    go (x ∷ xs) e = absurd (omega (arith, eqb-true (suc (length xs)) 0 e))

abbrev pub Passed : List Check → ℕ → Type 0
Passed cs zero = Unit
Passed [] (suc i) = Unit
Passed (c ∷ cs) (suc i) = (c.test ≡ true) × Passed cs i

pub stops_at : (cs : List Check) (i : ℕ) → Passed cs i → (check_at cs i).test ≡ false → (check_at cs i).number ≡ refusal_in cs
stops_at [] i p f = absurd (true_not_false true refl f)
stops_at (c ∷ cs) zero p f = rw f
stops_at (c ∷ cs) (suc i) p f = rw p.0 (stops_at cs i p.1 f)

pub passes_all : (cs : List Check) → Passed cs (length cs) → 0 ≡ refusal_in cs
passes_all [] p = refl
passes_all (c ∷ cs) p = rw p.0 (passes_all cs p.1)

-- what holds of every number in the list, and of 0, holds of the one that comes out
abbrev pub Numbers : (ℕ → Type 0) → List Check → Type 0
Numbers P [] = P 0
Numbers P (c ∷ cs) = P c.number × Numbers P cs

pub by_numbers : (P : ℕ → Type 0) (cs : List Check) → Numbers P cs → P (refusal_in cs)
by_numbers P [] h = h
by_numbers P (c ∷ cs) h = go c.test (by_numbers P cs h.1)
  where
    go : (t : Bool) → P (refusal_in cs) → P (unless t c.number (refusal_in cs))
    go true r = r
    go false r = h.0

module _ {A : Type 0} where
  pub refuses_at : (cs : List Check) (a : Answer A) (i : ℕ) → Passed cs i → (check_at cs i).test ≡ false
      → refused_with (check_at cs i).number (check_at cs i).carries ≡ checked cs a
  refuses_at [] a i p f = absurd (true_not_false true refl f)
  refuses_at (c ∷ cs) a zero p f = rw f
  refuses_at (c ∷ cs) a (suc i) p f = rw p.0 (refuses_at cs a i p.1 f)

  pub answers_all : (cs : List Check) (a : Answer A) → Passed cs (length cs) → a ≡ checked cs a
  answers_all [] a p = refl
  answers_all (c ∷ cs) a p = rw p.0 (answers_all cs a p.1)

pub number_after : {A : Type 0} (cs : List Check) (x : A) → number_of (after cs x) ≡ refusal_in cs
unfolding number_of
number_after [] x = refl
number_after (c ∷ cs) x = go c.test (number_after cs x)
  where
    go : (t : Bool) → number_of (after cs x) ≡ refusal_in cs
        → number_of (pick t (after cs x) (refused_with c.number c.carries)) ≡ unless t c.number (refusal_in cs)
    go true e = e
    go false e = refl

-- ---- checks in two functions
positive : (c : Check) (cs : List Check) → numbered (c ∷ cs) ≡ true → 0 < c.number
positive c cs n = ltb-true 0 c.number (both_left (ltb 0 c.number) (numbered cs) n)

others : (c : Check) (cs : List Check) → numbered (c ∷ cs) ≡ true → numbered cs ≡ true
others c cs n = both_right (ltb 0 c.number) (numbered cs) n

pub first_stops : (cs ds : List Check) (k : ℕ) → k ≡ refusal_in cs → (k ≡ 0 → ⊥) → k ≡ refusal_in (cs ++ ds)
first_stops [] ds k e m = absurd (m e)
first_stops (c ∷ cs) ds k e m = go c.test e (λ h. first_stops cs ds k h m)
  where
    go : (t : Bool) → k ≡ unless t c.number (refusal_in cs) → (k ≡ refusal_in cs → k ≡ refusal_in (cs ++ ds))
        → k ≡ unless t c.number (refusal_in (cs ++ ds))
    go true h rest = rest h
    go false h rest = h

pub tests_passed : (cs : List Check) → numbered cs ≡ true → refusal_in cs ≡ 0 → Passed cs (length cs)
tests_passed [] n e = tt
tests_passed (c ∷ cs) n e = go c.test refl e (tests_passed cs (others c cs n))
  where
    go : (t : Bool) → c.test ≡ t → unless t c.number (refusal_in cs) ≡ 0 → (refusal_in cs ≡ 0 → Passed cs (length cs)) → (c.test ≡ true) × Passed cs (length cs)
    go true h z rest = (h, rest z)
    go false h z rest = absurd (omega (arith, positive c cs n, z))

pub goes_on : (cs ds : List Check) → Passed cs (length cs) → refusal_in (cs ++ ds) ≡ refusal_in ds
goes_on [] ds p = refl
goes_on (c ∷ cs) ds p = rw p.0 (goes_on cs ds p.1)

pub goes_on_with : {A : Type 0} (cs ds : List Check) (a : Answer A) → Passed cs (length cs) → checked (cs ++ ds) a ≡ checked ds a
goes_on_with cs ds a p = checked_append cs ds a ∙ sym (answers_all cs (checked ds a) p)

pub first_passes : (cs ds : List Check) → numbered cs ≡ true → refusal_in cs ≡ 0 → refusal_in (cs ++ ds) ≡ refusal_in ds
first_passes cs ds n e = goes_on cs ds (tests_passed cs n e)

pub none_found : (k r : ℕ) → k ≡ r → k ≡ 0 → r ≡ 0
none_found k r e z = sym e ∙ z

module _ (cs ds : List Check) (n : numbered cs ≡ true) (z : refusal_in cs ≡ 0) where
  pub next_stops : (i : ℕ) → Passed ds i → (check_at ds i).test ≡ false → (check_at ds i).number ≡ refusal_in (cs ++ ds)
  next_stops i p f = stops_at ds i p f ∙ sym (first_passes cs ds n z)

  pub next_passes : Passed ds (length ds) → 0 ≡ refusal_in (cs ++ ds)
  next_passes p = passes_all ds p ∙ sym (first_passes cs ds n z)

pub none_append : (cs ds : List Check) → numbered cs ≡ true → refusal_in (cs ++ ds) ≡ 0 → (refusal_in cs ≡ 0) × (refusal_in ds ≡ 0)
none_append [] ds n e = (refl, e)
none_append (c ∷ cs) ds n e = go c.test refl (none_append cs ds (others c cs n))
  where
    go : (t : Bool) → c.test ≡ t → (refusal_in (cs ++ ds) ≡ 0 → (refusal_in cs ≡ 0) × (refusal_in ds ≡ 0)) → (refusal_in (c ∷ cs) ≡ 0) × (refusal_in ds ≡ 0)
    go true h rest = rw h (rest (rw h at e))
    go false h rest = absurd (omega (arith, positive c cs n, rw h at e))

-- ---- a call by its number
pub by_checks : {A : Type 0} (P : Answer A → Type 0) (cs : List Check) (a : Answer A) → numbered cs ≡ true
    → (refusal_in cs ≡ 0 → P a) → ((k : ℕ) (xs : List ℕ) → 0 < k → P (refused_with k xs)) → P (checked cs a)
by_checks P [] a n y r = y refl
by_checks P (c ∷ cs) a n y r = go c.test refl (λ h. by_checks P cs a (others c cs n) h r)
  where
    go : (t : Bool) → c.test ≡ t → ((refusal_in cs ≡ 0 → P a) → P (checked cs a)) → P (checked (c ∷ cs) a)
    go true h rest = rw h (rest (λ z. y (rw h z)))
    go false h rest = rw h (r c.number c.carries (positive c cs n))

module _ {A : Type 0} (cs : List Check) (a : Answer A) where
  pub checked_none : numbered cs ≡ true → refusal_in cs ≡ 0 → checked cs a ≡ a
  checked_none n e = sym (answers_all cs a (tests_passed cs n e))

pub checked_some : {A : Type 0} (cs : List Check) (a : Answer A) → bare cs ≡ true → (refusal_in cs ≡ 0 → ⊥) → checked cs a ≡ refused (refusal_in cs)
checked_some [] a b m = absurd (m refl)
checked_some (c ∷ cs) a b m =
    go c.test refl (checked_some cs a (both_right (is_bare c) (bare cs) b))
  where
    go : (t : Bool) → c.test ≡ t → ((refusal_in cs ≡ 0 → ⊥) → checked cs a ≡ refused (refusal_in cs)) → checked (c ∷ cs) a ≡ refused (refusal_in (c ∷ cs))
    go true h rest = rw h (rest (λ z. m (rw h z)))
    go false h rest = rw (h, bare_carries c (both_left (is_bare c) (bare cs) b))

-- an answer comes only where all tests hold, and is the call's
pub answered_all : {A : Type 0} (cs : List Check) (x y : A) → after cs x ≡ answer y → Passed cs (length cs) × (x ≡ y)
answered_all [] x y e = (tt, cc)
answered_all (c ∷ cs) x y e = go c.test refl (answered_all cs x y)
  where
    go : (t : Bool) → c.test ≡ t → (after cs x ≡ answer y → Passed cs (length cs) × (x ≡ y)) → ((c.test ≡ true) × Passed cs (length cs)) × (x ≡ y)
    go true h rest = let r = rest (rw h at e) in ((h, r.0), r.1)
    go false h rest = let z : ◌≡◌ {A = ℕ} 0 1 = cc (rw h at e) in absurd (omega arith)

pub answered_none : {A : Type 0} (cs : List Check) (x y : A) → after cs x ≡ answer y → refusal_in cs ≡ 0
answered_none cs x y e = sym (passes_all cs (answered_all cs x y e).0)

-- of a call whose own answer may be a refusal too
pub checked_answers : {A : Type 0} (cs : List Check) (a : Answer A) (y : A) → checked cs a ≡ answer y → (refusal_in cs ≡ 0) × (a ≡ answer y)
checked_answers [] a y e = (refl, e)
checked_answers (c ∷ cs) a y e = go c.test refl (checked_answers cs a y)
  where
    go : (t : Bool) → c.test ≡ t → (checked cs a ≡ answer y → (refusal_in cs ≡ 0) × (a ≡ answer y)) → (refusal_in (c ∷ cs) ≡ 0) × (a ≡ answer y)
    go true h rest = rw h (rest (rw h at e))
    go false h rest = let z : ◌≡◌ {A = ℕ} 0 1 = cc (rw h at e) in absurd (omega arith)

-- what is told of an answer
pub told_answered : {A B : Type 0} (f : A → B) (a : Answer A) (y : B) → told f a ≡ answer y → (x : A) × (a ≡ answer x) × (f x ≡ y)
told_answered f (answer x) y e = (x, refl, cc)
told_answered f (refused_with k xs) y e = let z : ◌≡◌ {A = ℕ} 0 1 = cc in absurd (omega arith)

-- what holds of every number with what it carries holds of the refusal that comes out
abbrev pub Refusals : (ℕ → List ℕ → Type 0) → List Check → Type 0
Refusals P [] = Unit
Refusals P (c ∷ cs) = P c.number c.carries × Refusals P cs

pub by_refusals : {A : Type 0} (P : ℕ → List ℕ → Type 0) (cs : List Check) (x : A) (k : ℕ) (xs : List ℕ) → Refusals P cs
    → after cs x ≡ refused_with k xs → P k xs
by_refusals P [] x k xs h e = let z : ◌≡◌ {A = ℕ} 0 1 = cc in absurd (omega arith)
by_refusals {A} P (c ∷ cs) x k xs h e = go c.test refl (by_refusals P cs x k xs h.1)
  where
    go : (t : Bool) → c.test ≡ t → (after cs x ≡ refused_with k xs → P k xs) → P k xs
    go true g rest = rest (rw g at e)
    go false g rest =
        let same : ◌≡◌ {A = Answer A} (refused_with c.number c.carries) (refused_with k xs) = rw g at e in
        let n : c.number ≡ k = cc in
        let m : c.carries ≡ xs = cc in
        rw (← n, ← m) h.0

-- the same after the same checks
pub checked_same : {A : Type 0} (cs : List Check) (a b : Answer A) → (refusal_in cs ≡ 0 → a ≡ b) → checked cs a ≡ checked cs b
checked_same [] a b e = e refl
checked_same (c ∷ cs) a b e = go c.test refl (checked_same cs a b)
  where
    go : (t : Bool) → c.test ≡ t → ((refusal_in cs ≡ 0 → a ≡ b) → checked cs a ≡ checked cs b) → checked (c ∷ cs) a ≡ checked (c ∷ cs) b
    go true h rest = rw h (rest (λ z. e (rw h z)))
    go false h rest = rw h

-- what a call answers that runs the same checks first
pub checked_answered : {A B : Type 0} (cs : List Check) (a : Answer B) (x y : A) → after cs x ≡ answer y → checked cs a ≡ a
checked_answered cs a x y e = sym (answers_all cs a (answered_all cs x y e).0)

pub checked_refused : {A B : Type 0} (cs : List Check) (a : Answer B) (x : A) (k : ℕ) (xs : List ℕ) → after cs x ≡ refused_with k xs → checked cs a ≡ refused_with k xs
checked_refused [] a x k xs e = let z : ◌≡◌ {A = ℕ} 0 1 = cc in absurd (omega arith)
checked_refused {A} {B} (c ∷ cs) a x k xs e = go c.test refl (checked_refused cs a x k xs)
  where
    go : (t : Bool) → c.test ≡ t → (after cs x ≡ refused_with k xs → checked cs a ≡ refused_with k xs) → checked (c ∷ cs) a ≡ refused_with k xs
    go true h rest = rw h (rest (rw h at e))
    go false h rest =
        let same : ◌≡◌ {A = Answer A} (refused_with c.number c.carries) (refused_with k xs) = rw h at e in
        let n : c.number ≡ k = cc in
        let m : c.carries ≡ xs = cc in
        rw (h, n, m)
