-- Decisions on numbers and tests, and strong induction: what every other file of laws starts from.
--
-- same_or_not, lt_or_ge        == two numbers are equal or not; one is smaller or not
-- strong                       == a property that passes from all smaller numbers to n holds of every n
-- true_or_false, true_not_false == a test holds or fails, and never both
-- both, both_left, both_right  == s && t holds exactly if both hold
-- not_both                     == s && t fails if both cannot hold
-- one_of, either_left, either_right == s || t holds exactly if one of them holds
-- pick_yes, pick_no            == what pick gives where its test holds or fails
-- pick_both                    == two tests, one after the other
-- bool_same                    == tests that imply one another are equal
-- Assumes nothing.
use mathlib.Core.Path.{◌≡◌, refl, sym}
use mathlib.Core.Logic.{◌⊎◌, inl, inr, ◌≢◌}
use mathlib.Core.Bool.{Bool, true, false, ◌&&◌, ◌||◌, true≢false}
use Prim.Native.Nat.{ℕ, zero, suc, ◌<◌, ◌≤◌}
use native.Mathlib.Decide.{ℕ_discrete, dec_lt}
use native.Mathlib.Omega.{arith}
use Rattle.count.specs.Below.{pick}

pub same_or_not : (a b : ℕ) → (a ≡ b) ⊎ (a ≢ b)
same_or_not a b = go (ℕ_discrete a b)
  where
    go : Dec (a ≡ b) → (a ≡ b) ⊎ (a ≢ b)
    go (yes e) = inl e
    go (no n) = inr n

pub lt_or_ge : (a b : ℕ) → (a < b) ⊎ (b ≤ a)
lt_or_ge a b = go (dec_lt a b)
  where
    go : Dec (a < b) → (a < b) ⊎ (b ≤ a)
    go (yes h) = inl h
    go (no n) = inr (omega arith)

strong_below {ℓ} :
    (P : ℕ → Type ℓ) → ((n : ℕ) → ((m : ℕ) → m < n → P m) → P n) → (k n : ℕ) → n < k → P n
strong_below P step zero n h = absurd (omega arith)
strong_below P step (suc k) n h = step n (λ m l. strong_below P step k m (omega arith))

pub strong {ℓ} :
    (P : ℕ → Type ℓ) → ((n : ℕ) → ((m : ℕ) → m < n → P m) → P n) → (n : ℕ) → P n
strong P step n = strong_below P step (suc n) n (omega arith)

pub true_or_false : (t : Bool) → (t ≡ true) ⊎ (t ≡ false)
true_or_false true = inl refl
true_or_false false = inr refl

pub true_not_false : (t : Bool) → t ≡ true → t ≡ false → ⊥
true_not_false true h e = true≢false e
true_not_false false h e = true≢false (sym h)

pub both : (s t : Bool) → s ≡ true → t ≡ true → s && t ≡ true
both s t h k = rw (h, k)

pub both_left : (s t : Bool) → s && t ≡ true → s ≡ true
both_left true t h = refl
both_left false t h = h

pub both_right : (s t : Bool) → s && t ≡ true → t ≡ true
both_right true t h = h
both_right false t h = absurd (true≢false (sym h))

pub not_both : (s t : Bool) → (s ≡ true → t ≡ true → ⊥) → s && t ≡ false
not_both true true h = absurd (h refl refl)
not_both true false h = refl
not_both false t h = refl

pub one_of : (s t : Bool) → s || t ≡ true → (s ≡ true) ⊎ (t ≡ true)
one_of true t h = inl refl
one_of false t h = inr h

pub either_left : (s t : Bool) → s ≡ true → s || t ≡ true
either_left s t h = rw h

pub either_right : (s t : Bool) → t ≡ true → s || t ≡ true
either_right true t h = refl
either_right false t h = h

pub pick_yes {ℓ} : {X : Type ℓ} (t : Bool) (x y : X) → t ≡ true → pick t x y ≡ x
pick_yes t x y h = rw h

pub pick_no {ℓ} : {X : Type ℓ} (t : Bool) (x y : X) → t ≡ false → pick t x y ≡ y
pick_no t x y h = rw h

pub pick_both : {X : Type 0} (s t : Bool) (x y : X) → pick s (pick t x y) y ≡ pick (s && t) x y
pick_both true t x y = refl
pick_both false t x y = refl

pub bool_same : (s t : Bool) → (s ≡ true → t ≡ true) → (t ≡ true → s ≡ true) → s ≡ t
bool_same true t f g = sym (f refl)
bool_same false true f g = g refl
bool_same false false f g = refl
