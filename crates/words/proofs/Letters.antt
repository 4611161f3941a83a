-- What a letter is to a family: exactly one of opens, closes and neither.
--
-- by_bracket             == an argument by what a letter is
-- opens_not_closes, opens_not_neither, closes_not_neither == it is not two of them
-- opens_true, closes_true == what the tests is_opens and is_closes say
-- Assumes nothing.
use mathlib.Core.Path.{◌≡◌, refl}
use mathlib.Core.Bool.{true}
use Prim.Native.Nat.{ℕ}
use native.Mathlib.Omega.{arith}
use Rattle.words.specs.Brackets.{Bracket, opens, closes, neither, is_opens, is_closes}

pub by_bracket {ℓ} :
    {X : Type ℓ} (x : Bracket) → (x ≡ opens → X) → (x ≡ closes → X) → (x ≡ neither → X) → X
by_bracket opens f g h = f refl
by_bracket closes f g h = g refl
by_bracket neither f g h = h refl

pub opens_not_closes : {x : Bracket} → x ≡ opens → x ≡ closes → ⊥
opens_not_closes e f = let z : ◌≡◌ {A = ℕ} 0 1 = cc in omega arith

pub opens_not_neither : {x : Bracket} → x ≡ opens → x ≡ neither → ⊥
opens_not_neither e f = let z : ◌≡◌ {A = ℕ} 0 1 = cc in omega arith

pub closes_not_neither : {x : Bracket} → x ≡ closes → x ≡ neither → ⊥
closes_not_neither e f = let z : ◌≡◌ {A = ℕ} 0 1 = cc in omega arith

pub opens_true : (x : Bracket) → is_opens x ≡ true → x ≡ opens
opens_true opens e = refl
opens_true closes e = cc
opens_true neither e = cc

pub closes_true : (x : Bracket) → is_closes x ≡ true → x ≡ closes
closes_true opens e = cc
closes_true closes e = refl
closes_true neither e = cc
