-- What a caller of packing knows from its answer: the map, or the refusal.
--
-- Accepted a n new == packing answered n: a is a map, which the first n bytes of the output new are
-- accepted         == so it is where a length is answered
-- declined         == a refusal is answered where there is one
-- Assumes nothing.
use mathlib.Core.Path.{◌≡◌, refl, sym, ap, ◌∙◌}
use mathlib.Core.List.{List}
use Prim.Native.Nat.{ℕ, ◌≤◌}
use native.Mathlib.Omega.{arith}
use lib.ListN.{length, take, drop, length-append}
use lib.Seq.{take_at}
use Rattle.answers.specs.Answer.{Answer, answer, refused_with, told}
use Rattle.answers.specs.Lent.{laid, leaves}

pub record Accepted (a : Answer (List ℕ)) (n : ℕ) (new : List ℕ) : Type 0 where
  pub map : List ℕ
  pub is : a ≡ answer map
  pub within : n ≤ length new
  pub bytes : take n new ≡ map

pub accepted : (n : ℕ) (old new : List ℕ) (a : Answer (List ℕ)) → answer n ≡ told length a → new ≡ leaves laid a old → Accepted a n new
unfolding leaves
accepted n old new (answer s) e h =
    let l : n ≡ length s = cc in
    record {
      map = s;
      is = refl;
      within = omega (arith, l, ap length h, length-append s (drop (length s) old));
      bytes = ap (take n) h ∙ take_at s (drop (length s) old) n (sym l);
    }
accepted n old new (refused_with j xs) e h = let z : ◌≡◌ {A = ℕ} 0 1 = cc in absurd (omega arith)

pub declined : (j : ℕ) (xs : List ℕ) (a : Answer (List ℕ)) → refused_with j xs ≡ told length a → a ≡ refused_with j xs
declined j xs (answer s) e = let z : ◌≡◌ {A = ℕ} 0 1 = cc in absurd (omega arith)
declined j xs (refused_with i ys) e = cc
