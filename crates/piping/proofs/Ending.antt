-- What is printed, by the answer of the read after the bytes that were given.
--
-- heard_end, heard_cut == where that answer is 0, and where it is not
-- heard_ended, heard_failed == where it is 0, and where it is -1
-- heard_within         == what is printed is within the memory at whose start it stands
-- Assumes nothing.
use mathlib.Core.Path.{◌≡◌, refl, sym, ap, ◌∙◌}
use mathlib.Core.List.{List, ◌++◌}
use Prim.Native.Nat.{ℕ, zero, suc, ◌≤◌}
use native.Mathlib.Omega.{arith}
use lib.IntN.{ℤ, pos, negsuc}
use lib.ListN.{length, drop, length-append}
use mir.Syntax.{w64}
use mir.Val.{to_z, of_z, SFits}
use mir.ValLaws.{to_z-of_z}
use Rattle.text.specs.Heard.{heard}

-- a signed number is tested by its bits
pub heard_end : (z : ℤ) → SFits w64 z → (whole cut : List ℕ) → of_z w64 z ≡ 0 → heard z whole cut ≡ whole
unfolding heard
heard_end z fits whole cut e = ap (λ x. heard x whole cut) (sym (to_z-of_z w64 z fits) ∙ ap (to_z w64) e)

pub heard_cut : (z : ℤ) (whole cut : List ℕ) → (of_z w64 z ≡ 0 → ⊥) → heard z whole cut ≡ cut
unfolding heard
heard_cut (pos zero) whole cut n = absurd (n refl)
heard_cut (pos (suc k)) whole cut n = refl
heard_cut (negsuc k) whole cut n = refl

pub heard_ended : (whole cut : List ℕ) → heard (pos zero) whole cut ≡ whole
unfolding heard
heard_ended whole cut = refl

pub heard_failed : (whole cut : List ℕ) → heard (negsuc zero) whole cut ≡ cut
unfolding heard
heard_failed whole cut = refl

pub heard_within : (z : ℤ) (whole cut old new : List ℕ) (r : ℕ) → r ≡ length (heard z whole cut)
    → new ≡ heard z whole cut ++ drop (length (heard z whole cut)) old → r ≤ length new
heard_within z whole cut old new r e f = omega (arith, ap length f, length-append (heard z whole cut) (drop (length (heard z whole cut)) old))
