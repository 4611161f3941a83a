-- m and n fit slots of 16 bits. That every other answer does is a law of the crate `format`.
--
-- open_small  == m and n that opening gives are below 65,536
-- Assumes nothing.
use mathlib.Core.Path.{refl}
use mathlib.Core.List.{List}
use Prim.Native.Nat.{ℕ, ◌<◌}
use native.Mathlib.Omega.{arith}
use Rattle.answers.proofs.Steps.{by_checks}
use Rattle.answers.specs.Answer.{answer, value_of, told}
use Rattle.answers.specs.declared.given.Size.{Size}
use Rattle.format.specs.Bytes.{size_in}
use Rattle.format.specs.Open.{open_checks, open_refusal, open_of}
use Rattle.format.proofs.Passes.{opens_passes}

pub open_small : (s : List ℕ) → (value_of (told (λ (z : Size). z.m) (open_of s)) < 65536) × (value_of (told (λ (z : Size). z.n) (open_of s)) < 65536)
unfolding open_of open_refusal value_of
open_small s =
    by_checks (λ a. (value_of (told (λ (z : Size). z.m) a) < 65536) × (value_of (told (λ (z : Size). z.n) a) < 65536)) (open_checks s) (answer (size_in s)) refl
    (λ e. (omega (arith, (opens_passes s e).m_most), omega (arith, (opens_passes s e).m_most, (opens_passes s e).n_most)))
    (λ k xs l. (omega arith, omega arith))
