-- Small permutations by computation: cycles and their least numbers, and what an exchange does to them. Assumes nothing.
use mathlib.Core.Path.{◌≡◌, refl, sym, ap, ◌∙◌}
use mathlib.Core.List.{[], ◌∷◌}
use Prim.Native.Nat.{ℕ, zero, suc}
use native.Mathlib.Omega.{arith}
use lib.ListN.{get_or}
use Rattle.orbits.specs.Cycles.{iter, SameCycle, low, cycles}
use Rattle.orbits.specs.Exchange.{OneLess, OneMore}

-- 0 to 1 to 4 and back, 2 and 3 to one another, 5 to itself
abbrev three : ℕ → ℕ
three x = get_or (1 ∷ 4 ∷ 3 ∷ 2 ∷ 0 ∷ 5 ∷ []) x 0

-- the same with the values at 0 and 2 exchanged, which are in two cycles, and at 0 and 4, which are in one
abbrev joined : ℕ → ℕ
joined x = get_or (3 ∷ 4 ∷ 1 ∷ 2 ∷ 0 ∷ 5 ∷ []) x 0

abbrev parted : ℕ → ℕ
parted x = get_or (0 ∷ 4 ∷ 3 ∷ 2 ∷ 1 ∷ 5 ∷ []) x 0

stays : (k : ℕ) → iter parted k 0 ≡ 0
unfolding iter
stays zero = refl
stays (suc k) = ap parted (stays k)

never : SameCycle parted 0 4 → ⊥
never c = let e : ◌≡◌ {A = ℕ} 0 4 = sym (stays c.steps) ∙ c.reach in omega arith

pub record Cases : Type 0 where
  pub two_steps : iter three 2 0 ≡ 4
  pub least : low 6 three 4 ≡ 0
  pub least_other : low 6 three 3 ≡ 2
  pub three_cycles : cycles 6 three ≡ 3
  pub two_joined : OneLess 6 three joined 0 2
  pub one_parted : OneMore 6 three parted 0 4

pub cases : Cases
unfolding iter low cycles
cases =
    record {
      two_steps = refl;
      least = refl;
      least_other = refl;
      three_cycles = refl;
      two_joined = record { together = record { steps = 2; reach = refl }; less = refl };
      one_parted = record { separate = never; more = refl };
    }
