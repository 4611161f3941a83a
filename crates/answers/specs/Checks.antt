-- A call's checks: one list says in which order they run, and of each its number, what its refusal carries, its test and the
-- proposition that it decides (document 01, the table: "Checks run in table order").
--
-- Check            == one check
-- check k t P      == one whose refusal carries nothing
-- unless t k rest  == the number k unless the test holds, then the rest
-- refusal_in cs     == the number of the first check of cs whose test fails; 0 where none does
-- checked cs a     == the refusal of that check, or a where none fails
-- after cs x       == the answer x, after the checks cs
-- alone cs         == what the checks cs give by themselves: that none fails, or the refusal
-- check_at cs i     == the check at position i; where there is none, one that holds
-- Hold cs e        == the first e checks hold
-- FirstFails cs k xs == k and xs are those of the first check that fails
-- InOrder cs x r   == r is what a call with the checks cs and the answer x gives
-- Decided cs       == each test decides its proposition, where the checks before it hold
-- numbered cs      == no check has the number 0
-- bare cs          == no check carries anything
-- Assumes nothing.
use Rattle.std.specs.Prelude.{◌≡◌, ◌↔◌, Bool, true, false, ◌&&◌, List, [], ◌∷◌, ℕ, ◌<◌, eqb, ltb, length, get_or}
use Rattle.count.specs.Below.{Decides, pick}
use Rattle.answers.specs.Answer.{Answer, answer, refused_with}

pub record Check : Type 1 where
  pub number : ℕ
  pub carries : List ℕ
  pub test : Bool
  pub holds : Type 0

abbrev pub check : ℕ → Bool → Type 0 → Check
check k t P = record { number = k; carries = []; test = t; holds = P }

abbrev pub unless : Bool → ℕ → ℕ → ℕ
unless true k rest = rest
unless false k rest = k

abbrev pub refusal_in : List Check → ℕ
refusal_in [] = 0
refusal_in (c ∷ cs) = unless c.test c.number (refusal_in cs)

abbrev pub checked : {A : Type 0} → List Check → Answer A → Answer A
checked [] a = a
checked (c ∷ cs) a = pick c.test (checked cs a) (refused_with c.number c.carries)

abbrev pub after : {A : Type 0} → List Check → A → Answer A
after cs x = checked cs (answer x)

abbrev pub alone : List Check → Answer (Unit {0})
alone cs = after cs (tt {0})

abbrev pub check_at : List Check → ℕ → Check
check_at cs i = get_or cs i (check 0 true Unit)

abbrev pub Hold : List Check → ℕ → Type 0
Hold cs e = (i : ℕ) → i < e → (check_at cs i).holds

-- the check at some position fails, all that stand before it hold, and k and xs are its number and what it carries. A number may
-- stand at several positions.
pub record FirstFails (cs : List Check) (k : ℕ) (xs : List ℕ) : Type 0 where
  pub at : ℕ
  pub within : at < length cs
  pub before : Hold cs at
  pub fails : (check_at cs at).holds → ⊥
  pub number : k ≡ (check_at cs at).number
  pub carried : xs ≡ (check_at cs at).carries

-- The number given is that of the first check that fails; without one there is the answer.
pub record InOrder {A : Type 0} (cs : List Check) (x : A) (r : Answer A) : Type 0 where
  pub refuses : (k : ℕ) (xs : List ℕ) → (r ≡ refused_with k xs) ↔ FirstFails cs k xs
  pub answers : (r ≡ answer x) ↔ Hold cs (length cs)

abbrev pub Decided : List Check → Type 0
Decided [] = Unit
Decided (c ∷ cs) = Decides c.test c.holds × (c.holds → Decided cs)

abbrev pub numbered : List Check → Bool
numbered [] = true
numbered (c ∷ cs) = ltb 0 c.number && numbered cs

abbrev pub is_bare : Check → Bool
is_bare c = eqb (length c.carries) 0

abbrev pub bare : List Check → Bool
bare [] = true
bare (c ∷ cs) = is_bare c && bare cs
