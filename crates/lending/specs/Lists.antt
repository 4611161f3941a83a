-- A list that is lent to be worked in: its first entries 0, and which of its entries a function may change.
--
-- cleared_to z k l    == the list l with its first k entries z; all of them where it has fewer
-- cleared_zero        == cleared (answers, specs/Lent) is cleared_to 0
-- Blank k work        == the list has at least k entries, and its first k are 0
-- Kept k old new      == the lists are equally long, and equal from entry k on
-- Outside a e old new == the lists are equally long, and equal but for the entries from a up to e
-- Zeroed a e old new  == new is old with 0 for the entries from a up to e
-- Assumes nothing.
use Rattle.std.specs.Prelude.{◌≡◌, List, ℕ, ◌++◌, ◌<◌, ◌≤◌, min, length, drop, replicate, get_or, refl}
use Rattle.answers.specs.Lent.{cleared}

abbrev pub cleared_to : {A : Type 0} → A → ℕ → List A → List A
cleared_to z k l = replicate (min k (length l)) z ++ drop k l

pub cleared_zero : (k : ℕ) (l : List ℕ) → cleared k l ≡ cleared_to 0 k l
unfolding cleared
cleared_zero k l = refl

pub record Blank (k : ℕ) (work : List ℕ) : Type 0 where
  pub room : k ≤ length work
  pub zero : (i : ℕ) → i < k → get_or work i 0 ≡ 0

pub record Kept (k : ℕ) (old new : List ℕ) : Type 0 where
  pub same_length : length new ≡ length old
  pub rest : (i : ℕ) → k ≤ i → get_or new i 0 ≡ get_or old i 0

pub record Outside (a e : ℕ) (old new : List ℕ) : Type 0 where
  pub same_length : length new ≡ length old
  pub before : (i : ℕ) → i < a → get_or new i 0 ≡ get_or old i 0
  pub after : (i : ℕ) → e ≤ i → get_or new i 0 ≡ get_or old i 0

pub record Zeroed (a e : ℕ) (old new : List ℕ) : Type 0 where
  pub zero : (i : ℕ) → a ≤ i → i < e → get_or new i 0 ≡ 0
  pub outside : Outside a e old new
