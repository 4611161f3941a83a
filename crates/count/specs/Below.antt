-- Counting and searching among the numbers below a bound.
--
-- Decides t P == the test t holds exactly if the proposition P does
-- pick t x y  == x where the test t holds, else y
-- count P N   == how many x < N have P x
-- total f N   == f 1 + f 2 + .. + f N
-- all P N     == whether every x < N has P x
-- any P N     == whether some x < N has P x
-- find P N    == the least x < N that has P x; N where none has
-- nth P j N   == the x < N that has P x and j such numbers before it (the j-th, from 0); N where there is none
-- table f N   == the list f 0, f 1, .., f (N - 1)
-- gather P f N == the list of the f x, in order, of the x < N that have P x
--
-- P is a test, a function into Bool; "P x" in words is P x ≡ true in a proof. Assumes nothing.
use Rattle.std.specs.Prelude.{◌≡◌, Bool, true, false, ◌&&◌, ◌||◌, List, [], ◌∷◌, ℕ, zero, suc, ◌+◌, eqb}

pub record Decides (t : Bool) (P : Type 0) : Type 0 where
  pub sound : t ≡ true → P
  pub complete : P → t ≡ true

abbrev pub pick {ℓ} : {X : Type ℓ} → Bool → X → X → X
pick true x y = x
pick false x y = y

-- one more where the test holds
abbrev pub tick : Bool → ℕ → ℕ
tick true k = suc k
tick false k = k

unfoldable pub count : (ℕ → Bool) → ℕ → ℕ
count P zero = 0
count P (suc N) = tick (P N) (count P N)

unfoldable pub total : (ℕ → ℕ) → ℕ → ℕ
total f zero = 0
total f (suc N) = total f N + f (suc N)

unfoldable pub all : (ℕ → Bool) → ℕ → Bool
all P zero = true
all P (suc N) = P N && all P N

unfoldable pub any : (ℕ → Bool) → ℕ → Bool
any P zero = false
any P (suc N) = P N || any P N

-- the least x from `at` on that has P, among k numbers
unfoldable pub find_from : (ℕ → Bool) → ℕ → ℕ → ℕ
find_from P at zero = at
find_from P at (suc k) = elim (P at) [ true ↦ at | false ↦ find_from P (suc at) k ]

unfoldable pub find : (ℕ → Bool) → ℕ → ℕ
unfolding find_from
find P N = find_from P 0 N

unfoldable pub nth : (ℕ → Bool) → ℕ → ℕ → ℕ
unfolding find count
nth P j N = find (λ x. P x && eqb (count P x) j) N

-- f at, f (at + 1), .., k of them
unfoldable pub table_from {ℓ} : {X : Type ℓ} → (ℕ → X) → ℕ → ℕ → List X
table_from f at zero = []
table_from f at (suc k) = f at ∷ table_from f (suc at) k

unfoldable pub table {ℓ} : {X : Type ℓ} → (ℕ → X) → ℕ → List X
unfolding table_from
table f N = table_from f 0 N

-- one element more where the test holds
abbrev pub keep {ℓ} : {X : Type ℓ} → Bool → X → List X → List X
keep true x xs = x ∷ xs
keep false x xs = xs

unfoldable pub gather_from {ℓ} : {X : Type ℓ} → (ℕ → Bool) → (ℕ → X) → ℕ → ℕ → List X
gather_from P f at zero = []
gather_from P f at (suc k) = keep (P at) (f at) (gather_from P f (suc at) k)

unfoldable pub gather {ℓ} : {X : Type ℓ} → (ℕ → Bool) → (ℕ → X) → ℕ → List X
unfolding gather_from
gather P f N = gather_from P f 0 N
