-- Answers of calls: a value, or a refusal (document 01, "Numbers returned when a call declines").
--
-- Answer A         == what a call gives: an answer, or a refusal, its number and the numbers that it carries
-- refused k        == refusal k, which carries nothing
-- number_of a       == document 01's number for it: 0 for an answer
-- carried_by a      == the numbers that a refusal carries; none with an answer
-- value_of a        == the number in an answer; 0 where the call is refused
-- told f a         == what f tells of the value in a; the same refusal where it is one
-- Tells a          == a status of 0 says that there is an answer
-- Reply            == what a call of a session answers: a number, and whether a turn has gone round
-- unsigned x       == the number x without the sign
-- plain a          == the number alone, or the refusal
-- gone_round a      == 1 with the sign and 0 without, or the refusal
-- Kind             == what a cell is: a point (vertex) or an area (face)
-- no_such c         == the refusal of a number that no point (area) has: 14 or 15
-- Assumes nothing.
use Rattle.std.specs.Prelude.{◌≡◌, Bool, false, List, [], ℕ}
use Rattle.count.specs.Below.{pick}

-- 01, "Numbers returned when a call declines". 02, 2/14: "Refusal 7 now carries the alternating pair"
pub data Answer (A : Type 0) : Type 0 where
  answer : A → Answer A
  refused_with : ℕ → List ℕ → Answer A

-- every refusal but 7
abbrev pub refused : {A : Type 0} → ℕ → Answer A
refused k = refused_with k []

unfoldable pub number_of : {A : Type 0} → Answer A → ℕ
number_of (answer a) = 0
number_of (refused_with k xs) = k

unfoldable pub carried_by : {A : Type 0} → Answer A → List ℕ
carried_by (answer a) = []
carried_by (refused_with k xs) = xs

unfoldable pub value_of : Answer ℕ → ℕ
value_of (answer x) = x
value_of (refused_with k xs) = 0

-- 01: "Opening gives m and n, unpacking gives m"; packing the map's "bytes and its length"
abbrev pub told : {A B : Type 0} → (A → B) → Answer A → Answer B
told f (answer x) = answer (f x)
told f (refused_with k xs) = refused_with k xs

-- the C interface: "Status 0 is success, else the refusal's number, and then nothing was written."
pub record Tells {A : Type 0} (a : Answer A) : Type 0 where
  pub answered : number_of a ≡ 0 → (x : A) × (a ≡ answer x)

-- 02, 8/14: "each with a sign that it has gone round"
pub record Reply : Type 0 where
  pub value : ℕ
  pub sign : Bool

-- 02, 8/14: "no other turn has the sign"
abbrev pub unsigned : ℕ → Reply
unsigned x = record { value = x; sign = false }

abbrev pub plain : Answer Reply → Answer ℕ
plain a = told (λ (r : Reply). r.value) a

abbrev pub gone_round : Answer Reply → Answer ℕ
gone_round a = told (λ (r : Reply). pick r.sign 1 0) a

pub data Kind : Type 0 where
  point area : Kind

-- 01: "A point number that no point has gets 14, an area number that no area has 15."
abbrev pub no_such : Kind → ℕ
no_such point = 14
no_such area = 15
