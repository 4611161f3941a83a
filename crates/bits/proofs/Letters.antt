-- The word that strings of bits hold: families and their bits, and what a letter is by its bits.
--
-- family_same         == the test of a letter's family is the test of its bit
-- family_back, bit_back, closing_back, closed_back == family_of and family_bit, the closing test and closing_bit undo one another
-- closing_bracket     == a letter that closes has bit 1, one that opens has bit 0
-- family_itself, family_is == the test of a family holds of that family and of no other
-- family_small, family_told, family_has == a family's bit is 0 or 1; a family is K or has another bit; each bit is some family's
-- spelled_tests       == the test of a position's family is a test of its bit in A
-- spelled_family, spelled_closing == a position's family by A, and whether it closes by the family's string at the rank in A
-- spelled_own, spelled_other == what a letter is to its own family, by that bit; to the other it is neither
-- Assumes nothing.
use mathlib.Core.Path.{◌≡◌, refl, ◌∙◌, ap}
use mathlib.Core.Logic.{◌≢◌, ◌⊎◌, inl, inr}
use mathlib.Core.Bool.{Bool, true, false}
use mathlib.Core.List.{List}
use Prim.Native.Nat.{ℕ, zero, suc, ◌<◌}
use native.Mathlib.Omega.{arith}
use lib.Dec.{eqb}
use borrow.Author.Tests.{eq-eqb}
use Rattle.count.specs.Below.{pick}
use Rattle.count.proofs.Logic.{same_or_not, true_not_false, pick_yes, pick_no}
use Rattle.words.specs.Brackets.{opens, closes, neither}
use Rattle.words.specs.declared.family.Family.{Family}
use Rattle.words.specs.declared.family.Family.TheVariants.{Round as round, Square as square}
use Rattle.words.specs.Word.{same_family, seen}
use Rattle.bits.specs.Strings.{bit, is_bit, rank}
use Rattle.bits.specs.Letters.{family_of, family_bit, closing_bit, spelled}
use Rattle.bits.proofs.Laws.{bit_below_2}

pub family_same : (K L : Family) → same_family K L ≡ eqb (family_bit L) (family_bit K)
family_same round round = refl
family_same round square = refl
family_same square round = refl
family_same square square = refl

pub family_back : (K : Family) → family_of (family_bit K) ≡ K
family_back round = refl
family_back square = refl

pub bit_back : (v : ℕ) → v < 2 → family_bit (family_of v) ≡ v
bit_back zero l = refl
bit_back (suc zero) l = refl
bit_back (suc (suc v)) l = absurd (omega arith)

pub closing_back : (t : Bool) → eqb (closing_bit t) 1 ≡ t
closing_back true = refl
closing_back false = refl

pub closed_back : (v : ℕ) → v < 2 → closing_bit (eqb v 1) ≡ v
closed_back zero l = refl
closed_back (suc zero) l = refl
closed_back (suc (suc v)) l = absurd (omega arith)

pub closing_bracket : (t : Bool) → pick t closes opens ≡ pick (eqb (closing_bit t) 0) opens closes
closing_bracket true = refl
closing_bracket false = refl

pub family_itself : (K : Family) → same_family K K ≡ true
family_itself round = refl
family_itself square = refl

pub family_is : (K L : Family) → same_family K L ≡ true → L ≡ K
family_is round round e = refl
family_is round square e = absurd (true_not_false false e refl)
family_is square round e = absurd (true_not_false false e refl)
family_is square square e = refl

pub family_small : (K : Family) → family_bit K < 2
family_small round = omega arith
family_small square = omega arith

pub family_told : (K L : Family) → (L ≡ K) ⊎ (family_bit L ≢ family_bit K)
family_told round round = inl refl
family_told round square = inr (λ e. omega arith)
family_told square round = inr (λ e. omega arith)
family_told square square = inl refl

pub family_has : (x : ℕ) → x < 2 → (K : Family) × (x ≡ family_bit K)
family_has x h = elim (same_or_not x 1) [ inl e ↦ (round, e) | inr m ↦ (square, omega arith) ]

module _ (A : List ℕ) (B : Family → ℕ → ℕ) (n : ℕ) (K : Family) (p : ℕ) where
  pub spelled_tests : same_family K ((spelled A B n).letter p).family ≡ is_bit (family_bit K) A p
  spelled_tests =
      family_same K (family_of (bit A p)) ∙ ap (λ v. eqb v (family_bit K)) (bit_back (bit A p) (bit_below_2 A p))

  pub spelled_family : bit A p ≡ family_bit K → ((spelled A B n).letter p).family ≡ K
  spelled_family e = family_is K ((spelled A B n).letter p).family (spelled_tests ∙ eq-eqb (bit A p) (family_bit K) e)

  pub spelled_closing : ((spelled A B n).letter p).family ≡ K → ((spelled A B n).letter p).closing ≡ eqb (B K (rank (family_bit K) A p)) 1
  spelled_closing e = ap (λ L. eqb (B L (rank (family_bit L) A p)) 1) e

  pub spelled_other : is_bit (family_bit K) A p ≡ false → seen K (spelled A B n) p ≡ neither
  unfolding seen
  spelled_other f =
      let l = (spelled A B n).letter p in
      pick_no (same_family K l.family) (pick l.closing closes opens) neither (spelled_tests ∙ f)

  pub spelled_own : is_bit (family_bit K) A p ≡ true → B K (rank (family_bit K) A p) < 2
      → seen K (spelled A B n) p ≡ pick (eqb (B K (rank (family_bit K) A p)) 0) opens closes
  unfolding seen
  spelled_own t two =
      let l = (spelled A B n).letter p in
      let e : same_family K l.family ≡ true = spelled_tests ∙ t in
      let v : ℕ = B K (rank (family_bit K) A p) in
      pick_yes (same_family K l.family) (pick l.closing closes opens) neither e
      ∙ ap (λ c. pick c closes opens) (spelled_closing (family_is K l.family e))
      ∙ closing_bracket (eqb v 1)
      ∙ ap (λ x. pick (eqb x 0) opens closes) (closed_back v two)
