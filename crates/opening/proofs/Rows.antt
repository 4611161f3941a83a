-- Checks 8, 20 and 9 to 12, from what the checks found to the definitions: each check, their order, and opening.
--
-- passes, fails          == a test is what it was found to be
-- too_short, too_many, no_point, points_fit == 8, by the case
-- areas_is               == 20
-- length_is              == 9
-- unused_is, balanced_is, ones_is == what was computed of the parts is so of the map's strings
-- unused_a_not, unused_b_not, unused_never, unused_left == 10, by the string that decides
-- brackets_not, brackets_left == 12, by the string that decides
-- header_refuses, strings_refuse, strings_pass == the refusal of the header's checks, of those after them, or none
-- opens_size, opens_not  == opening gives m and n, or the refusal
-- bytes_open, answer_opens == what opening accepts is a byte string that opens
-- Assumes nothing.
use mir.Syntax.{w8}
use mir.Val.{Fits}
use mathlib.Core.Path.{◌≡◌, sym, ap, ap₂, ◌∙◌}
use mathlib.Core.Bool.{Bool, true, false, not}
use mathlib.Core.List.{List}
use Prim.Native.Nat.{ℕ, ◌+◌, ◌<◌, ◌≤◌}
use native.Mathlib.Omega.{arith}
use borrow.Author.Tests.{le-leb, lt-leb, not-true, not-false}
use lib.Dec.{eqb, leb}
use lib.ListN.{length, get_or}
use Rattle.count.proofs.Logic.{true_not_false}
use Rattle.answers.proofs.Steps.{Passed, answered_none}
use Rattle.answers.proofs.Passing.{declines, declines_first, goes_on, refuses}
use Rattle.answers.proofs.Passing as first
use Rattle.answers.specs.Checks.{check_at}
use Rattle.answers.specs.Answer.{Answer, answer, refused_with}
use Rattle.answers.specs.declared.given.Size.{Size}
use Rattle.words.specs.Brackets.{balanced}
use Rattle.words.specs.declared.family.Family.{Family}
use Rattle.words.specs.declared.family.Family.TheVariants.{Round as round, Square as square}
use Rattle.bits.specs.Strings.{rank, brackets, unused_zero}
use Rattle.format.specs.Bytes.{header, areas_of, size_in, written_areas, bits_a, bits_b, map_length, part_a, part_b}
use Rattle.format.specs.Open.{size_fits, areas_fit, length_fits, unused_fits, ones_fit, brackets_fit, open_checks, open_refusal, open_of, Opens}
use Rattle.opening.specs.Checks.{header_checks, string_checks, header_check, open_check}

-- a test r that was computed, and the test t that it computes
module _ (r t : Bool) (e : r ≡ t) where
  pub passes : not r ≡ false → t ≡ true
  passes h = sym e ∙ not-false r h

  pub fails : not r ≡ true → t ≡ false
  fails h = sym e ∙ not-true r h

-- a test of a part, by what the part is
pub unused_is : (r : Bool) (A X : List ℕ) (a x : ℕ) → r ≡ unused_zero A a → A ≡ X → a ≡ x → r ≡ unused_zero X x
unused_is r A X a x h p q = h ∙ ap₂ unused_zero p q

pub balanced_is : (r : Bool) (B X : List ℕ) (b x : ℕ) → r ≡ balanced (brackets B) b → B ≡ X → b ≡ x → r ≡ balanced (brackets X) x
balanced_is r B X b x h p q = h ∙ ap₂ (λ Y y. balanced (brackets Y) y) p q

module _ (s : List ℕ) where
  -- ---- 8
  pub too_short : length s < header → false ≡ size_fits s
  unfolding size_fits
  too_short l = rw (lt-leb header (length s) l)

  module _ (m n : ℕ) (h : header ≤ length s) (p : m ≡ (size_in s).m) (q : n ≡ (size_in s).n) where
    pub too_many : 2048 < m → false ≡ size_fits s
    unfolding size_fits
    too_many l = rw (le-leb header (length s) h, lt-leb (size_in s).m 2048 (omega arith))

    pub no_point : m ≤ 2048 → n < 1 → false ≡ size_fits s
    unfolding size_fits
    no_point l k = rw (le-leb header (length s) h, le-leb (size_in s).m 2048 (omega arith), lt-leb 1 (size_in s).n (omega arith))

    pub points_fit : m ≤ 2048 → 1 ≤ n → leb n (m + 1) ≡ size_fits s
    unfolding size_fits
    points_fit l k =
        rw (le-leb header (length s) h, le-leb (size_in s).m 2048 (omega arith), le-leb 1 (size_in s).n (omega arith), p, q)

  -- ---- 20
  pub areas_is : (x y : ℕ) → x ≡ written_areas s → y ≡ areas_of (size_in s) → eqb x y ≡ areas_fit s
  unfolding areas_fit
  areas_is x y p q = ap₂ eqb p q

  -- ---- 9
  pub length_is : (k : ℕ) → k ≡ map_length (size_in s) → eqb (length s) k ≡ length_fits s
  unfolding length_fits
  length_is k e = ap (eqb (length s)) e

  -- ---- 10
  abbrev unused_b : Family → Bool
  unused_b K = unused_zero (part_b K s) (bits_b K (size_in s))

  abbrev unused_a : Bool
  unused_a = unused_zero (part_a s) (bits_a (size_in s))

  -- a, b and c: what was found of A, B and B*; j: of A and B together
  module _ (a j : Bool) (p : a ≡ unused_a) where
    pub unused_a_not : a ≡ false → j ≡ a → j ≡ unused_fits s
    unfolding unused_fits
    unused_a_not h e = rw (← p, h) (e ∙ h)

    pub unused_never : (c : Bool) → a ≡ false → j ≡ a → j ≡ true → c ≡ unused_fits s
    unused_never c h e k = absurd (true_not_false j k (e ∙ h))

    module _ (b : Bool) (h : a ≡ true) (q : b ≡ unused_b round) (e : j ≡ b) where
      pub unused_b_not : j ≡ false → j ≡ unused_fits s
      unfolding unused_fits
      unused_b_not k = rw (← p, h, ← q, ← e, k)

      pub unused_left : (c : Bool) → j ≡ true → c ≡ unused_b square → c ≡ unused_fits s
      unfolding unused_fits
      unused_left c k r = rw (← p, h, ← q, ← e, k, ← r)

  -- ---- 11
  pub ones_is : (A : List ℕ) (a b r : ℕ) → A ≡ part_a s → a ≡ bits_a (size_in s) → r ≡ rank 1 A a → b ≡ bits_b round (size_in s) → eqb r b ≡ ones_fit s
  unfolding ones_fit
  ones_is A a b r p q h e = rw (h, p, q, e)

  -- ---- 12
  abbrev nests : Family → Bool
  nests K = balanced (brackets (part_b K s)) (bits_b K (size_in s))

  pub brackets_not : (r : Bool) → r ≡ nests round → r ≡ false → r ≡ brackets_fit s
  unfolding brackets_fit
  brackets_not r e h = rw (← e, h)

  pub brackets_left : (b c : Bool) → b ≡ nests round → b ≡ true → c ≡ nests square → c ≡ brackets_fit s
  unfolding brackets_fit
  brackets_left b c p h q = rw (← p, h, ← q)

  -- ---- the checks of the header, then those of the strings
  pub header_refuses : (k : ℕ) (xs : List ℕ) → refused_with k xs ≡ header_check s → refused_with k xs ≡ open_check s
  unfolding header_check open_check
  header_refuses k xs e = declines_first (header_checks s) (string_checks s) (answer (tt {0})) k xs e

  module _ (e : answer (tt {0}) ≡ header_check s) where
    pub strings_refuse : (i : ℕ) → Passed (string_checks s) i → (check_at (string_checks s) i).test ≡ false
        → refused_with (check_at (string_checks s) i).number (check_at (string_checks s) i).carries ≡ open_check s
    unfolding header_check open_check
    strings_refuse i p f = refuses (header_checks s) (string_checks s) e (answer (tt {0})) i p f

    pub strings_pass : Passed (string_checks s) 3 → answer (tt {0}) ≡ open_check s
    unfolding header_check open_check
    strings_pass p = first.passes (header_checks s) (string_checks s) e (answer (tt {0})) p

  -- ---- opening
  pub opens_size : (m n : ℕ) → answer (tt {0}) ≡ open_check s → m ≡ (size_in s).m → n ≡ (size_in s).n → ◌≡◌ {A = Answer Size} (answer (record { m = m; n = n })) (open_of s)
  unfolding open_of open_check
  opens_size m n e p q = rw (p, q) (goes_on (open_checks s) (answer (size_in s)) e)

  pub opens_not : (k : ℕ) (xs : List ℕ) → refused_with k xs ≡ open_check s → ◌≡◌ {A = Answer Size} (refused_with k xs) (open_of s)
  unfolding open_of open_check
  opens_not k xs e = declines (open_checks s) (answer (size_in s)) k xs e

-- ---- what is known of a `&[u8]`: each entry is a value of its type, so that what is accepted is a byte string
pub bytes_open : (s : List ℕ) → ((i : ℕ) → Fits w8 (get_or s i 0)) → open_refusal s ≡ 0 → Opens s
bytes_open s known e = record { bytes = λ i. (known i).fits; passes = e }

pub answer_opens : (s : List ℕ) → ((i : ℕ) → Fits w8 (get_or s i 0)) → (z : Size) → open_of s ≡ answer z → Opens s
unfolding open_of open_refusal
answer_opens s known z e = bytes_open s known (answered_none (open_checks s) (size_in s) z e)
