-- Writing a map letter after letter, whatever the word.
--
-- with_two s i x    == s with x in the two bytes at i, low byte first
-- begun z s        == s with the header of z, then zeros as far as the map goes
-- with_letter s b c p k r v == s with the letter at position p: A's bit p is r, and the next bit of B (r true; from byte b on, k bits
--                     are there) or of B* (from byte c on, p - k bits) is v
-- letters K w p    == how many of the first p letters of w are of family K
-- Counted z w      == w has 2m letters, 2n - 2 of them round; m is at most 2,048 and n is 1 to m + 1 (`Fits z w` without balance)
-- Holds s at bits k == from byte `at` on s holds the first k of the bits, then zeros, in as many bytes as all the bits take
-- Lettered z w old p k s == s is old, but holds the map of w with its first p letters, k of them round, and zeros for the rest
-- Assumes nothing.
use Rattle.std.specs.Prelude.{◌≡◌, Bool, List, ℕ, ◌+◌, ◌-◌, ◌*◌, ◌/◌, ◌%◌, ◌<◌, ◌≤◌, length, get_or, set}
use Rattle.count.specs.Below.{pick, count}
use Rattle.answers.specs.Lent.{cleared, laid}
use Rattle.answers.specs.declared.given.Size.{Size}
use Rattle.words.specs.declared.family.Family.{Family}
use Rattle.words.specs.declared.family.Family.TheVariants.{Round as round}
use Rattle.words.specs.Word.{same_family, Word}
use Rattle.bits.specs.Strings.{bit, bytes_for}
use Rattle.bits.specs.Writes.{set_bit}
use Rattle.drawing.specs.Drawing.{most_borders}
use Rattle.format.specs.Bytes.{header, header_of, start_b, map_length, string_a, string_b}

unfoldable pub with_two : List ℕ → ℕ → ℕ → List ℕ
with_two s i x = set (set s i (x % 256)) (i + 1) (x / 256 % 256)

unfoldable pub begun : Size → List ℕ → List ℕ
unfolding map_length cleared
begun z s = laid (header_of z) (cleared (map_length z) s)

unfoldable pub with_letter : List ℕ → ℕ → ℕ → ℕ → ℕ → Bool → Bool → List ℕ
unfolding set_bit
with_letter s b c p k r v = set_bit (set_bit s (8 * header + p) r) (pick r (8 * b + k) (8 * c + (p - k))) v

abbrev pub letters : Family → Word → ℕ → ℕ
letters K w p = count (λ q. same_family K (w.letter q).family) p

pub record Counted (z : Size) (w : Word) : Type 0 where
  pub m_most : z.m ≤ most_borders
  pub n_least : 1 ≤ z.n
  pub n_most : z.n ≤ z.m + 1
  pub size : w.size ≡ 2 * z.m
  pub rounds : letters round w w.size ≡ 2 * z.n - 2

pub record Holds (s : List ℕ) (at : ℕ) (bits : List ℕ) (k : ℕ) : Type 0 where
  pub room : at + bytes_for (length bits) ≤ length s
  pub within : k ≤ length bits
  pub on : (j : ℕ) → j < k → bit s (8 * at + j) ≡ get_or bits j 0
  pub off : (j : ℕ) → k ≤ j → j < 8 * bytes_for (length bits) → bit s (8 * at + j) ≡ 0
  pub small : (i : ℕ) → at ≤ i → i < at + bytes_for (length bits) → get_or s i 0 < 256

pub record Lettered (z : Size) (w : Word) (old : List ℕ) (p k : ℕ) (s : List ℕ) : Type 0 where
  pub counted : Counted z w
  pub within : p ≤ 2 * z.m
  pub rounds : k ≡ letters round w p
  pub long : length s ≡ length old
  pub head : (i : ℕ) → i < header → get_or s i 0 ≡ get_or (header_of z) i 0
  pub a_held : Holds s header (string_a w) p
  pub b_held : (K : Family) → Holds s (start_b K z) (string_b K w) (letters K w p)
  pub beyond : (i : ℕ) → map_length z ≤ i → get_or s i 0 ≡ get_or old i 0
