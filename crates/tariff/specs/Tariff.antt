-- The tariff (document 02, 4/14): what the two lists that a caller lends say of each area, when they are refused, and the factor
-- of an area from them and from the areas across its sides.
--
-- A number is an f64 of the toolchain's account of IEEE 754: `nan`, an infinity, or a sign, an odd number and a power of 2, so that
-- one value other than `nan` has one pattern of bits. `add`, `div`, `lt` and `le` are the machine's operations, each rounded once.
--
-- Factor             == own: the factor; held: the factor, its floor and its ceiling; unknown
-- least, most, within == the bounds of what is used, and their test
-- held x low high    == x, raised to the floor or lowered to the ceiling
-- of_kind b x low high == what the kind byte b makes of three numbers
-- factor_at kinds values k == the factor of area k
-- allowed f          == the numbers that f uses are within the bounds, and no floor exceeds its ceiling
-- TariffFits v kinds values, tariff_fits == passes 18: the lists are those of v areas, and say of each what is allowed
-- Running            == a sum, and how many factors are in it; begun: none yet; plus r x: r with the number x
-- added r f          == r with one factor more, if it is known
-- summed t js r      == r with those of the areas js, in order; t is the factor of an area
-- mean r             == the sum divided by the count
-- sum_across kinds values js == the sum of the known factors of the areas js
-- has_factor f r      == passes 19: the factor f is known, or the sum r across the sides has at least one in it
-- worth f r          == the factor that an area is given: its own, held, or the mean
-- Known f            == the factor f is known
-- Priced t k js      == passes 19: area k is known, or one of the areas js across its sides is; t is the factor of an area
-- tariff_checks v kinds values k js == the checks 18 and 19, of area k of v, with the areas js across its sides
-- rated v kinds values k js == 18, 19, or the factor of area k of v, with the areas js across its sides
-- Assumes nothing.
use Rattle.std.specs.Prelude.{◌≡◌, ◌≢◌, ◌⊎◌, Bool, true, not, ◌&&◌, List, [], ◌∷◌, ℕ, suc, pred, ◌+◌, ◌*◌, ◌≤◌, ◌<◌, eqb, ltb, leb, pos, Float, length, get_or}
use Rattle.std.specs.Float.{binary64, nan}
use Rattle.std.specs.Float.Ieee.{of_bits, of_int, add, div, lt, le}
use Rattle.count.specs.Below.{pick, all}
use Rattle.answers.specs.Answer.{Answer}
use Rattle.answers.specs.Checks.{Check, check, after}
use Rattle.tariff.specs.declared.factor.Factor.{Factor}
use Rattle.tariff.specs.declared.factor.Running.{Running}

-- 02: "Factors, floors and ceilings lie between the f64 nearest 0.01 and 100.0."
abbrev pub least : Float
least = of_bits binary64 0x3f84_7ae1_47ae_147b

abbrev pub most : Float
most = of_bits binary64 0x4059_0000_0000_0000

-- false of what is no number
unfoldable pub within : Float → Bool
unfolding le
within x = le least x && le x most

-- 02: "A held one is raised to its floor or lowered to its ceiling."
unfoldable pub held : Float → Float → Float → Float
unfolding lt
held x low high = pick (lt x low) low (pick (lt high x) high x)

-- 02: "a kind byte (0 own, 1 held, 2 not known) and three f64 in a row (factor, floor, ceiling)"; a byte above 2 is refused
unfoldable pub of_kind : ℕ → Float → Float → Float → Factor
of_kind b x low high = pick (eqb b 0) (Factor.Own x) (pick (eqb b 1) (Factor.Held x low high) Factor.Unknown)

-- 02: "The caller lends for each area": areas count from 1
unfoldable pub factor_at : List ℕ → List Float → ℕ → Factor
unfolding of_kind
factor_at kinds values k =
    of_kind (get_or kinds (pred k) 0) (get_or values (3 * pred k) nan) (get_or values (3 * pred k + 1) nan) (get_or values (3 * pred k + 2) nan)

-- 18: "a factor or limit that its kind uses is outside its bounds or no number, or a floor exceeds its ceiling"
unfoldable pub allowed : Factor → Bool
unfolding within lt
allowed (Factor.Own x) = within x
allowed (Factor.Held x low high) = within x && within low && within high && not (lt high low)
allowed Factor.Unknown = true

-- 18: "when a list's length isn't that, or in any area, asked for or not, a kind is above 2", or what it uses is not allowed
pub record TariffFits (v : ℕ) (kinds : List ℕ) (values : List Float) : Type 0 where
  pub bytes : length kinds ≡ v
  pub numbers : length values ≡ 3 * v
  pub kind : (i : ℕ) → i < v → get_or kinds i 0 ≤ 2
  pub each : (i : ℕ) → i < v → allowed (factor_at kinds values (suc i)) ≡ true

unfoldable pub tariff_fits : ℕ → List ℕ → List Float → Bool
unfolding all allowed factor_at
tariff_fits v kinds values =
    eqb (length kinds) v
    && eqb (length values) (3 * v)
    && all (λ i. leb (get_or kinds i 0) 2 && allowed (factor_at kinds values (suc i))) v

-- 02: "begin at 0.0"
abbrev pub begun : Running
begun = record { sum = of_bits binary64 0; count = 0 }

unfoldable pub plus : Running → Float → Running
unfolding add
plus r x = record { sum = add binary64 r.sum x; count = r.count + 1 }

-- 02: "add the known factors, held ones as held"
unfoldable pub added : Running → Factor → Running
unfolding plus held
added r (Factor.Own x) = plus r x
added r (Factor.Held x low high) = plus r (held x low high)
added r Factor.Unknown = r

-- 02: "one for each side, in walk order"
unfoldable pub summed : (ℕ → Factor) → List ℕ → Running → Running
unfolding added
summed t [] r = r
summed t (j ∷ js) r = summed t js (added r (t j))

-- 02: "divide by how many were added"
unfoldable pub mean : Running → Float
unfolding div of_int
mean r = div binary64 r.sum (of_int binary64 (pos r.count))

-- 19: "when the unknown factor wanted has no known one across any side"
unfoldable pub has_factor : Factor → Running → Bool
has_factor (Factor.Own x) r = true
has_factor (Factor.Held x low high) r = true
has_factor Factor.Unknown r = ltb 0 r.count

-- 02: "An area's factor is its own, or held between a floor and a ceiling, or not known. .. One not known is the mean across its
-- sides"
unfoldable pub worth : Factor → Running → Float
unfolding held mean
worth (Factor.Own x) r = x
worth (Factor.Held x low high) r = held x low high
worth Factor.Unknown r = mean r

-- 02: "begin at 0.0, add the known factors"
unfoldable pub sum_across : List ℕ → List Float → List ℕ → Running
unfolding summed factor_at
sum_across kinds values js = summed (factor_at kinds values) js begun

abbrev pub Known : Factor → Type 0
Known f = f ≢ Factor.Unknown

-- 19: "when the unknown factor wanted has no known one across any side"
abbrev pub Priced : (ℕ → Factor) → ℕ → List ℕ → Type 0
Priced t k js = Known (t k) ⊎ ((i : ℕ) × (i < length js) × Known (t (get_or js i 0)))

-- 02: "18 first"
abbrev pub tariff_checks : ℕ → List ℕ → List Float → ℕ → List ℕ → List Check
tariff_checks v kinds values k js =
    check 18 (tariff_fits v kinds values) (TariffFits v kinds values)
    ∷ check 19 (has_factor (factor_at kinds values k) (sum_across kinds values js)) (Priced (factor_at kinds values) k js)
    ∷ []

unfoldable pub rated : ℕ → List ℕ → List Float → ℕ → List ℕ → Answer Float
unfolding tariff_fits has_factor worth factor_at sum_across
rated v kinds values k js = after (tariff_checks v kinds values k js) (worth (factor_at kinds values k) (sum_across kinds values js))
