-- The cards of document 01, before document 02, 6/14: m, n and the three strings, without the count of areas. For the theorem
-- `one_form` alone: no program of today reads them.
--
-- size_fits_before, length_fits_before == the tests of 8 and 9, as they were
-- counted s       == the bytes s with the count of areas put in after n
-- refusal_before s == what the program of document 01 gives on opening s: the first of its checks 8 to 12 that applies, or 0
-- OpensBefore s   == s is a byte string that it accepts
-- OneForm s       == neither program takes the other's card for its own, and what each gives for it
-- Assumes nothing.
use Rattle.std.specs.Prelude.{◌≡◌, Bool, not, List, ◌++◌, ℕ, ◌+◌, length, take, drop, eqb}
use Rattle.format.specs.Bytes.{EachBelow, at_areas, le16, areas_of, size_in, map_length}
use Rattle.answers.specs.Checks.{unless}
use Rattle.format.specs.Open.{header_fits, areas_fit, unused_fits, ones_fit, brackets_fit, open_refusal, Opens}

-- 8: "under 4 bytes, m over 2,048, or n not 1 to m+1": the header ended where the count begins now
unfoldable pub size_fits_before : List ℕ → Bool
unfolding size_in
size_fits_before s = header_fits at_areas s

-- 9: "length differs from the header's", which was two bytes less than it is now
unfoldable pub length_fits_before : List ℕ → Bool
unfolding size_in map_length
length_fits_before s = eqb (length s + 2) (map_length (size_in s))

unfoldable pub counted : List ℕ → List ℕ
unfolding size_in
counted s = take at_areas s ++ (le16 (areas_of (size_in s)) ++ drop at_areas s)

-- 02, 6/14: "Boxes already sold keep their cards and program." 10, 11 and 12 are about the strings, and these stand in the bytes with
-- the count put in where they stand today.
unfoldable pub refusal_before : List ℕ → ℕ
unfolding size_fits_before length_fits_before unused_fits ones_fit brackets_fit counted
refusal_before s =
    unless (size_fits_before s) 8
    (unless (length_fits_before s) 9
    (unless (unused_fits (counted s)) 10 (unless (ones_fit (counted s)) 11 (unless (brackets_fit (counted s)) 12 0))))

pub record OpensBefore (s : List ℕ) : Type 0 where
  pub bytes : EachBelow 256 s
  pub passes : refusal_before s ≡ 0

-- A box already sold gives 9 for every card of today: it is two bytes too long. A program of today gives 8 for the map without
-- borders, which had four bytes, and for every other card of then 20 or, where the first two bytes of its strings happen to
-- be the count of areas, 9.
pub record OneForm (s : List ℕ) : Type 0 where
  pub one : Opens s → OpensBefore s → ⊥
  pub sold_box : Opens s → refusal_before s ≡ 9
  pub old_card : OpensBefore s → open_refusal s ≡ unless (not (eqb (size_in s).m 0)) 8 (unless (areas_fit s) 20 9)
