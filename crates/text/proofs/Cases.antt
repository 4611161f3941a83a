-- Texts at the limits, and small schedules, by computation. Assumes nothing.
use mathlib.Core.Path.{◌≡◌, refl}
use mathlib.Core.List.{List, [], ◌∷◌, map}
use Prim.Native.Nat.{ℕ}
use lib.ListN.{length}
use Rattle.count.specs.Below.{table}
use Rattle.answers.specs.Answer.{answer, refused}
use Rattle.text.specs.Decimal.{codes, decimal}
use Rattle.text.specs.Input.{read_text}
use Rattle.text.specs.Schedule.{Row, pages_of, sum_of, schedule_text, schedule_of}

-- areas with three sides each
abbrev rows : ℕ → List Row
rows n = table (λ i. record { area = i; sides = 3; first = i }) n

pub record Cases : Type 0 where
  pub zero_alone : read_text (codes "border first second mark\n0 0 1 255\n")
      ≡ answer (record { turning = 0 ∷ 1 ∷ []; marks = 255 ∷ []; start = 0 })
  pub leading_zero : read_text (codes "border first second mark\n0 00 1 1\n") ≡ refused 17
  pub mark_256 : read_text (codes "border first second mark\n0 0 1 256\n") ≡ refused 17
  pub entry_65536 : read_text (codes "border first second mark\n0 0 65536 1\n") ≡ refused 17
  pub number_1 : read_text (codes "border first second mark\n1 0 1 1\n") ≡ refused 17
  pub decimal_4096 : decimal 4096 ≡ codes "4096"
  -- document 02, 1/14: the triangle's schedule, the empty map's, and bytes that don't open
  pub triangle : schedule_of (0x03 ∷ 0x00 ∷ 0x03 ∷ 0x00 ∷ 0x02 ∷ 0x00 ∷ 0x1B ∷ 0x0C ∷ 0x02 ∷ [])
      ≡ codes " area  sides  first\n    1      3      1\n    2      3      4\ntotal      6\n"
  pub empty : schedule_of (0x00 ∷ 0x00 ∷ 0x01 ∷ 0x00 ∷ 0x01 ∷ 0x00 ∷ []) ≡ codes " area  sides  first\n    1      0      0\ntotal      0\n"
  pub nothing : schedule_of [] ≡ codes "refused 8\n"
  -- pages end after 50 areas, and no page is empty
  pub fifty : map (λ p. length p) (pages_of (rows 50)) ≡ 50 ∷ []
  pub fifty_one : map (λ p. length p) (pages_of (rows 51)) ≡ 50 ∷ 1 ∷ []
  pub hundred : map (λ p. length p) (pages_of (rows 100)) ≡ 50 ∷ 50 ∷ []
  -- a page of 50 lines, an empty line, a page of one line, the total: 20 · 51 + 1 + 2 · 20 + 13 bytes
  pub two_pages : length (schedule_text (rows 51)) ≡ 1074
  pub summed : sum_of (rows 51) ≡ 153

pub cases : Cases
unfolding read_text codes decimal table schedule_of schedule_text pages_of sum_of
cases =
    record {
      zero_alone = refl;
      leading_zero = refl;
      mark_256 = refl;
      entry_65536 = refl;
      number_1 = refl;
      decimal_4096 = refl;
      triangle = refl;
      empty = refl;
      nothing = refl;
      fifty = refl;
      fifty_one = refl;
      hundred = refl;
      two_pages = refl;
      summed = refl;
    }
