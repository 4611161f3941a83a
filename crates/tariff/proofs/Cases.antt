-- Factors by computation: what is within the bounds, what is held, the order of a sum and what is counted in it, the refusals,
-- and three small maps. A number is given by its bits. Assumes nothing.
use mathlib.Core.Path.{◌≡◌, refl}
use mathlib.Core.Bool.{true, false}
use mathlib.Core.List.{List, [], ◌∷◌}
use Prim.Native.Nat.{ℕ}
use lib.Ieee.{Float, binary64, nan, of_bits}
use Rattle.answers.specs.Answer.{answer, refused}
use Rattle.drawing.specs.Drawing.{Drawing}
use Rattle.tariff.specs.declared.factor.Factor.{Factor}
use Rattle.tariff.specs.Tariff.{within, held, allowed, mean, sum_across}
use Rattle.tariff.specs.Book.{book_factor}
use Rattle.tariff.specs.Maps.{factor_of}

abbrev float : ℕ → Float
float b = of_bits binary64 b

abbrev quarter : Float
quarter = float 0x3fd0_0000_0000_0000

abbrev half : Float
half = float 0x3fe0_0000_0000_0000

abbrev one : Float
one = float 0x3ff0_0000_0000_0000

abbrev two : Float
two = float 0x4000_0000_0000_0000

abbrev three : Float
three = float 0x4008_0000_0000_0000

abbrev four : Float
four = float 0x4010_0000_0000_0000

-- 0.1, 0.2 and 0.3: their sum depends on the order
abbrev tenth : Float
tenth = float 0x3fb9_9999_9999_999a

abbrev fifth : Float
fifth = float 0x3fc9_9999_9999_999a

abbrev three_tenths : Float
three_tenths = float 0x3fd3_3333_3333_3333

-- factors of three areas, each its own
abbrev tenths : List Float
tenths = tenth ∷ nan ∷ nan ∷ fifth ∷ nan ∷ nan ∷ three_tenths ∷ nan ∷ nan ∷ []

-- one unmarked loop: area 2 lies inside, across the one side of area 1
abbrev enclave_map : List ℕ
enclave_map = 0x01 ∷ 0x00 ∷ 0x01 ∷ 0x00 ∷ 0x02 ∷ 0x00 ∷ 0x00 ∷ 0x02 ∷ []

-- the same, drawn
abbrev enclave : Drawing
enclave = record { turning = 1 ∷ 0 ∷ []; marks = 0 ∷ []; start = 0 }

-- one marked border: both its sides are of area 1
abbrev stub_map : List ℕ
stub_map = 0x01 ∷ 0x00 ∷ 0x02 ∷ 0x00 ∷ 0x01 ∷ 0x00 ∷ 0x03 ∷ 0x02 ∷ []

-- three loops on one point, [ ] [ ] [ ]: areas 2, 3 and 4 lie across the sides of area 1 in this order
abbrev three_map : List ℕ
three_map = 0x03 ∷ 0x00 ∷ 0x01 ∷ 0x00 ∷ 0x04 ∷ 0x00 ∷ 0x00 ∷ 0x2a ∷ []

-- ( [ ) ] [ ]: area 2 lies across two sides of area 1, and area 3 across one
abbrev twice_map : List ℕ
twice_map = 0x03 ∷ 0x00 ∷ 0x02 ∷ 0x00 ∷ 0x03 ∷ 0x00 ∷ 0x05 ∷ 0x02 ∷ 0x0a ∷ []

-- numbers of two areas, of which the second is its own
abbrev enclosed : Float → List Float
enclosed x = nan ∷ nan ∷ nan ∷ x ∷ nan ∷ nan ∷ []

pub record Cases : Type 0 where
  -- 0.01 and 100.0 are within the bounds, their neighbours outside aren't
  pub least_in : within (float 0x3f84_7ae1_47ae_147b) ≡ true
  pub below_out : within (float 0x3f84_7ae1_47ae_147a) ≡ false
  pub most_in : within (float 0x4059_0000_0000_0000) ≡ true
  pub above_out : within (float 0x4059_0000_0000_0001) ≡ false
  pub nan_out : within nan ≡ false
  pub negative_out : within (float 0xbff0_0000_0000_0000) ≡ false
  pub raised : held quarter half two ≡ half
  pub lowered : held three half two ≡ two
  pub inside : held one half two ≡ one
  pub limits_crossed : allowed (Factor.Held one two half) ≡ false
  pub limits_meet : allowed (Factor.Held one two two) ≡ true
  -- 0.1 + 0.2 + 0.3 from left to right, and the other way round
  pub in_order : sum_across (0 ∷ 0 ∷ 0 ∷ []) tenths (1 ∷ 2 ∷ 3 ∷ []) ≡ record { sum = float 0x3fe3_3333_3333_3334; count = 3 }
  pub in_reverse : sum_across (0 ∷ 0 ∷ 0 ∷ []) tenths (3 ∷ 2 ∷ 1 ∷ []) ≡ record { sum = float 0x3fe3_3333_3333_3333; count = 3 }
  pub not_counted : sum_across (0 ∷ 2 ∷ 0 ∷ []) tenths (1 ∷ 2 ∷ 3 ∷ []) ≡ record { sum = float 0x3fd9_9999_9999_999a; count = 2 }
  pub as_held : sum_across (1 ∷ []) (three ∷ half ∷ two ∷ []) (1 ∷ []) ≡ record { sum = two; count = 1 }
  pub halved : mean (record { sum = three; count = 2 }) ≡ float 0x3ff8_0000_0000_0000
  pub own_answered : factor_of enclave_map 2 (2 ∷ 0 ∷ []) (enclosed three) ≡ answer three
  pub mean_answered : factor_of enclave_map 1 (2 ∷ 0 ∷ []) (enclosed three) ≡ answer three
  pub no_area : factor_of enclave_map 3 (9 ∷ []) [] ≡ refused 15
  pub area_zero : factor_of enclave_map 0 (2 ∷ 0 ∷ []) (enclosed three) ≡ refused 15
  pub short_kinds : factor_of enclave_map 2 (0 ∷ []) (enclosed three) ≡ refused 18
  pub short_values : factor_of enclave_map 2 (2 ∷ 0 ∷ []) (nan ∷ nan ∷ nan ∷ three ∷ nan ∷ []) ≡ refused 18
  pub kind_three : factor_of enclave_map 2 (3 ∷ 0 ∷ []) (enclosed three) ≡ refused 18
  pub other_area : factor_of enclave_map 1 (2 ∷ 0 ∷ []) (enclosed nan) ≡ refused 18
  pub eighteen_first : factor_of enclave_map 1 (2 ∷ 3 ∷ []) (enclosed three) ≡ refused 18
  pub none_known : factor_of enclave_map 1 (2 ∷ 2 ∷ []) (enclosed three) ≡ refused 19
  pub only_itself : factor_of stub_map 1 (2 ∷ []) (one ∷ nan ∷ nan ∷ []) ≡ refused 19
  -- 0.6000000000000001 / 3: in the reverse order it would end in 99
  pub walk_order : factor_of three_map 1 (2 ∷ 0 ∷ 0 ∷ 0 ∷ []) (nan ∷ nan ∷ nan ∷ tenths) ≡ answer (float 0x3fc9_9999_9999_999b)
  -- (1 + 1 + 4) / 3
  pub each_side : factor_of twice_map 1 (2 ∷ 0 ∷ 0 ∷ []) (nan ∷ nan ∷ nan ∷ one ∷ nan ∷ nan ∷ four ∷ nan ∷ nan ∷ []) ≡ answer two
  pub book_mean : book_factor enclave 1 (2 ∷ 0 ∷ []) (enclosed three) ≡ answer three
  pub book_no_area : book_factor enclave 3 (9 ∷ []) [] ≡ refused 15

pub cases : Cases
unfolding within held allowed sum_across mean factor_of book_factor of_bits
cases =
    record {
      least_in = refl;
      below_out = refl;
      most_in = refl;
      above_out = refl;
      nan_out = refl;
      negative_out = refl;
      raised = refl;
      lowered = refl;
      inside = refl;
      limits_crossed = refl;
      limits_meet = refl;
      in_order = refl;
      in_reverse = refl;
      not_counted = refl;
      as_held = refl;
      halved = refl;
      own_answered = refl;
      mean_answered = refl;
      no_area = refl;
      area_zero = refl;
      short_kinds = refl;
      short_values = refl;
      kind_three = refl;
      other_area = refl;
      eighteen_first = refl;
      none_known = refl;
      only_itself = refl;
      walk_order = refl;
      each_side = refl;
      book_mean = refl;
      book_no_area = refl;
    }
