-- The examples of document 01's table, 1 to 17, of 20 and 21, of the two forms of cards, and what unpacking gives, by computation.
-- Assumes nothing.
use mathlib.Core.Path.{◌≡◌, refl}
use mathlib.Core.List.{[], ◌∷◌}
use Rattle.answers.specs.Answer.{answer, refused_with, refused, Kind}
use Rattle.format.specs.Bytes.{longest}
use Rattle.format.specs.Before.{refusal_before}
use Rattle.format.specs.Calls.{cross_of, first_of, size_of, joining_of}
use Rattle.format.specs.Open.{open_of}
use Rattle.format.specs.Pack.{pack_of, unpack_of}
use Rattle.format.specs.Suggest.{marks_refusal}
use Rattle.text.specs.Decimal.{codes}
use Rattle.text.specs.Input.{read_text}
use Rattle.text.specs.Listing.{places_of}
use Rattle.worked.specs.Cases.{drawing, pack, empty, empty_map, stub, stub_map, enclave, enclave_map, triangle, triangle_map, figure1, figure1_map}

-- the rows of packing: 1 to 7
pub record PackRows : Type 0 where
  pub row_1 : pack (drawing (0 ∷ 1 ∷ 2 ∷ []) (1 ∷ [])) ≡ refused 1
  pub row_2_output : pack_of enclave 6 1030 ≡ refused 2
  pub row_2_enough : pack_of enclave 6 1031 ≡ answer enclave_map
  pub row_2_work : pack_of enclave 5 longest ≡ refused 2
  pub row_3 : pack (drawing (0 ∷ 2 ∷ []) (1 ∷ [])) ≡ refused 3
  pub row_4 : pack (drawing (0 ∷ 0 ∷ []) (1 ∷ [])) ≡ refused 4
  pub row_5 : pack (drawing (0 ∷ 1 ∷ []) (0 ∷ [])) ≡ refused 5
  pub row_6 : pack (drawing (1 ∷ 0 ∷ []) (1 ∷ [])) ≡ refused 6
  pub row_7 : pack (drawing (2 ∷ 3 ∷ 1 ∷ 0 ∷ []) (0 ∷ 0 ∷ [])) ≡ refused_with 7 (0 ∷ 1 ∷ [])
  -- 01: "two interlaced marked loops on one point also tour all ends"
  pub loops_6 : pack (drawing (2 ∷ 3 ∷ 1 ∷ 0 ∷ []) (1 ∷ 1 ∷ [])) ≡ refused 6

pub pack_rows : PackRows
unfolding pack pack_of
pack_rows =
    record {
      row_1 = refl;
      row_2_output = refl;
      row_2_enough = refl;
      row_2_work = refl;
      row_3 = refl;
      row_4 = refl;
      row_5 = refl;
      row_6 = refl;
      row_7 = refl;
      loops_6 = refl;
    }

-- the rows of finding marks: 1 to 4, and 21; neither marks nor start are looked at
pub record MarksRows : Type 0 where
  pub row_1 : marks_refusal (drawing (0 ∷ 1 ∷ 2 ∷ []) (1 ∷ [])) 6 ≡ 1
  pub row_2 : marks_refusal enclave 5 ≡ 2
  pub row_3 : marks_refusal (drawing (0 ∷ 2 ∷ []) (9 ∷ [])) 6 ≡ 3
  pub row_4 : marks_refusal (drawing (0 ∷ 0 ∷ []) (9 ∷ [])) 6 ≡ 4
  -- two loops, each on a point of its own
  pub row_21 : marks_refusal (drawing (1 ∷ 0 ∷ 3 ∷ 2 ∷ []) (9 ∷ 9 ∷ [])) 12 ≡ 21
  pub enough : marks_refusal (drawing (1 ∷ 0 ∷ []) (9 ∷ [])) 6 ≡ 0

pub marks_rows : MarksRows
unfolding marks_refusal
marks_rows = record { row_1 = refl; row_2 = refl; row_3 = refl; row_4 = refl; row_21 = refl; enough = refl }

-- the rows of calls on map bytes: 8 to 16, and 20
pub record MapRows : Type 0 where
  -- without the field, and with it: n is 0, so there is no right count
  pub row_8 : open_of (0x00 ∷ 0x00 ∷ 0x00 ∷ 0x00 ∷ []) ≡ refused 8
  pub row_8_counted : open_of (0x00 ∷ 0x00 ∷ 0x00 ∷ 0x00 ∷ 0x02 ∷ 0x00 ∷ []) ≡ refused 8
  pub row_8_short : open_of (0x00 ∷ 0x00 ∷ 0x01 ∷ 0x00 ∷ 0x01 ∷ []) ≡ refused 8
  -- the count is looked at before the length
  pub row_20 : open_of (0x01 ∷ 0x00 ∷ 0x02 ∷ 0x00 ∷ 0x00 ∷ 0x00 ∷ 0x03 ∷ 0x02 ∷ []) ≡ refused 20
  pub row_20_cut : open_of (0x01 ∷ 0x00 ∷ 0x02 ∷ 0x00 ∷ 0x00 ∷ 0x00 ∷ 0x03 ∷ []) ≡ refused 20
  pub row_20_exchanged : open_of (0x01 ∷ 0x00 ∷ 0x02 ∷ 0x00 ∷ 0x00 ∷ 0x01 ∷ 0x03 ∷ 0x02 ∷ []) ≡ refused 20
  pub row_9 : open_of (0x00 ∷ 0x00 ∷ 0x01 ∷ 0x00 ∷ 0x01 ∷ 0x00 ∷ 0x05 ∷ []) ≡ refused 9
  pub row_10 : open_of (0x01 ∷ 0x00 ∷ 0x02 ∷ 0x00 ∷ 0x01 ∷ 0x00 ∷ 0x07 ∷ 0x02 ∷ []) ≡ refused 10
  pub row_11 : open_of (0x01 ∷ 0x00 ∷ 0x02 ∷ 0x00 ∷ 0x01 ∷ 0x00 ∷ 0x01 ∷ 0x02 ∷ []) ≡ refused 11
  pub row_12 : open_of (0x01 ∷ 0x00 ∷ 0x02 ∷ 0x00 ∷ 0x01 ∷ 0x00 ∷ 0x03 ∷ 0x01 ∷ []) ≡ refused 12
  pub row_13 : cross_of stub_map 0 ≡ refused 13
  pub row_13_high : cross_of stub_map 65537 ≡ refused 13
  pub row_14 : first_of stub_map Kind.point 0 ≡ refused 14
  pub row_14_joining : joining_of stub_map 1 3 ≡ refused 14
  pub row_15 : size_of stub_map Kind.area 0 ≡ refused 15
  pub row_16 : unpack_of stub_map 1 1 ≡ refused 16

pub map_rows : MapRows
unfolding open_of cross_of first_of joining_of size_of unpack_of
map_rows =
    record {
      row_8 = refl;
      row_8_counted = refl;
      row_8_short = refl;
      row_20 = refl;
      row_20_cut = refl;
      row_20_exchanged = refl;
      row_9 = refl;
      row_10 = refl;
      row_11 = refl;
      row_12 = refl;
      row_13 = refl;
      row_13_high = refl;
      row_14 = refl;
      row_14_joining = refl;
      row_15 = refl;
      row_16 = refl;
    }

-- a box already sold: document 01's examples of 8 to 12 and its maps, in the bytes of document 01
pub record SoldBox : Type 0 where
  pub row_8 : refusal_before (0x00 ∷ 0x00 ∷ 0x00 ∷ 0x00 ∷ []) ≡ 8
  pub row_8_short : refusal_before (0x00 ∷ 0x00 ∷ 0x01 ∷ []) ≡ 8
  pub row_9 : refusal_before (0x00 ∷ 0x00 ∷ 0x01 ∷ 0x00 ∷ 0x05 ∷ []) ≡ 9
  pub row_10 : refusal_before (0x01 ∷ 0x00 ∷ 0x02 ∷ 0x00 ∷ 0x07 ∷ 0x02 ∷ []) ≡ 10
  pub row_11 : refusal_before (0x01 ∷ 0x00 ∷ 0x02 ∷ 0x00 ∷ 0x01 ∷ 0x02 ∷ []) ≡ 11
  pub row_12 : refusal_before (0x01 ∷ 0x00 ∷ 0x02 ∷ 0x00 ∷ 0x03 ∷ 0x01 ∷ []) ≡ 12
  pub a_opens : refusal_before (0x00 ∷ 0x00 ∷ 0x01 ∷ 0x00 ∷ []) ≡ 0
  pub b_opens : refusal_before (0x01 ∷ 0x00 ∷ 0x02 ∷ 0x00 ∷ 0x03 ∷ 0x02 ∷ []) ≡ 0
  pub c_opens : refusal_before (0x01 ∷ 0x00 ∷ 0x01 ∷ 0x00 ∷ 0x00 ∷ 0x02 ∷ []) ≡ 0
  pub d_opens : refusal_before (0x03 ∷ 0x00 ∷ 0x03 ∷ 0x00 ∷ 0x1B ∷ 0x0C ∷ 0x02 ∷ []) ≡ 0
  pub figure_opens : refusal_before (0x0E ∷ 0x00 ∷ 0x08 ∷ 0x00 ∷ 0xB6 ∷ 0x4E ∷ 0x8B ∷ 0x02 ∷ 0x34 ∷ 0x33 ∷ 0x92 ∷ 0x2B ∷ []) ≡ 0

pub sold_box : SoldBox
unfolding refusal_before
sold_box =
    record {
      row_8 = refl;
      row_8_short = refl;
      row_9 = refl;
      row_10 = refl;
      row_11 = refl;
      row_12 = refl;
      a_opens = refl;
      b_opens = refl;
      c_opens = refl;
      d_opens = refl;
      figure_opens = refl;
    }

-- cards of before 02, 6/14, in a program of today, and cards of today in a box already sold
pub record BothForms : Type 0 where
  pub now_triangle : open_of (0x03 ∷ 0x00 ∷ 0x03 ∷ 0x00 ∷ 0x1B ∷ 0x0C ∷ 0x02 ∷ []) ≡ refused 20
  pub now_empty : open_of (0x00 ∷ 0x00 ∷ 0x01 ∷ 0x00 ∷ []) ≡ refused 8
  -- A begins with 05 00, and there are five areas
  pub then_five : refusal_before (0x05 ∷ 0x00 ∷ 0x02 ∷ 0x00 ∷ 0x05 ∷ 0x00 ∷ 0x02 ∷ 0xAA ∷ []) ≡ 0
  pub now_five : open_of (0x05 ∷ 0x00 ∷ 0x02 ∷ 0x00 ∷ 0x05 ∷ 0x00 ∷ 0x02 ∷ 0xAA ∷ []) ≡ refused 9
  pub sold_triangle : refusal_before triangle_map ≡ 9
  pub sold_empty : refusal_before empty_map ≡ 9

pub both_forms : BothForms
unfolding refusal_before open_of
both_forms =
    record {
      now_triangle = refl;
      now_empty = refl;
      then_five = refl;
      now_five = refl;
      sold_triangle = refl;
      sold_empty = refl;
    }

-- 17, and the line that `places` prints for a refusal
pub record TextRows : Type 0 where
  pub row_17 : read_text (codes "\n0 0 1 1\n") ≡ refused 17
  pub no_line_feed : read_text (codes "border first second mark\n0 0 1 1") ≡ refused 17
  pub leading_zero : read_text (codes "border first second mark\n0 00 1 1\n") ≡ refused 17
  pub wrong_number : read_text (codes "border first second mark\n1 0 1 1\n") ≡ refused 17
  pub too_large : read_text (codes "border first second mark\n0 65536 1 1\n") ≡ refused 17
  pub names_alone : read_text (codes "border first second mark\n") ≡ answer empty
  pub one_border : read_text (codes "border first second mark\n0 0 1 1\n") ≡ answer stub
  pub prints_17 : places_of [] ≡ codes "refused 17\n"
  pub prints_5 : places_of (codes "border first second mark\n0 0 1 0\n") ≡ codes "refused 5\n"
  pub prints_empty : places_of (codes "border first second mark\n") ≡ codes "place kind mate node area\n"

pub text_rows : TextRows
unfolding read_text places_of codes
text_rows =
    record {
      row_17 = refl;
      no_line_feed = refl;
      leading_zero = refl;
      wrong_number = refl;
      too_large = refl;
      names_alone = refl;
      one_border = refl;
      prints_17 = refl;
      prints_5 = refl;
      prints_empty = refl;
    }

-- unpacking what packing wrote, of drawings that are numbered as unpacking numbers them
pub record Unpacks : Type 0 where
  pub unpacks_stub : unpack_of stub_map 2 1 ≡ answer stub
  pub unpacks_enclave : unpack_of enclave_map 2 1 ≡ answer enclave
  pub unpacks_figure : unpack_of figure1_map 28 14 ≡ answer figure1
  pub unpacks_triangle : unpack_of triangle_map 6 3 ≡ answer triangle

pub unpacks : Unpacks
unfolding unpack_of
unpacks = record { unpacks_stub = refl; unpacks_enclave = refl; unpacks_figure = refl; unpacks_triangle = refl }
