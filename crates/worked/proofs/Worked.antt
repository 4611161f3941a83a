-- Document 01's worked examples (a) to (l), the turns as document 02, 8/14, has them: one theorem that goes through the definitions
-- by computation. Assumes nothing.
use mathlib.Core.Path.{◌≡◌, refl}
use mathlib.Core.Bool.{true}
use Rattle.answers.specs.Answer.{answer, refused, unsigned, Kind}
use Rattle.drawing.specs.Drawing.{cells}
use Rattle.format.specs.Calls.{cross_of, turn_of, point_of, area_of, size_of}
use Rattle.format.specs.Open.{open_of}
use Rattle.text.specs.Input.{read_text}
use Rattle.text.specs.Listing.{places_of}
use Rattle.worked.specs.Cases.{pack, empty, empty_map, stub, stub_map, enclave, enclave_map, triangle, triangle_map, triangle_text, triangle_listing, figure1, figure1_map}

pub record WorkedExamples : Type 0 where
  pub a_packs : pack empty ≡ answer empty_map
  pub a_areas : cells empty Kind.area ≡ 1
  pub a_opens : open_of empty_map ≡ answer (record { m = 0; n = 1 })
  pub a_area_1 : size_of empty_map Kind.area 1 ≡ answer 0
  pub a_area_2 : size_of empty_map Kind.area 2 ≡ refused 15
  pub b_packs : pack stub ≡ answer stub_map
  pub b_areas : cells stub Kind.area ≡ 1
  pub b_area_1 : size_of stub_map Kind.area 1 ≡ answer 2
  pub b_area_2 : size_of stub_map Kind.area 2 ≡ refused 15
  -- 02, 8/14: "the turns in cases (b) and (h) both answer 1 with the sign"
  pub b_turn : turn_of stub_map 1 ≡ answer (record { value = 1; sign = true })
  pub c_packs : pack enclave ≡ answer enclave_map
  pub c_areas : cells enclave Kind.area ≡ 2
  pub c_area_1 : area_of enclave_map 1 ≡ answer 1
  pub c_area_2 : area_of enclave_map 2 ≡ answer 2
  pub d_reads : read_text triangle_text ≡ answer triangle
  pub d_packs : pack triangle ≡ answer triangle_map
  pub d_listing : places_of triangle_text ≡ triangle_listing
  pub figure_packs : pack figure1 ≡ answer figure1_map
  pub e_cross_12 : cross_of figure1_map 12 ≡ answer 15
  pub f_cross_1 : cross_of figure1_map 1 ≡ answer 4
  pub g_turn_12 : turn_of figure1_map 12 ≡ answer (unsigned 16)
  pub h_turn_28 : turn_of figure1_map 28 ≡ answer (record { value = 1; sign = true })
  pub i_point_16 : point_of figure1_map 16 ≡ answer 5
  pub j_point_1 : point_of figure1_map 1 ≡ answer 1
  pub k_area_23 : area_of figure1_map 23 ≡ answer 1
  pub l_area_10 : area_of figure1_map 10 ≡ answer 4

pub worked_examples : WorkedExamples
unfolding pack open_of cells size_of turn_of area_of cross_of point_of read_text places_of triangle_text triangle_listing
worked_examples =
    record {
      a_packs = refl;
      a_areas = refl;
      a_opens = refl;
      a_area_1 = refl;
      a_area_2 = refl;
      b_packs = refl;
      b_areas = refl;
      b_area_1 = refl;
      b_area_2 = refl;
      b_turn = refl;
      c_packs = refl;
      c_areas = refl;
      c_area_1 = refl;
      c_area_2 = refl;
      d_reads = refl;
      d_packs = refl;
      d_listing = refl;
      figure_packs = refl;
      e_cross_12 = refl;
      f_cross_1 = refl;
      g_turn_12 = refl;
      h_turn_28 = refl;
      i_point_16 = refl;
      j_point_1 = refl;
      k_area_23 = refl;
      l_area_10 = refl;
    }
