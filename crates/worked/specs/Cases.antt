-- The drawings, maps and texts that document 01 works through, as it gives them.
--
-- drawing ts ks   == the drawing with that turning list and those marks, start 0
-- pack D          == packing D with the memory that it asks for
-- empty, stub, enclave, triangle, figure1 == the drawings of (a), (b), (c), (d) and (e) to (l); empty_map and so on are their maps
-- triangle_text, triangle_listing == the input and the output of `places` for the triangle
-- Assumes nothing.
use Rattle.std.specs.Prelude.{List, [], ◌∷◌, ℕ, ◌*◌}
use Rattle.answers.specs.Answer.{Answer}
use Rattle.drawing.specs.Drawing.{Drawing, borders}
use Rattle.format.specs.Bytes.{longest}
use Rattle.format.specs.Pack.{pack_of}
use Rattle.text.specs.Decimal.{codes}

abbrev pub drawing : List ℕ → List ℕ → Drawing
drawing turning marks = record { turning = turning; marks = marks; start = 0 }

-- packing with a working list of 6m entries and an output of the longest map's length
unfoldable pub pack : Drawing → Answer (List ℕ)
unfolding pack_of borders
pack D = pack_of D (6 * borders D) longest

-- (a) the empty map
abbrev pub empty : Drawing
empty = drawing [] []

abbrev pub empty_map : List ℕ
empty_map = 0x00 ∷ 0x00 ∷ 0x01 ∷ 0x00 ∷ 0x01 ∷ 0x00 ∷ []

-- (b) turning 0 1, mark 1: a single border
abbrev pub stub : Drawing
stub = drawing (0 ∷ 1 ∷ []) (1 ∷ [])

abbrev pub stub_map : List ℕ
stub_map = 0x01 ∷ 0x00 ∷ 0x02 ∷ 0x00 ∷ 0x01 ∷ 0x00 ∷ 0x03 ∷ 0x02 ∷ []

-- (c) turning 1 0, mark 0: an enclave on one point
abbrev pub enclave : Drawing
enclave = drawing (1 ∷ 0 ∷ []) (0 ∷ [])

abbrev pub enclave_map : List ℕ
enclave_map = 0x01 ∷ 0x00 ∷ 0x01 ∷ 0x00 ∷ 0x02 ∷ 0x00 ∷ 0x00 ∷ 0x02 ∷ []

-- (d) the triangle
abbrev pub triangle : Drawing
triangle = drawing (5 ∷ 2 ∷ 1 ∷ 4 ∷ 3 ∷ 0 ∷ []) (1 ∷ 1 ∷ 0 ∷ [])

abbrev pub triangle_map : List ℕ
triangle_map = 0x03 ∷ 0x00 ∷ 0x03 ∷ 0x00 ∷ 0x02 ∷ 0x00 ∷ 0x1B ∷ 0x0C ∷ 0x02 ∷ []

unfoldable pub triangle_text : List ℕ
unfolding codes
triangle_text = codes "border first second mark\n0 5 2 1\n1 1 4 1\n2 3 0 0\n"

unfoldable pub triangle_listing : List ℕ
unfolding codes
triangle_listing =
    codes "place kind mate node area\n1 ( 5 1 1\n2 ( 4 2 1\n3 [ 6 3 1\n4 ) 2 3 2\n5 ) 1 2 2\n6 ] 3 1 2\n"

-- (e) to (l) document 002's Figure 1, its edges numbered in the order in which the figure's list first names them; end 2e is
-- where edge e is named first
abbrev pub figure1 : Drawing
figure1 =
    drawing
    (2 ∷ 5 ∷ 12 ∷ 4 ∷ 6 ∷ 1 ∷ 10 ∷ 8 ∷ 7 ∷ 24 ∷ 3 ∷ 16 ∷ 20 ∷ 14 ∷ 18 ∷ 11 ∷ 15 ∷ 9 ∷ 13 ∷ 22 ∷ 26 ∷ 19 ∷ 25 ∷ 17 ∷ 23 ∷ 21 ∷ 27 ∷ 0 ∷ [])
    (0 ∷ 1 ∷ 1 ∷ 1 ∷ 0 ∷ 0 ∷ 1 ∷ 1 ∷ 0 ∷ 0 ∷ 1 ∷ 1 ∷ 0 ∷ 0 ∷ [])

abbrev pub figure1_map : List ℕ
figure1_map = 0x0E ∷ 0x00 ∷ 0x08 ∷ 0x00 ∷ 0x08 ∷ 0x00 ∷ 0xB6 ∷ 0x4E ∷ 0x8B ∷ 0x02 ∷ 0x34 ∷ 0x33 ∷ 0x92 ∷ 0x2B ∷ []
