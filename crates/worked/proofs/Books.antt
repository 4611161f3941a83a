-- The book against the packed map on small drawings, by computation: sessions, and answers about points and areas; 02, 3/14: the three
-- borders of the triangle count as one neighbour, and the stub's area is no neighbour of its own. Assumes nothing.
use mathlib.Core.Path.{◌≡◌, refl}
use mathlib.Core.List.{List, [], ◌∷◌}
use Rattle.answers.specs.Answer.{answer, refused, Kind}
use Rattle.drawing.specs.Session.{Call}
use Rattle.drawing.specs.Book.{book_session, book_first, book_size, book_neighbours, book_joining}
use Rattle.format.specs.Calls.{map_session, first_of, size_of, neighbours_of, joining_of}
use Rattle.worked.specs.Cases.{empty, stub, enclave, enclave_map, triangle, triangle_map}

-- round the outside of the triangle and past the last place of a point; on the enclave past it in both senses
abbrev calls : List Call
calls =
    Call.area ∷ Call.point ∷ Call.along ∷ Call.area ∷ Call.cross ∷ Call.turn_back ∷ Call.along ∷ Call.point ∷ Call.turn ∷ Call.turn ∷ Call.area ∷ []

pub record SmallBooks : Type 0 where
  pub triangle_session : book_session triangle 1 calls ≡ map_session triangle_map 1 calls
  pub triangle_outside : book_session triangle 7 calls ≡ map_session triangle_map 7 calls
  pub enclave_session : book_session enclave 2 calls ≡ map_session enclave_map 2 calls
  pub triangle_first : book_first triangle Kind.area 2 ≡ first_of triangle_map Kind.area 2
  pub triangle_degree : book_size triangle Kind.point 3 ≡ size_of triangle_map Kind.point 3
  pub triangle_neighbours : book_neighbours triangle 2 ≡ neighbours_of triangle_map 2
  pub triangle_counted_once : book_neighbours triangle 2 ≡ answer 1
  pub stub_itself : book_neighbours stub 1 ≡ answer 0
  pub enclave_neighbour : book_neighbours enclave 2 ≡ answer 1
  pub empty_none : book_neighbours empty 1 ≡ answer 0
  pub triangle_joining : book_joining triangle 1 3 ≡ joining_of triangle_map 1 3
  pub triangle_no_loop : book_joining triangle 2 2 ≡ answer 0
  pub enclave_loop : book_joining enclave 1 1 ≡ joining_of enclave_map 1 1
  pub no_area_3 : book_size triangle Kind.area 3 ≡ refused 15

pub small_books : SmallBooks
unfolding book_session map_session book_first first_of book_size size_of book_neighbours neighbours_of book_joining joining_of
small_books =
    record {
      triangle_session = refl;
      triangle_outside = refl;
      enclave_session = refl;
      triangle_first = refl;
      triangle_degree = refl;
      triangle_neighbours = refl;
      triangle_counted_once = refl;
      stub_itself = refl;
      enclave_neighbour = refl;
      empty_none = refl;
      triangle_joining = refl;
      triangle_no_loop = refl;
      enclave_loop = refl;
      no_area_3 = refl;
    }
