-- Calls on the bytes that packing wrote, as calls on the drawing's word.
--
-- opens_opened     == a call on bytes that open gives its own answer
-- packed_call      == every call at every number on the packed bytes is the book's
-- packed_first, packed_size_of, packed_neighbours, packed_joining == so are first places, sizes, neighbour counts and joining borders
-- packed_factor    == so is an area's factor, for every pair of lists
-- Assumes nothing.
use mathlib.Core.Path.{◌≡◌, sym, ap, ap₂, ◌∙◌}
use mathlib.Core.Bool.{Bool, ◌&&◌}
use mathlib.Core.List.{List}
use Prim.Native.Nat.{ℕ}
use lib.Dec.{ltb, leb}
use lib.Ieee.{Float}
use Rattle.count.specs.Below.{pick}
use Rattle.count.proofs.Logic.{pick_both}
use Rattle.answers.specs.Answer.{Answer, answer, refused, Kind, no_such}
use Rattle.answers.specs.declared.given.Size.{Size}
use Rattle.words.specs.Brackets.{Balanced, first}
use Rattle.words.specs.declared.family.Family.{Family}
use Rattle.words.specs.declared.family.Family.TheVariants.{Round as round}
use Rattle.words.specs.Word.{seen}
use Rattle.drawing.specs.Drawing.{Drawing, cells}
use Rattle.drawing.specs.Checks.{PassesSeven}
use Rattle.drawing.specs.Session.{Call}
use Rattle.drawing.specs.Book.{book_answer, book_first, book_size, book_neighbours, book_joining}
use Rattle.format.specs.Bytes.{size_in, word_in}
use Rattle.format.specs.Open.{open_refusal}
use Rattle.format.proofs.Passes.{opened_opens, opened}
use Rattle.format.specs.Calls.{map_answer, cells_in, is_number, first_of, places_in, size_of, neighbours_in, neighbours_of, join_in, joining_of}
use Rattle.format.specs.Pack.{word_of, packed_bytes}
use Rattle.format.proofs.Places.{at_place}
use Rattle.tariff.specs.Tariff.{rated}
use Rattle.tariff.specs.Book.{book_factor}
use Rattle.tariff.specs.Maps.{factor_in, factor_of}
use Rattle.agreement.specs.Toured.{Toured}
use Rattle.agreement.proofs.Passed.{passes_toured, packed_opens, packed_size}
use Rattle.agreement.proofs.Counts.{cells_in_lem, cells_agree}
use Rattle.agreement.proofs.Nesting.{word_balanced}
use Rattle.agreement.proofs.Book.{is_numbered, numbers_agree, book_call, book_first_lem, book_size_lem, book_neighbours_lem, book_landings_lem, book_joining_lem}
use Rattle.demands.proofs.Alike.{alike_call, alike_first, alike_places, alike_neighbours, alike_landings, alike_joining}
use Rattle.demands.proofs.Faithful.{packed_alike}

pub opens_opened : {A : Type 0} (s : List ℕ) (a : Answer A) → open_refusal s ≡ 0 → opened s a ≡ a
opens_opened s a e = opened_opens s a e

nested_word : (D : Drawing) → PassesSeven D → (K : Family) → Balanced (seen K (word_of D)) (word_of D).size
unfolding word_of
nested_word D seven K = word_balanced (passes_toured D seven) K

joining_word : (D : Drawing) → PassesSeven D → (u v : ℕ)
    → book_joining D u v
    ≡ pick (is_numbered D Kind.point u && is_numbered D Kind.point v)
    (answer (join_in (word_of D) v (places_in (word_of D) Kind.point u) (first (seen round (word_of D)) (word_of D).size u)))
    (refused 14)
unfolding word_of
joining_word D seven u v = book_joining_lem (passes_toured D seven) u v

module _ (D : Drawing) (seven : PassesSeven D) where
  toured : Toured D
  toured = passes_toured D seven

  pub packed_call : (c : Call) (i : ℕ) → map_answer (packed_bytes D) c i ≡ book_answer D c i
  unfolding map_answer opened at_place
  packed_call c i =
      opens_opened (packed_bytes D) (at_place (word_in (packed_bytes D)) c i) (packed_opens D seven)
      ∙ alike_call (word_in (packed_bytes D)) (word_of D) (packed_alike D seven) c i
      ∙ sym (book_call toured c i)

  -- the header gives the number of points, of areas
  packed_cells : (c : Kind) → cells_in (size_in (packed_bytes D)) c ≡ cells D c
  packed_cells c = ap (λ (z : Size). cells_in z c) (packed_size D seven) ∙ sym (cells_in_lem toured c)

  -- the map's test of a number is the word's
  number_test : (c : Kind) (k : ℕ) → is_number (size_in (packed_bytes D)) c k ≡ is_numbered D c k
  number_test c k =
      ap (λ (v : ℕ). ltb 0 k && leb k v) (packed_cells c ∙ cells_agree toured c)

  pub packed_first : (c : Kind) (k : ℕ) → first_of (packed_bytes D) c k ≡ book_first D c k
  unfolding first_of opened
  packed_first c k =
      opens_opened (packed_bytes D) _ (packed_opens D seven)
      ∙ ap₂ (λ (t : Bool) (x : ℕ). pick t (answer x) (refused (no_such c))) (number_test c k)
      (alike_first (word_in (packed_bytes D)) (word_of D) (packed_alike D seven) c k)
      ∙ sym (book_first_lem toured c k)

  pub packed_size_of : (c : Kind) (k : ℕ) → size_of (packed_bytes D) c k ≡ book_size D c k
  unfolding size_of opened
  packed_size_of c k =
      opens_opened (packed_bytes D) _ (packed_opens D seven)
      ∙ ap₂ (λ (t : Bool) (x : ℕ). pick t (answer x) (refused (no_such c))) (number_test c k)
      (alike_places (word_in (packed_bytes D)) (word_of D) (packed_alike D seven) c k)
      ∙ sym (book_size_lem toured c k)

  pub packed_neighbours : (k : ℕ) → neighbours_of (packed_bytes D) k ≡ book_neighbours D k
  unfolding neighbours_of opened
  packed_neighbours k =
      opens_opened (packed_bytes D) _ (packed_opens D seven)
      ∙ ap₂ (λ (t : Bool) (x : ℕ). pick t (answer x) (refused 15)) (number_test Kind.area k)
      (alike_neighbours (word_in (packed_bytes D)) (word_of D) (packed_alike D seven) (nested_word D seven) (cells_in (size_in (packed_bytes D)) Kind.area) k
      ∙ ap (λ v. neighbours_in (word_of D) v k) (packed_cells Kind.area))
      ∙ sym (book_neighbours_lem toured k)

  pub packed_factor : (k : ℕ) (kinds : List ℕ) (values : List Float) → factor_of (packed_bytes D) k kinds values ≡ book_factor D k kinds values
  unfolding factor_of factor_in opened rated book_factor
  packed_factor k kinds values =
      opens_opened (packed_bytes D) _ (packed_opens D seven)
      ∙ ap₂ (λ (t : Bool) (a : Answer Float). pick t a (refused 15)) (number_test Kind.area k ∙ sym (numbers_agree toured Kind.area k))
      (ap₂ (λ (v : ℕ) (js : List ℕ). rated v kinds values k js) (packed_cells Kind.area)
      (alike_landings (word_in (packed_bytes D)) (word_of D) (packed_alike D seven) (nested_word D seven) k ∙ sym (book_landings_lem toured k)))

  pub packed_joining : (u v : ℕ) → joining_of (packed_bytes D) u v ≡ book_joining D u v
  unfolding joining_of opened
  packed_joining u v =
      opens_opened (packed_bytes D) _ (packed_opens D seven)
      ∙ pick_both (is_number (size_in (packed_bytes D)) Kind.point u) (is_number (size_in (packed_bytes D)) Kind.point v) _ (refused 14)
      ∙ ap₂ (λ (t : Bool) (x : ℕ). pick t (answer x) (refused 14))
      (ap₂ (λ (s t : Bool). s && t) (number_test Kind.point u) (number_test Kind.point v))
      (alike_joining (word_in (packed_bytes D)) (word_of D) (packed_alike D seven) (nested_word D seven) v u)
      ∙ sym (joining_word D seven u v)
