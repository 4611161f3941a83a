-- The book's answers are the word's: every call at every number, every session, and every number of a point or an area.
--
-- is_numbered D c k == whether k is one of the numbers 1 to 1 + the openings of c's family in D's word
-- answer_agrees, sign_agrees == the number that a call answers at the end at position p, and its sign
-- book_call      == the answer of a call at any number, refusals included
-- session_same   == sessions are alike where all answers are
-- book_session_lem   == so is every session
-- lands_agree    == the point (area) across a place
-- join_agrees    == the search for a joining border
-- numbers_agree  == the book has these numbers and no others
-- book_first_lem, book_size_lem, book_neighbours_lem, book_joining_lem == the book on point and area numbers, refusals included
-- book_landings_lem  == the areas across the sides of an area, in walk order
-- Assumes nothing.
use mathlib.Core.Path.{◌≡◌, refl, sym, ap, ap₂, ◌∙◌}
use mathlib.Core.Logic.{inl, inr}
use mathlib.Core.Bool.{Bool, true, false, ◌&&◌}
use mathlib.Core.List.{List, [], ◌∷◌}
use Prim.Native.Nat.{ℕ, zero, suc, pred, ◌+◌, ◌<◌, ◌≤◌}
use native.Mathlib.Omega.{arith}
use lib.Dec.{eqb, ltb, leb}
use borrow.Author.Tests.{eqb-true, eq-eqb, ltb-true, leb-true}
use Rattle.count.specs.Below.{pick}
use Rattle.count.proofs.Logic.{true_or_false, both_left, both_right, bool_same}
use Rattle.answers.specs.Answer.{Answer, answer, refused, Reply, Kind, no_such}
use Rattle.words.specs.Brackets.{Bracket, step, number, first}
use Rattle.words.specs.declared.family.Family.TheVariants.{Round as round, Square as square}
use Rattle.words.specs.Word.{seen, mate_in}
use Rattle.words.proofs.Step.{step_below}
use Rattle.words.proofs.Numbers.{openings}
use Rattle.words.proofs.Sizes.{first_below}
use Rattle.drawing.specs.Drawing.{Drawing, borders, ends, other, turn, around, cells, end_at, position_of}
use Rattle.drawing.specs.Session.{Call, place_after, session}
use Rattle.drawing.specs.Book.{place_of, number_at, answer_at, sign_at, reply_at, book_answer, book_session, has_number, first_position, ends_on, join_from}
use Rattle.drawing.specs.Book.{book_first, book_size, book_neighbours, book_landings, book_joining}
use Rattle.drawing.specs.Neighbours.{landings}
use Rattle.drawing.proofs.Neighbours.{neighbours_same, landings_same}
use Rattle.format.specs.Pack.{word_of}
use Rattle.format.specs.Calls.{move_in, sign_in, reply_in, first_in, places_in, neighbours_in, landings_in, join_in}
use Rattle.format.proofs.Places.{at_place}
use Rattle.agreement.specs.Toured.{Toured}
use Rattle.agreement.proofs.Positions.{partner, end_other, partner_below}
use Rattle.agreement.proofs.Nesting.{word_balanced, cross_mate}
use Rattle.agreement.proofs.Steps.{cell_word, around_end, around_step, turn_around, turn_end, entry_back}
use Rattle.agreement.proofs.Cells.{number_agrees, lowest_agrees, turn_lowest, first_agrees, size_agrees}
use Rattle.agreement.proofs.Counts.{cells_agree}

abbrev pub is_numbered : Drawing → Kind → ℕ → Bool
is_numbered D c k = ltb 0 k && leb k (1 + openings (cell_word D c) (ends D))

pub session_same : (f g : Call → ℕ → Answer Reply) → ((c : Call) (i : ℕ) → f c i ≡ g c i) → (i : ℕ) (cs : List Call) → session f i cs ≡ session g i cs
unfolding session
session_same f g same i [] = refl
session_same f g same i (c ∷ cs) = rw (same c i, session_same f g same (place_after c (g c i) i) cs)

-- no borders, no ends
no_borders : (D : Drawing) → eqb (borders D) 0 ≡ eqb (ends D) 0
unfolding ends
no_borders D =
    bool_same (eqb (borders D) 0) (eqb (ends D) 0)
    (λ t. let z : borders D ≡ 0 = eqb-true (borders D) 0 t in eq-eqb (ends D) 0 (omega arith))
    (λ t. let z : ends D ≡ 0 = eqb-true (ends D) 0 t in eq-eqb (borders D) 0 (omega arith))

module _ {D : Drawing} (T : Toured D) where
  pub answer_agrees : (c : Call) (p : ℕ) → p < ends D → answer_at D c (end_at D p) ≡ move_in (word_of D) c p
  unfolding answer_at move_in word_of
  answer_agrees Call.cross p l = ap suc (cross_mate T p l)
  answer_agrees Call.turn p l = ap suc (ap (position_of D) (turn_around D (end_at D p)) ∙ around_step T Kind.point p l)
  answer_agrees Call.turn_back p l = ap suc (entry_back T p l)
  answer_agrees Call.along p l = ap suc (around_step T Kind.area p l)
  answer_agrees Call.point p l = number_agrees T Kind.point p l
  answer_agrees Call.area p l = number_agrees T Kind.area p l

  pub sign_agrees : (c : Call) (p : ℕ) → p < ends D → sign_at D c (end_at D p) ≡ sign_in (word_of D) c p
  unfolding sign_at sign_in word_of
  sign_agrees Call.cross p l = refl
  sign_agrees Call.turn p l = turn_lowest T p l
  sign_agrees Call.turn_back p l = lowest_agrees T Kind.point p l
  sign_agrees Call.along p l = refl
  sign_agrees Call.point p l = refl
  sign_agrees Call.area p l = refl

  reply_agrees : (c : Call) (p : ℕ) → p < ends D → reply_at D c (end_at D p) ≡ reply_in (word_of D) c p
  reply_agrees c p l = ap₂ (λ (x : ℕ) (t : Bool). record { value = x; sign = t }) (answer_agrees c p l) (sign_agrees c p l)

  pub book_call : (c : Call) (i : ℕ) → book_answer D c i ≡ at_place (word_of D) c i
  unfolding book_answer at_place word_of
  book_call c i =
      elim (true_or_false (ltb 0 i && leb i (ends D))) [
        | inl t ↦
            let low : 0 < i = ltb-true 0 i (both_left (ltb 0 i) (leb i (ends D)) t) in
            let high : i ≤ ends D = leb-true i (ends D) (both_right (ltb 0 i) (leb i (ends D)) t) in
            ap (λ (r : Reply). pick (ltb 0 i && leb i (ends D)) (answer r) (refused 13)) (reply_agrees c (pred i) (omega arith))
        | inr f ↦ rw f
      ]

  pub book_session_lem : (i : ℕ) (cs : List Call) → book_session D i cs ≡ session (at_place (word_of D)) i cs
  unfolding book_session
  book_session_lem i cs = session_same (book_answer D) (at_place (word_of D)) book_call i cs

  -- the point (area) across a place: the number at its other end
  lands_agree : (c : Kind) (p : ℕ) → p < ends D → number_at D c (other (end_at D p)) ≡ number (cell_word D c) (mate_in (word_of D) p)
  lands_agree c p l =
      ap (number_at D c) (sym (end_other T p l)) ∙ number_agrees T c (partner D p) (partner_below T p l)
      ∙ ap (number (cell_word D c)) (cross_mate T p l)

  -- from position p on; where no place is looked at, any p will do
  pub join_agrees : (v j p : ℕ) → (0 < j → p < ends D) → join_from D v j (end_at D p) ≡ join_in (word_of D) v j p
  unfolding join_from join_in word_of
  join_agrees v zero p some = refl
  join_agrees v (suc j) p some =
      let l : p < ends D = some (omega arith) in
      let b : ℕ → Bracket = seen round (word_of D) in
      let lands : number_at D Kind.point (other (end_at D p)) ≡ number b (mate_in (word_of D) p)
      = lands_agree Kind.point p l in
      let here : place_of D (end_at D p) ≡ suc p = ap suc (T.meets.position_end p l) in
      let rest : join_from D v j (turn D (end_at D p)) ≡ join_in (word_of D) v j (step b (ends D) p)
      = ap (join_from D v j) (turn_end T p l)
      ∙ join_agrees v j (step b (ends D) p) (λ s. step_below b (ends D) (word_balanced T round) p l) in
      λ i. elim (eqb (lands i) v) [ true ↦ here i | false ↦ rest i ]

  -- the word has a letter for each end
  first_end : (c : Kind) (k : ℕ) → 0 < places_in (word_of D) c k → first (cell_word D c) (ends D) k < ends D
  unfolding word_of places_in
  first_end c k some = first_below (cell_word D c) (ends D) k some

  -- from the first place of point u once round; where there is no such point nothing is looked at
  join_round : (u v : ℕ) → join_from D v (ends_on D Kind.point u) (end_at D (first_position D Kind.point u))
      ≡ join_in (word_of D) v (places_in (word_of D) Kind.point u) (first (seen round (word_of D)) (ends D) u)
  join_round u v =
      let b : ℕ → Bracket = seen round (word_of D) in
      rw (size_agrees T Kind.point u, first_agrees T Kind.point u)
      (join_agrees v (places_in (word_of D) Kind.point u) (first b (ends D) u) (first_end Kind.point u))

  pub numbers_agree : (c : Kind) (k : ℕ) → has_number D c k ≡ is_numbered D c k
  unfolding has_number
  numbers_agree c k = ap (λ (n : ℕ). ltb 0 k && leb k n) (cells_agree T c)

  pub book_first_lem : (c : Kind) (k : ℕ) → book_first D c k ≡ pick (is_numbered D c k) (answer (first_in (word_of D) c k)) (refused (no_such c))
  unfolding book_first first_in word_of
  book_first_lem c k =
      let place : pick (eqb (borders D) 0) 0 (suc (first_position D c k)) ≡ pick (eqb (ends D) 0) 0 (suc (first (cell_word D c) (ends D) k))
      = ap₂ (λ (t : Bool) (x : ℕ). pick t 0 (suc x)) (no_borders D) (first_agrees T c k) in
      ap₂ (λ (t : Bool) (x : ℕ). pick t (answer x) (refused (no_such c))) (numbers_agree c k) place

  pub book_size_lem : (c : Kind) (k : ℕ) → book_size D c k ≡ pick (is_numbered D c k) (answer (places_in (word_of D) c k)) (refused (no_such c))
  unfolding book_size
  book_size_lem c k = ap₂ (λ (t : Bool) (x : ℕ). pick t (answer x) (refused (no_such c))) (numbers_agree c k) (size_agrees T c k)

  pub book_neighbours_lem : (k : ℕ)
      → book_neighbours D k ≡ pick (is_numbered D Kind.area k) (answer (neighbours_in (word_of D) (cells D Kind.area) k)) (refused 15)
  unfolding book_neighbours neighbours_in word_of
  book_neighbours_lem k =
      ap₂ (λ (t : Bool) (x : ℕ). pick t (answer x) (refused 15)) (numbers_agree Kind.area k)
      (neighbours_same (number_at D Kind.area) other (number (cell_word D Kind.area)) (mate_in (word_of D)) (end_at D) (position_of D) (ends D)
      T.meets.end_below T.meets.position_below T.meets.end_position
      (number_agrees T Kind.area) (lands_agree Kind.area) (cells D Kind.area) k)

  pub book_landings_lem : (k : ℕ) → book_landings D k ≡ landings_in (word_of D) k
  unfolding book_landings landings_in word_of
  book_landings_lem k =
      let b : ℕ → Bracket = cell_word D Kind.area in
      ap₂ (λ (d p : ℕ). landings (number_at D Kind.area) other (around D Kind.area) d (end_at D p)) (size_agrees T Kind.area k) (first_agrees T Kind.area k)
      ∙ landings_same (number_at D Kind.area) other (around D Kind.area) (number b) (mate_in (word_of D)) (step b (ends D)) (end_at D) (ends D)
      (lands_agree Kind.area) (around_end T Kind.area) (step_below b (ends D) (word_balanced T square))
      (places_in (word_of D) Kind.area k) (first b (ends D) k) (first_end Kind.area k)

  pub book_joining_lem : (u v : ℕ)
      → book_joining D u v
      ≡ pick (is_numbered D Kind.point u && is_numbered D Kind.point v)
      (answer (join_in (word_of D) v (places_in (word_of D) Kind.point u) (first (seen round (word_of D)) (ends D) u)))
      (refused 14)
  unfolding book_joining
  book_joining_lem u v =
      ap₂ (λ (t : Bool) (x : ℕ). pick t (answer x) (refused 14))
      (ap₂ (λ (s t : Bool). s && t) (numbers_agree Kind.point u) (numbers_agree Kind.point v)) (join_round u v)
