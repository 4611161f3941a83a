-- Words that are alike, of one size and with the same letters, give the same answers.
--
-- Alike v w        == v and w have one size, and the same letter at each position below it
-- alike_call       == the same answer to every call at every number
-- alike_first, alike_places, alike_lowest == the same first places, sizes and lowest positions
-- alike_neighbours == the same neighbour counts
-- alike_landings   == the same areas across the sides of an area, in walk order
-- alike_joining    == the same joining borders
-- Assumes nothing.
use mathlib.Core.Path.{◌≡◌, refl, sym, ap, ap₂, ◌∙◌, subst}
use mathlib.Core.Logic.{inl, inr}
use mathlib.Core.Bool.{Bool, true, false, ◌&&◌}
use Prim.Native.Nat.{ℕ, zero, suc, pred, ◌<◌, ◌≤◌}
use native.Mathlib.Omega.{arith}
use lib.Dec.{eqb, ltb, leb}
use borrow.Author.Tests.{ltb-true, leb-true}
use Rattle.count.specs.Below.{pick}
use Rattle.count.proofs.Logic.{true_or_false, both_left, both_right, pick_no}
use Rattle.answers.specs.Answer.{answer, refused, Kind}
use Rattle.words.specs.Brackets.{Bracket, Balanced, step, number, first}
use Rattle.words.specs.declared.family.Family.{Family}
use Rattle.words.specs.declared.family.Family.TheVariants.{Round as round, Square as square}
use Rattle.words.specs.Word.{Letter, Word, seen, mate_in}
use Rattle.words.proofs.Step.{step_below}
use Rattle.words.proofs.Same.{word, seen_same, mate_in_same, step_same, back_same, number_same, is_first_same, is_last_same, first_same, size_same}
use Rattle.drawing.specs.Session.{Call}
use Rattle.drawing.specs.Neighbours.{landings}
use Rattle.drawing.proofs.Neighbours.{neighbours_same, landings_same}
use Rattle.words.proofs.Mates.{mate_in_below}
use Rattle.words.proofs.Sizes.{first_below}
use Rattle.format.specs.Calls.{family_of_kind, move_in, sign_in, reply_in, first_in, places_in, neighbours_in, landings_in, join_in}
use Rattle.format.proofs.Places.{at_place}

pub record Alike (v w : Word) : Type 0 where
  pub sizes : v.size ≡ w.size
  pub letters : (p : ℕ) → p < w.size → v.letter p ≡ w.letter p

module _ (n : ℕ) (f g : ℕ → Letter) (same : (p : ℕ) → p < n → f p ≡ g p) where
  move_same : (c : Call) (p : ℕ) → p < n → move_in (word n f) c p ≡ move_in (word n g) c p
  unfolding move_in
  move_same Call.cross p l = ap suc (mate_in_same n f g same p l)
  move_same Call.turn p l = ap suc (step_same (seen round (word n f)) (seen round (word n g)) n (seen_same n f g same round) p l)
  move_same Call.turn_back p l = ap suc (back_same (seen round (word n f)) (seen round (word n g)) n (seen_same n f g same round) p l)
  move_same Call.along p l = ap suc (step_same (seen square (word n f)) (seen square (word n g)) n (seen_same n f g same square) p l)
  move_same Call.point p l = number_same (seen round (word n f)) (seen round (word n g)) n (seen_same n f g same round) p (omega arith)
  move_same Call.area p l = number_same (seen square (word n f)) (seen square (word n g)) n (seen_same n f g same square) p (omega arith)

  sign_same : (c : Call) (p : ℕ) → p < n → sign_in (word n f) c p ≡ sign_in (word n g) c p
  unfolding sign_in
  sign_same Call.cross p l = refl
  sign_same Call.turn p l = is_last_same (seen round (word n f)) (seen round (word n g)) n (seen_same n f g same round) p l
  sign_same Call.turn_back p l = is_first_same (seen round (word n f)) (seen round (word n g)) n (seen_same n f g same round) p (omega arith)
  sign_same Call.along p l = refl
  sign_same Call.point p l = refl
  sign_same Call.area p l = refl

  call_same : (c : Call) (i : ℕ) → at_place (word n f) c i ≡ at_place (word n g) c i
  unfolding at_place
  call_same c i =
      let t : Bool = ltb 0 i && leb i n in
      elim (true_or_false t) [
        | inl e ↦
            let low : 0 < i = ltb-true 0 i (both_left (ltb 0 i) (leb i n) e) in
            let high : i ≤ n = leb-true i n (both_right (ltb 0 i) (leb i n) e) in
            ap₂ (λ (x : ℕ) (y : Bool). pick t (answer (record { value = x; sign = y })) (refused 13))
            (move_same c (pred i) (omega arith)) (sign_same c (pred i) (omega arith))
        | inr e ↦
            pick_no t (answer (reply_in (word n f) c (pred i))) (refused 13) e
            ∙ sym (pick_no t (answer (reply_in (word n g) c (pred i))) (refused 13) e)
      ]

  first_alike : (c : Kind) (k : ℕ) → first_in (word n f) c k ≡ first_in (word n g) c k
  unfolding first_in
  first_alike c k =
      ap (λ x. pick (eqb n 0) 0 (suc x))
      (first_same (seen (family_of_kind c) (word n f)) (seen (family_of_kind c) (word n g)) n (seen_same n f g same (family_of_kind c)) k)

  places_alike : (c : Kind) (k : ℕ) → places_in (word n f) c k ≡ places_in (word n g) c k
  unfolding places_in
  places_alike c k = size_same (seen (family_of_kind c) (word n f)) (seen (family_of_kind c) (word n g)) n (seen_same n f g same (family_of_kind c)) k

-- one place more of the search, as a choice by its test
join_step : (w : Word) (v k p : ℕ) → join_in w v (suc k) p
    ≡ pick (eqb (number (seen round w) (mate_in w p)) v) (suc p) (join_in w v k (step (seen round w) w.size p))
unfolding join_in
join_step w v k p = chosen (eqb (number (seen round w) (mate_in w p)) v)
  where
    chosen : (t : Bool) → ◌≡◌ {A = ℕ} (elim t [ true ↦ suc p | false ↦ join_in w v k (step (seen round w) w.size p) ])
        (pick t (suc p) (join_in w v k (step (seen round w) w.size p)))
    chosen true = refl
    chosen false = refl

module _ (n : ℕ) (f g : ℕ → Letter) (same : (p : ℕ) → p < n → f p ≡ g p) (nested : (K : Family) → Balanced (seen K (word n g)) n) where
  -- the point (area) across a place
  lands_same : (K : Family) (p : ℕ) → p < n
      → number (seen K (word n f)) (mate_in (word n f) p) ≡ number (seen K (word n g)) (mate_in (word n g) p)
  lands_same K p l =
      let q : ℕ = mate_in (word n g) p in
      let below : q < n = mate_in_below (word n g) nested p l in
      ap (number (seen K (word n f))) (mate_in_same n f g same p l)
      ∙ number_same (seen K (word n f)) (seen K (word n g)) n (seen_same n f g same K) q (omega arith)

  -- the next place about a point (along an area), which is a place too
  moves_same : (K : Family) (p : ℕ) → p < n → step (seen K (word n f)) n p ≡ step (seen K (word n g)) n p
  moves_same K p l = step_same (seen K (word n f)) (seen K (word n g)) n (seen_same n f g same K) p l

  moves_below : (K : Family) (p : ℕ) → p < n → step (seen K (word n g)) n p < n
  moves_below K p l = step_below (seen K (word n g)) n (nested K) p l

  join_same : (v k p : ℕ) → (0 < k → p < n) → join_in (word n f) v k p ≡ join_in (word n g) v k p
  join_same v zero p some = unfold join_in in refl
  join_same v (suc k) p some =
      let l : p < n = some (omega arith) in
      let q : ℕ = mate_in (word n g) p in
      let at : ℕ = step (seen round (word n g)) n p in
      let next : join_in (word n f) v k at ≡ join_in (word n g) v k at = join_same v k at (λ s. moves_below round p l) in
      let here : number (seen round (word n f)) (mate_in (word n f) p) ≡ number (seen round (word n g)) q = lands_same round p l in
      let moves : step (seen round (word n f)) n p ≡ at = moves_same round p l in
      join_step (word n f) v k p
      ∙ ap (λ x. pick (eqb x v) (suc p) (join_in (word n f) v k (step (seen round (word n f)) n p))) here
      ∙ ap (λ x. pick (eqb (number (seen round (word n g)) q) v) (suc p) (join_in (word n f) v k x)) moves
      ∙ ap (λ x. pick (eqb (number (seen round (word n g)) q) v) (suc p) x) next
      ∙ sym (join_step (word n g) v k p)

  neighbours_alike : (v k : ℕ) → neighbours_in (word n f) v k ≡ neighbours_in (word n g) v k
  unfolding neighbours_in
  neighbours_alike v k =
      let area : ℕ → ℕ = number (seen square (word n f)) in
      let area' : ℕ → ℕ = number (seen square (word n g)) in
      let alike_area : (p : ℕ) → p < n → area p ≡ area' p
      = λ p l. number_same (seen square (word n f)) (seen square (word n g)) n (seen_same n f g same square) p (omega arith) in
      neighbours_same area (mate_in (word n f)) area' (mate_in (word n g)) (λ p. p) (λ p. p) n
      (λ p l. l) (λ p l. l) (λ p l. refl) alike_area (lands_same square) v k

  landings_alike : (k : ℕ) → landings_in (word n f) k ≡ landings_in (word n g) k
  unfolding landings_in places_in
  landings_alike k =
      let b : ℕ → Bracket = seen square (word n f) in
      let c : ℕ → Bracket = seen square (word n g) in
      ap₂ (λ (d p : ℕ). landings (number b) (mate_in (word n f)) (step b n) d p) (places_alike n f g same Kind.area k)
      (first_same b c n (seen_same n f g same square) k)
      ∙ landings_same (number b) (mate_in (word n f)) (step b n) (number c) (mate_in (word n g)) (step c n) (λ p. p) n
      (lands_same square) (moves_same square) (moves_below square) (places_in (word n g) Kind.area k) (first c n k) (first_below c n k)

-- any two words that are alike are words of one size
module _ (P : Word → Word → Type 0) where
  alike : (v w : Word) → Alike v w → ((n : ℕ) (f g : ℕ → Letter) → ((p : ℕ) → p < n → f p ≡ g p) → P (word n f) (word n g)) → P v w
  alike v w a all =
      subst (λ m. P (word m v.letter) w) (sym a.sizes) (all w.size v.letter w.letter a.letters)

pub alike_call : (v w : Word) → Alike v w → (c : Call) (i : ℕ) → at_place v c i ≡ at_place w c i
alike_call v w a c i = alike (λ x y. at_place x c i ≡ at_place y c i) v w a (λ n f g s. call_same n f g s c i)

pub alike_first : (v w : Word) → Alike v w → (c : Kind) (k : ℕ) → first_in v c k ≡ first_in w c k
alike_first v w a c k = alike (λ x y. first_in x c k ≡ first_in y c k) v w a (λ n f g s. first_alike n f g s c k)

pub alike_places : (v w : Word) → Alike v w → (c : Kind) (k : ℕ) → places_in v c k ≡ places_in w c k
alike_places v w a c k = alike (λ x y. places_in x c k ≡ places_in y c k) v w a (λ n f g s. places_alike n f g s c k)

pub alike_neighbours : (v w : Word) → Alike v w → ((K : Family) → Balanced (seen K w) w.size) → (x k : ℕ)
    → neighbours_in v x k ≡ neighbours_in w x k
alike_neighbours v w a nested x k =
    subst (λ m. neighbours_in (word m v.letter) x k ≡ neighbours_in w x k) (sym a.sizes)
    (neighbours_alike w.size v.letter w.letter a.letters nested x k)

pub alike_landings : (v w : Word) → Alike v w → ((K : Family) → Balanced (seen K w) w.size) → (k : ℕ) → landings_in v k ≡ landings_in w k
alike_landings v w a nested k =
    subst (λ m. landings_in (word m v.letter) k ≡ landings_in w k) (sym a.sizes)
    (landings_alike w.size v.letter w.letter a.letters nested k)

alike_join : (v w : Word) → Alike v w → ((K : Family) → Balanced (seen K w) w.size)
    → (to k p : ℕ) → (0 < k → p < w.size) → join_in v to k p ≡ join_in w to k p
alike_join v w a nested to k p some =
    subst (λ m. join_in (word m v.letter) to k p ≡ join_in w to k p) (sym a.sizes)
    (join_same w.size v.letter w.letter a.letters nested to k p some)

pub alike_lowest : (v w : Word) → Alike v w → (K : Family) (k : ℕ) → first (seen K v) v.size k ≡ first (seen K w) w.size k
alike_lowest v w a K k =
    alike (λ x y. first (seen K x) x.size k ≡ first (seen K y) y.size k) v w a
    (λ n f g s. first_same (seen K (word n f)) (seen K (word n g)) n (seen_same n f g s K) k)

-- the whole search for a joining border
pub alike_joining : (v w : Word) → Alike v w → ((K : Family) → Balanced (seen K w) w.size) → (to u : ℕ)
    → join_in v to (places_in v Kind.point u) (first (seen round v) v.size u)
    ≡ join_in w to (places_in w Kind.point u) (first (seen round w) w.size u)
unfolding places_in
alike_joining v w a nested to u =
    ap₂ (λ (k q : ℕ). join_in v to k q) (alike_places v w a Kind.point u) (alike_lowest v w a round u)
    ∙ alike_join v w a nested to (places_in w Kind.point u) (first (seen round w) w.size u) (first_below (seen round w) w.size u)
