-- Every answer of a call fits 16 bits.
--
-- mate_most, step_most, back_most, number_most == partners, steps and numbers go little beyond the word
-- move_most, first_most, size_most, join_most == so do the answers of the calls
-- own_all     == what holds of every refusal, and of an answer where the checks pass, holds of what comes out
-- own_small   == an answer is small if it is where the checks pass
-- move_small  == every number that a call of a session answers is below 32,768, so that bit 15 is left for a sign
-- first_small, size_small, neighbours_small, joining_small == every answer of a call is below 65,536
-- cross_fits, turn_fits, turn_back_fits, along_fits, point_fits, area_fits, first_fits, size_fits_lem, neighbours_fit, joining_fits
--             == so is an answer that equals one
-- Assumes nothing.
use mathlib.Core.Path.{◌≡◌, refl}
use mathlib.Core.Bool.{Bool, true, false, ◌&&◌}
use mathlib.Core.List.{List, []}
use Prim.Native.Nat.{ℕ, zero, suc, pred, ◌+◌, ◌<◌, ◌≤◌}
use native.Mathlib.Omega.{arith}
use lib.Dec.{eqb, ltb, leb}
use lib.ListN.{drop}
use borrow.Author.Tests.{leb-true}
use Rattle.count.specs.Below.{pick}
use Rattle.count.proofs.Logic.{both_right}
use Rattle.count.proofs.Search.{find_le}
use Rattle.count.proofs.Counts.{count_le}
use Rattle.answers.proofs.Steps.{none_append, by_checks}
use Rattle.answers.specs.Answer.{Answer, answer, refused_with, refused, value_of, Reply, plain, Kind, no_such}
use Rattle.words.specs.Brackets.{Bracket, opens, closes, neither, is_opens, is_closes, inner, closer, mate, next, previous, step, back, number, first, size}
use Rattle.words.specs.declared.family.Family.TheVariants.{Round as round, Square as square}
use Rattle.words.specs.Word.{Word, seen, mate_in}
use Rattle.words.proofs.Stack.{inner_le}
use Rattle.drawing.specs.Session.{Call}
use Rattle.drawing.proofs.Neighbours.{neighbours_le}
use Rattle.format.specs.Bytes.{size_in, word_in}
use Rattle.format.specs.Open.{open_checks, open_refusal}
use Rattle.format.specs.Calls.{family_of_kind, move_in, reply_in, map_answer, cross_of, turn_of, turn_back_of, along_of, point_of, area_of, cells_in, is_number, join_checks, first_in, first_of, places_in, size_of, neighbours_in, neighbours_of, join_in, joining_of}
use Rattle.format.proofs.Passes.{opens_passes, opened}

-- ---- brackets of a word of n letters; N is any bound of n and of the position
pick_most : (t : Bool) (x y N : ℕ) → x ≤ N → y ≤ N → pick t x y ≤ N
pick_most true x y N h k = h
pick_most false x y N h k = k

module _ (b : ℕ → Bracket) (n N : ℕ) (few : n ≤ N) where
  closer_most : (p : ℕ) → closer b n p ≤ N
  unfolding closer
  closer_most p = omega (arith, find_le (λ q. is_closes (b q) && eqb (inner b q) (suc p)) n)

  partner_most : (x : Bracket) (p : ℕ) → p ≤ N
      → elim x [ opens ↦ closer b n p | closes ↦ pred (inner b p) | neither ↦ p ] ≤ N
  partner_most opens p l = closer_most p
  partner_most closes p l = omega (arith, inner_le b p)
  partner_most neither p l = l

  mate_most : (p : ℕ) → p ≤ N → mate b n p ≤ N
  unfolding mate
  mate_most p l = partner_most (b p) p l

  step_most : (p : ℕ) → p ≤ N → step b n p ≤ N + 1
  unfolding step next
  step_most p l =
      pick_most (eqb (suc (mate b n p)) n) 0 (suc (mate b n p)) (N + 1) (omega arith) (omega (arith, mate_most p l))

  previous_most : (p : ℕ) → p ≤ N → previous n p ≤ N
  unfolding previous
  previous_most p l = pick_most (eqb p 0) (pred n) (pred p) N (omega arith) (omega arith)

  back_most : (p : ℕ) → p ≤ N → back b n p ≤ N
  unfolding back
  back_most p l = mate_most (previous n p) (previous_most p l)

number_most : (b : ℕ → Bracket) (p : ℕ) → number b p ≤ p + 1
unfolding number
number_most b p = omega (arith, count_le (λ q. is_opens (b q)) (inner b p), inner_le b p)

-- ---- the answers of the calls
module _ (w : Word) (N : ℕ) (few : w.size ≤ N) where
  mate_in_most : (p : ℕ) → p ≤ N → mate_in w p ≤ N
  unfolding mate_in
  mate_in_most p l = mate_most (seen (w.letter p).family w) w.size N few p l

  move_most : (c : Call) (p : ℕ) → p ≤ N → move_in w c p ≤ N + 2
  unfolding move_in
  move_most Call.cross p l = omega (arith, mate_in_most p l)
  move_most Call.turn p l = omega (arith, step_most (seen round w) w.size N few p l)
  move_most Call.turn_back p l = omega (arith, back_most (seen round w) w.size N few p l)
  move_most Call.along p l = omega (arith, step_most (seen square w) w.size N few p l)
  move_most Call.point p l = omega (arith, number_most (seen round w) p)
  move_most Call.area p l = omega (arith, number_most (seen square w) p)

  first_position_most : (b : ℕ → Bracket) (k : ℕ) → first b w.size k ≤ N
  unfolding first
  first_position_most b k = omega (arith, find_le (λ p. eqb (number b p) k) w.size)

  first_most : (c : Kind) (k : ℕ) → first_in w c k ≤ N + 1
  unfolding first_in
  first_most c k =
      pick_most (eqb w.size 0) 0 (suc (first (seen (family_of_kind c) w) w.size k)) (N + 1) (omega arith)
      (omega (arith, first_position_most (seen (family_of_kind c) w) k))

  size_most : (c : Kind) (k : ℕ) → places_in w c k ≤ N
  unfolding places_in size
  size_most c k = omega (arith, count_le (λ p. eqb (number (seen (family_of_kind c) w) p) k) w.size)

-- each step goes at most one beyond the bound
join_most : (w : Word) (v k p N : ℕ) → w.size ≤ N → p ≤ N → join_in w v k p ≤ N + k
unfolding join_in
join_most w v zero p N few l = omega arith
join_most w v (suc k) p N few l =
    go (eqb (number (seen round w) (mate_in w p)) v)
    (omega (arith, join_most w v k (step (seen round w) w.size p) (N + 1) (omega arith) (step_most (seen round w) w.size N few p l)))
  where
    go : (t : Bool) → join_in w v k (step (seen round w) w.size p) ≤ N + suc k
        → elim t [ true ↦ suc p | false ↦ join_in w v k (step (seen round w) w.size p) ] ≤ N + suc k
    go true h = omega arith
    go false h = h

-- ---- after the checks
own_all : {A : Type 0} (P : Answer A → Type 0) (s : List ℕ) (t : Bool) (x : A) (k : ℕ) → (open_refusal s ≡ 0 → t ≡ true → P (answer x))
    → ((j : ℕ) (xs : List ℕ) → P (refused_with j xs)) → P (opened s (pick t (answer x) (refused k)))
unfolding opened open_refusal
own_all P s t x k h r = by_checks P (open_checks s) (pick t (answer x) (refused k)) refl (λ o. own t (h o)) (λ j xs l. r j xs)
  where
    own : (t : Bool) → (t ≡ true → P (answer x)) → P (pick t (answer x) (refused k))
    own true h = h refl
    own false h = r k []

own_small : (s : List ℕ) (t : Bool) (x k : ℕ) → (open_refusal s ≡ 0 → t ≡ true → x < 65536)
    → value_of (opened s (pick t (answer x) (refused k))) < 65536
unfolding value_of
own_small s t x k h = own_all (λ a. value_of a < 65536) s t x k h (λ j xs. omega arith)

module _ (s : List ℕ) where
  word_most : open_refusal s ≡ 0 → (word_in s).size ≤ 4096
  unfolding word_in
  word_most e = omega (arith, (opens_passes s e).m_most)

  pub move_small : (c : Call) (i : ℕ) → value_of (plain (map_answer s c i)) < 32768
  unfolding map_answer opened value_of
  move_small c i =
      own_all (λ (a : Answer Reply). value_of (plain a) < 32768) s (ltb 0 i && leb i (word_in s).size) (reply_in (word_in s) c (pred i)) 13
      (λ e t.
      let l : i ≤ (word_in s).size = leb-true i (word_in s).size (both_right (ltb 0 i) (leb i (word_in s).size) t) in
      let h : (word_in s).size ≤ 4096 = word_most e in
      omega (arith, move_most (word_in s) 4096 h c (pred i) (omega arith)))
      (λ j xs. omega arith)

  pub first_small : (c : Kind) (k : ℕ) → value_of (first_of s c k) < 65536
  unfolding first_of opened
  first_small c k =
      own_small s (is_number (size_in s) c k) (first_in (word_in s) c k) (no_such c)
      (λ e t. omega (arith, first_most (word_in s) 4096 (word_most e) c k))

  pub size_small : (c : Kind) (k : ℕ) → value_of (size_of s c k) < 65536
  unfolding size_of opened
  size_small c k =
      own_small s (is_number (size_in s) c k) (places_in (word_in s) c k) (no_such c)
      (λ e t. omega (arith, size_most (word_in s) 4096 (word_most e) c k))

  pub neighbours_small : (k : ℕ) → value_of (neighbours_of s k) < 65536
  unfolding neighbours_of neighbours_in opened
  neighbours_small k =
      let v : ℕ = cells_in (size_in s) Kind.area in
      own_small s (is_number (size_in s) Kind.area k) (neighbours_in (word_in s) v k) 15
      (λ e t. omega (arith, (opens_passes s e).m_most, neighbours_le (number (seen square (word_in s))) (mate_in (word_in s)) (word_in s).size v k))

  pub joining_small : (u v : ℕ) → value_of (joining_of s u v) < 65536
  unfolding joining_of open_refusal value_of
  joining_small u v =
      by_checks (λ a. value_of a < 65536) (join_checks s u v) (answer (join_in (word_in s) v (places_in (word_in s) Kind.point u) (first (seen round (word_in s)) (word_in s).size u)))
      refl
      (λ o.
      let h : (word_in s).size ≤ 4096 = word_most (none_append (open_checks s) (drop 6 (join_checks s u v)) refl o).0 in
      omega (
        arith,
        size_most (word_in s) 4096 h Kind.point u,
        join_most (word_in s) v (places_in (word_in s) Kind.point u) (first (seen round (word_in s)) (word_in s).size u) 4096 h
            (first_position_most (word_in s) 4096 h (seen round (word_in s)) u),
      ))
      (λ j xs l. omega arith)

-- ---- an answer a of a call
module _ (s : List ℕ) (a : Answer ℕ) where
  small : (b : Answer ℕ) → a ≡ b → value_of b < 65536 → value_of a < 65536
  small b e h = rw e h

  module _ (i : ℕ) where
    pub cross_fits : a ≡ cross_of s i → value_of a < 65536
    unfolding cross_of
    cross_fits e = small (cross_of s i) e (omega (arith, move_small s Call.cross i))

    pub along_fits : a ≡ along_of s i → value_of a < 65536
    unfolding along_of
    along_fits e = small (along_of s i) e (omega (arith, move_small s Call.along i))

    pub point_fits : a ≡ point_of s i → value_of a < 65536
    unfolding point_of
    point_fits e = small (point_of s i) e (omega (arith, move_small s Call.point i))

    pub area_fits : a ≡ area_of s i → value_of a < 65536
    unfolding area_of
    area_fits e = small (area_of s i) e (omega (arith, move_small s Call.area i))

    pub first_fits : (c : Kind) → a ≡ first_of s c i → value_of a < 65536
    first_fits c e = small (first_of s c i) e (first_small s c i)

    pub size_fits_lem : (c : Kind) → a ≡ size_of s c i → value_of a < 65536
    size_fits_lem c e = small (size_of s c i) e (size_small s c i)

    pub neighbours_fit : a ≡ neighbours_of s i → value_of a < 65536
    neighbours_fit e = small (neighbours_of s i) e (neighbours_small s i)

    pub joining_fits : (v : ℕ) → a ≡ joining_of s i v → value_of a < 65536
    joining_fits v e = small (joining_of s i v) e (joining_small s i v)

-- ---- and of a turn
module _ (s : List ℕ) (a : Answer Reply) (i : ℕ) where
  turned : (b : Answer Reply) → a ≡ b → value_of (plain b) < 32768 → value_of (plain a) < 65536
  turned b e h = rw e (omega (arith, h))

  pub turn_fits : a ≡ turn_of s i → value_of (plain a) < 65536
  unfolding turn_of
  turn_fits e = turned (turn_of s i) e (move_small s Call.turn i)

  pub turn_back_fits : a ≡ turn_back_of s i → value_of (plain a) < 65536
  unfolding turn_back_of
  turn_back_fits e = turned (turn_back_of s i) e (move_small s Call.turn_back i)
