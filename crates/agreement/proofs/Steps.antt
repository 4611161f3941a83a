-- About a point and along an area the ends go as the word's steps go.
--
-- cell_word D c == what the letters of D's word are to the family of c: round for points, square for areas
-- around_permutes == the walk about a point (along an area) permutes the ends
-- turn_around  == about a point it is the turning list
-- around_end   == the next end about the point (along the area) of the end at p is the end at the step from p
-- around_step  == so says its position: turn, and along
-- turn_end     == the entry of the end at p is the end at the step of the round brackets
-- entry_end, entry_back == the end whose entry is the end at p stands at the step back
-- Assumes nothing.
use mathlib.Core.Path.{◌≡◌, refl, sym, ap, ◌∙◌}
use mathlib.Core.Logic.{inl, inr}
use mathlib.Core.Bool.{Bool}
use Prim.Native.Nat.{ℕ, ◌<◌}
use native.Mathlib.Omega.{arith}
use lib.Dec.{eqb}
use borrow.Author.Tests.{eqb-true, eq-eqb}
use Rattle.count.specs.Below.{pick}
use Rattle.count.proofs.Logic.{true_or_false}
use Rattle.count.proofs.Below.{find_has, find_at_most}
use Rattle.answers.specs.Answer.{Kind}
use Rattle.orbits.specs.Cycles.{Permutes}
use Rattle.words.specs.Brackets.{Bracket, mate, step, back}
use Rattle.words.specs.declared.family.Family.TheVariants.{Round as round}
use Rattle.words.specs.Word.{seen}
use Rattle.words.proofs.Mate.{mate_below}
use Rattle.words.proofs.Step.{step_below, back_below, step_back}
use Rattle.drawing.specs.Drawing.{Drawing, ends, border, other, turn, is_marked, over, walk, crossed, around, end_at, position_of}
use Rattle.drawing.specs.Book.{entry_to}
use Rattle.drawing.proofs.Ends.{other_border, other_other, over_yes, over_no, over_over, walk_permutes}
use Rattle.format.specs.Pack.{word_of}
use Rattle.format.specs.Calls.{family_of_kind}
use Rattle.agreement.specs.Toured.{Toured}
use Rattle.agreement.proofs.Positions.{end_other, end_next}
use Rattle.agreement.proofs.Nesting.{in_family, met_in, word_balanced, mate_partner}

abbrev pub cell_word : Drawing → Kind → ℕ → Bracket
cell_word D c = seen (family_of_kind c) (word_of D)

-- Two crossings of one border undo one another: together these cross the borders of c's family.
over_cross : (D : Drawing) (c : Kind) (h : ℕ)
    → over (is_marked D) (over (crossed c) h) ≡ pick (in_family D (family_of_kind c) (border h)) (other h) h
over_cross D Kind.point h =
    elim (true_or_false (is_marked D (border h))) [
      | inl e ↦ rw (over_no (crossed Kind.point) h refl, over_yes (is_marked D) h e, e)
      | inr e ↦ rw (over_no (crossed Kind.point) h refl, over_no (is_marked D) h e, e)
    ]
over_cross D Kind.area h =
    elim (true_or_false (is_marked D (border h))) [
      | inl e ↦ rw (over_yes (crossed Kind.area) h refl, over_yes (is_marked D) (other h) (ap (is_marked D) (other_border h) ∙ e), e) (other_other h)
      | inr e ↦ rw (over_yes (crossed Kind.area) h refl, over_no (is_marked D) (other h) (ap (is_marked D) (other_border h) ∙ e), e)
    ]

pub around_permutes : {D : Drawing} → Toured D → (c : Kind) → Permutes (ends D) (around D c)
unfolding around
around_permutes {D} T c = walk_permutes D (crossed c) T.permutes

-- the walk about a cell is the tour's step after two crossings
around_walk : (D : Drawing) (c : Kind) (h : ℕ) → around D c h ≡ walk D (is_marked D) (over (is_marked D) (over (crossed c) h))
unfolding around walk
around_walk D c h = rw (over_over (is_marked D) (over (crossed c) h))

pub turn_around : (D : Drawing) (h : ℕ) → turn D h ≡ around D Kind.point h
unfolding around walk over
turn_around D h = refl

module _ {D : Drawing} (T : Toured D) where
  module _ (c : Kind) where
    -- the end at p's partner
    mate_end : (p : ℕ) → p < ends D → end_at D (mate (cell_word D c) (ends D) p) ≡ over (is_marked D) (over (crossed c) (end_at D p))
    mate_end p l = rw (mate_partner T (family_of_kind c) p l, over_cross D c (end_at D p)) (
        elim (true_or_false (met_in D (family_of_kind c) p)) [
          | inl t ↦ rw t (end_other T p l)
          | inr f ↦ rw f
        ])

    pub around_end : (p : ℕ) → p < ends D → around D c (end_at D p) ≡ end_at D (step (cell_word D c) (ends D) p)
    unfolding step
    around_end p l =
        around_walk D c (end_at D p) ∙ ap (walk D (is_marked D)) (sym (mate_end p l))
        ∙ sym (end_next T (mate (cell_word D c) (ends D) p) (mate_below (cell_word D c) (ends D) (word_balanced T (family_of_kind c)) p l))

    pub around_step : (p : ℕ) → p < ends D → position_of D (around D c (end_at D p)) ≡ step (cell_word D c) (ends D) p
    around_step p l =
        ap (position_of D) (around_end p l)
        ∙ T.meets.position_end (step (cell_word D c) (ends D) p) (step_below (cell_word D c) (ends D) (word_balanced T (family_of_kind c)) p l)

  pub turn_end : (p : ℕ) → p < ends D → turn D (end_at D p) ≡ end_at D (step (seen round (word_of D)) (ends D) p)
  turn_end p l = turn_around D (end_at D p) ∙ around_end Kind.point p l

  module _ (p : ℕ) (l : p < ends D) where
    -- one step back
    before : ℕ
    before = back (seen round (word_of D)) (ends D) p

    before_below : before < ends D
    unfolding before
    before_below = back_below (seen round (word_of D)) (ends D) (word_balanced T round) p l

    -- its entry is the end at p
    turn_before : turn D (end_at D before) ≡ end_at D p
    unfolding before
    turn_before = turn_end before before_below ∙ ap (end_at D) (step_back (seen round (word_of D)) (ends D) (word_balanced T round) p l)

    pub entry_end : entry_to D (end_at D p) ≡ end_at D (back (seen round (word_of D)) (ends D) p)
    unfolding entry_to before
    entry_end =
        let is_entry : ℕ → Bool = λ g. eqb (turn D g) (end_at D p) in
        let here : end_at D before < ends D = T.meets.end_below before before_below in
        let found : entry_to D (end_at D p) < ends D
        = omega (arith, find_at_most is_entry (ends D) (end_at D before) here (eq-eqb (turn D (end_at D before)) (end_at D p) turn_before)) in
        T.permutes.injective (entry_to D (end_at D p)) (end_at D before) found here
        (eqb-true (turn D (entry_to D (end_at D p))) (end_at D p) (find_has is_entry (ends D) found) ∙ sym turn_before)

    pub entry_back : position_of D (entry_to D (end_at D p)) ≡ back (seen round (word_of D)) (ends D) p
    unfolding before
    entry_back = ap (position_of D) entry_end ∙ T.meets.position_end before before_below
