-- Marks found for the drawer: the call gives the number of the first check that fails, and neither marks nor start play a part in it.
--
-- marks_refusals  == the refusal is that of the first check that fails, or there is none
-- marks_accepts   == there is none exactly if the working list is long enough and the drawing passes 1 to 4 and is connected
-- marks_apart     == it is 21 exactly if all that holds but the last
-- marks_unread    == drawings with one turning list and as many marks get one refusal
-- Assumes nothing.
use mathlib.Core.Path.{◌≡◌, refl, ap, ◌∙◌}
use mathlib.Core.Logic.{◌↔◌}
use mathlib.Core.Bool.{◌&&◌, not}
use mathlib.Core.List.{List, []}
use Prim.Native.Nat.{ℕ, ◌*◌, ◌≤◌}
use native.Mathlib.Omega.{arith}
use lib.ListN.{length, get_or, take, drop}
use lib.Dec.{eqb, ltb, leb}
use Rattle.count.specs.Below.{all}
use Rattle.count.proofs.Decides.{decides_le}
use Rattle.answers.specs.Checks.{Check, unless, after, Hold, InOrder, Decided}
use Rattle.answers.proofs.Order.{each_hold, none_refuses, in_order, once, number_at}
use Rattle.drawing.specs.Drawing.{most_ends, Drawing, borders, ends, turn, every_border, lent}
use Rattle.drawing.specs.Checks.{lengths_fit, entries_fit, distinct, Connected, connected, PassesFour}
use Rattle.drawing.proofs.Checks.{lengths_decides, entries_decides, distinct_decides}
use Rattle.drawing.proofs.Labels.{connected_decides, joins_unread}
use Rattle.drawing.proofs.Ends.{entries_permute}
use Rattle.format.specs.Suggest.{marks_checks, marks_refusal}

module _ (D : Drawing) (work : ℕ) where
  -- that a drawing is connected is tested where entries are in range and distinct
  pub marks_decided : Decided (marks_checks D work)
  marks_decided = (
    lengths_decides D,
    λ _. (
      decides_le (6 * borders D) work,
      λ _. (entries_decides D, λ r. (distinct_decides D, λ d. (connected_decides D (entries_permute D r d), λ _. tt))),
    ),
  )

  pub marks_refusals : InOrder (marks_checks D work) (tt {0}) (after (marks_checks D work) (tt {0}))
  marks_refusals = in_order (marks_checks D work) (tt {0}) marks_decided

  four_hold : Hold (marks_checks D work) 4 → (6 * borders D ≤ work) × PassesFour D
  four_hold h = (h 1 (omega arith), record { lengths = h 0 (omega arith); range = h 2 (omega arith); entries = h 3 (omega arith) })

  pub marks_accepts : (marks_refusal D work ≡ 0) ↔ ((6 * borders D ≤ work) × PassesFour D × Connected D)
  unfolding marks_refusal
  marks_accepts =
      let cs : List Check = marks_checks D work in
      let none = none_refuses cs marks_decided refl in (
        λ e.
            let holds = none.0 e in
            let four = four_hold (λ i l. holds i (omega arith)) in
            (four.0, four.1, holds 4 (omega arith)),
        λ p. none.1 (each_hold cs [] (p.1.lengths, (p.0, (p.1.range, (p.1.entries, (p.2, tt)))))),
      )

  pub marks_apart : (marks_refusal D work ≡ 21) ↔ ((6 * borders D ≤ work) × PassesFour D × (Connected D → ⊥))
  unfolding marks_refusal once
  marks_apart =
      let cs : List Check = marks_checks D work in
      let last = number_at cs 4 marks_decided refl refl (omega arith) in (
        λ e.
            let h = last.0 e in
            let four = four_hold h.0 in
            (four.0, four.1, h.1),
        λ p. last.1 (each_hold (take 4 cs) (drop 4 cs) (p.1.lengths, (p.0, (p.1.range, (p.1.entries, tt)))), p.2),
      )

-- ---- what is not read
module _ (ts ms ns : List ℕ) (s t : ℕ) (same : length ms ≡ length ns) where
  abbrev D₁ : Drawing
  D₁ = lent ts ms s

  abbrev D₂ : Drawing
  D₂ = lent ts ns t

  pub marks_unread : (work : ℕ) → marks_refusal (lent ts ms s) work ≡ marks_refusal (lent ts ns t) work
  unfolding marks_refusal lengths_fit entries_fit distinct connected turn ends borders
  marks_unread work =
      ap (λ c. unless (lengths_fit D₁) 1
      (unless (leb (6 * borders D₁) work) 2 (unless (entries_fit D₁) 3 (unless (distinct D₁) 4 (unless c 21 0))))) (joins_unread ts ms ns s t same every_border)
      ∙ ap (λ m. unless (eqb (length ts) (2 * m) && leb (length ts) most_ends) 1
      (unless (leb (6 * m) work) 2
      (unless (all (λ h. ltb (get_or ts h 0) (2 * m)) (2 * m)) 3
      (unless (all (λ j. all (λ i. not (eqb (get_or ts i 0) (get_or ts j 0))) j) (2 * m)) 4 (unless (connected D₂) 21 0))))) same
