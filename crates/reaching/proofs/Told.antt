-- What the search tells of a drawing: whether the marked borders join all points, or all borders do, and the marks of a tree.
--
-- spread_tells     == whether the borders of a set join all points
-- points_not, points_are == n if the marked borders join all points, else none
-- tree_noted       == no marks were lent: all borders were searched, and what is noted holds whatever marks the drawing has
-- tree_not, tree_found == no tree is written, or the one noted
-- Assumes nothing.
use mathlib.Core.Path.{◌≡◌, sym, ap, ◌∙◌}
use mathlib.Core.Bool.{Bool, true, false}
use mathlib.Core.List.{List}
use Prim.Native.Nat.{ℕ, ◌*◌, ◌<◌}
use native.Mathlib.Omega.{arith}
use borrow.Author.Tests.{eq-eqb, ne_eqb, eqb-true}
use lib.Dec.{eqb}
use lib.ListN.{length}
use Rattle.std.specs.Prelude.{Some, None}
use Rattle.count.specs.Below.{pick, table}
use Rattle.count.proofs.Decides.{decides_as}
use Rattle.count.proofs.Logic.{pick_yes, pick_no, true_not_false}
use Rattle.answers.specs.Answer.{Kind}
use Rattle.drawing.specs.Drawing.{Drawing, borders, is_marked, every_border, cells, lent}
use Rattle.drawing.specs.Checks.{joins, joined, connected}
use Rattle.drawing.proofs.Labels.{joins_decides}
use Rattle.checking.specs.Lent.{Turns}
use Rattle.checking.proofs.Laws.{turns_permute}
use Rattle.checking.proofs.Decided.{decides_same}
use Rattle.reaching.specs.Reaching.{allowed, tree_at, Spread, NotesTree, FindsTree}
use Rattle.reaching.proofs.Step.{allowed_has, allowed_past}
use Rattle.reaching.proofs.Reach.{joins_within}

-- a set that has the same borders as the one that was crossed
module _ (ts ms : List ℕ) (s : ℕ) (P : Turns ts) (half : length ts ≡ 2 * length ms) (S T : ℕ → Bool)
    (same : (e : ℕ) → e < length ms → S e ≡ T e) (w : List ℕ) (k n : ℕ) (X : Spread ts ms s S w k n) where
  spread_tells : eqb k (length ts) ≡ joins (lent ts ms s) T
  unfolding borders
  spread_tells =
      let D : Drawing = lent ts ms s in
      let p = turns_permute ts ms s P half in
      decides_same
      (decides_as (joins_within D S T p (λ e b q. sym (same e b) ∙ q)) (joins_within D T S p (λ e b q. same e b ∙ q)) X.decides)
      (joins_decides D T p)

module _ (ts ms : List ℕ) (P : Turns ts) (half : length ts ≡ 2 * length ms) (w : List ℕ) (k n : ℕ)
    (X : (ms' : List ℕ) (s : ℕ) → length ts ≡ 2 * length ms' → Spread ts ms' s (allowed ms) w k n) (s : ℕ) where
  joined_is : eqb k (length ts) ≡ joined (lent ts ms s)
  unfolding joined is_marked
  joined_is =
      spread_tells ts ms s P half (allowed ms) (is_marked (lent ts ms s)) (λ e b. sym (allowed_has ms e b)) w k n (X ms s half)

  pub points_not : (k ≡ length ts → ⊥) → None ≡ pick (joined (lent ts ms s)) (Some (cells (lent ts ms s) Kind.point)) None
  points_not d =
      sym (pick_no (joined (lent ts ms s)) (Some (cells (lent ts ms s) Kind.point)) None (sym joined_is ∙ ne_eqb k (length ts) d))

  pub points_are : k ≡ length ts → Some n ≡ pick (joined (lent ts ms s)) (Some (cells (lent ts ms s) Kind.point)) None
  points_are e =
      ap Some ((X ms s half).points e)
      ∙ sym (pick_yes (joined (lent ts ms s)) (Some (cells (lent ts ms s) Kind.point)) None (sym joined_is ∙ eq-eqb k (length ts) e))

-- no marks were lent
pub tree_noted : (ts none : List ℕ) → Turns ts → (w : List ℕ) (k n : ℕ)
    → ((ms : List ℕ) (s : ℕ) → length ts ≡ 2 * length ms → Spread ts ms s (allowed none) w k n) → length none ≡ 0
    → (ms : List ℕ) (s : ℕ) → length ts ≡ 2 * length ms → NotesTree (lent ts ms s) (eqb k (length ts)) w
unfolding connected
tree_noted ts none P w k n X z ms s half =
    record {
      tells =
          spread_tells ts ms s P half (allowed none) every_border (λ e b. sym (allowed_past none e (omega arith))) w k n (X ms s half);
      suggested = λ t. (X ms s half).tree (eqb-true k (length ts) t);
      marks = (X ms s half).marks;
    }

module _ (ts ms : List ℕ) (s : ℕ) (t : Bool) (w : List ℕ) (N : NotesTree (lent ts ms s) t w) where
  pub tree_not : (ns : List ℕ) → ns ≡ ms → t ≡ false → FindsTree (lent ts ms s) t ns
  tree_not ns q f = record { tells = N.tells; suggested = λ y. absurd (true_not_false t y f); unchanged = λ f. q }

  pub tree_found : (ns : List ℕ) → ns ≡ table (tree_at (length ts) w) (length ms) → t ≡ true → FindsTree (lent ts ms s) t ns
  tree_found ns q y =
      record {
        tells = N.tells;
        suggested = λ y. rw q (N.suggested y);
        unchanged = λ f. absurd (true_not_false t y f);
      }
