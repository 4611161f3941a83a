-- The search from end 0 over a set S of borders: the ends reached are all ends exactly if S joins all points.
--
-- blank_whole      == in a blank list no point is flagged in part
-- Searching ts m S v w k n i == k ends of n points are reached, and the borders of the first i were looked across; v is w as it began
-- spread_none      == without borders
-- search_..        == from one end to the next, and when all are done: what is found, whatever marks the drawing has
-- joins_within     == what a set joins, a larger set joins
-- Assumes nothing.
use mathlib.Core.Path.{◌≡◌, refl, sym, ap, ◌∙◌}
use mathlib.Core.Logic.{inl, inr}
use mathlib.Core.Bool.{Bool, true, false, ◌&&◌}
use mathlib.Core.List.{List}
use Prim.Native.Nat.{ℕ, suc, ◌+◌, ◌*◌, ◌<◌, ◌≤◌}
use native.Mathlib.Omega.{arith}
use borrow.Author.Tests.{eq-eqb, ne_eqb, eqb-true}
use lib.Dec.{eqb}
use lib.ListN.{length, get_or}
use Rattle.count.specs.Below.{count}
use Rattle.count.proofs.Logic.{same_or_not, true_or_false, true_not_false}
use Rattle.count.proofs.Below.{count_same, count_all, count_none, count_zero}
use Rattle.count.proofs.Lists.{table_length, table_get_d}
use Rattle.answers.specs.Answer.{Kind}
use Rattle.orbits.specs.Cycles.{Permutes, leads, cycles}
use Rattle.orbits.proofs.Low.{low_same_cycle}
use Rattle.drawing.specs.Drawing.{Drawing, borders, ends, border, other, turn, marked, cells, lent}
use Rattle.drawing.specs.Checks.{Linked, here, turned, across, Joins}
use Rattle.drawing.specs.Tree.{SuggestedTree}
use Rattle.drawing.proofs.Ends.{other_below, border_below}
use Rattle.drawing.proofs.Labels.{linked_within, cycle_linked, joins_from}
use Rattle.drawing.proofs.Cells.{cells_none, points_are}
use Rattle.lending.specs.Lists.{Blank, Kept}
use Rattle.lending.proofs.Kept.{kept_none, kept_then}
use Rattle.checking.specs.Lent.{next, Turns}
use Rattle.checking.proofs.Laws.{turns_permute}
use Rattle.reaching.specs.Queue.{IsFlagged, is_on, queued, least, Whole, Gathered}
use Rattle.reaching.specs.Reaching.{tree_at, tree_in, marks_in, Reached, Crossed, Spread}
use Rattle.reaching.proofs.Queue.{on_yes, on_no, queue_few, queue_room}
use Rattle.reaching.proofs.Points.{leading, leading_more}

and_true : (t : Bool) → t && true ≡ t
and_true true = refl
and_true false = refl

pub blank_whole : (ts v : List ℕ) → Blank (3 * length ts) v → Whole ts v
blank_whole ts v B = record { turned = λ x b f. absurd (f (B.zero x (omega arith))) }

pub record Searching (ts : List ℕ) (m : ℕ) (S : ℕ → Bool) (v w : List ℕ) (k n i : ℕ) : Type 0 where
  pub reached : Reached ts m S w k n
  pub behind : i ≤ k
  pub kept : Kept (3 * length ts) v w
  pub done : (j : ℕ) → j < i → S (border (queued (length ts) w j)) ≡ true → IsFlagged w (other (queued (length ts) w j))

pub spread_none : (ts : List ℕ) (S : ℕ → Bool) (w : List ℕ) → Blank (3 * length ts) w → length ts ≡ 0
    → (ms : List ℕ) (s : ℕ) → length ts ≡ 2 * length ms → Spread ts ms s S w 0 1
unfolding ends borders
spread_none ts S w B z ms s two =
    let none : length ms ≡ 0 = omega arith in
    let D : Drawing = lent ts ms s in
    let J : Joins D S = record { link = λ g h b. absurd (omega arith) } in
    let marks : List ℕ = marks_in (length ts) (length ms) w in
    record {
      decides = record { sound = λ t. J; complete = λ j. eq-eqb 0 (length ts) (sym z) };
      points = λ e. sym (cells_none D Kind.point none);
      tree = λ e.
          record {
            one_each = table_length (tree_at (length ts) w) (length ms);
            binary = λ e b. absurd (omega arith);
            number = ap (λ m. suc (count (marked marks) m)) none ∙ ap suc (count_zero (marked marks)) ∙ sym (cells_none D Kind.point none);
            join = record { link = λ g h b. absurd (omega arith) };
          };
      marks = record { room = omega (arith, B.room); small = λ e b. absurd (omega arith) };
    }

module _ (ts : List ℕ) (m : ℕ) (S : ℕ → Bool) (P : Turns ts) (half : length ts ≡ 2 * m) where
  module _ (v : List ℕ) (B : Blank (3 * length ts) v) where
    module _ (pos : 0 < length ts) (w : List ℕ) (k : ℕ) (G : Gathered ts 0 v 0 w k) where
      abbrev all : ℕ
      all = length ts

      -- nothing is noted
      noted_none : (e : ℕ) → e < m → tree_at all w e ≡ 0
      noted_none e b = G.longer.kept.rest (2 * all + e) (omega arith) ∙ B.zero (2 * all + e) (omega arith)

      in_none : (e : ℕ) → e < m → tree_in all w e ≡ false
      in_none e b = ne_eqb (tree_at all w e) 1 (rw (noted_none e b) (omega arith))

      -- an end that is reached is of the first point
      first_point : (x : ℕ) → x < all → IsFlagged w x → least ts x ≡ least ts 0
      first_point x b f = elim (G.new x b f) [ inl g ↦ absurd (g (B.zero x (omega arith))) | inr e ↦ e ]

      linked : (ms : List ℕ) → length ms ≡ m → (s x : ℕ) → x < all → IsFlagged w x → Linked (lent ts ms s) (tree_in all w) 0 x
      unfolding ends borders turn
      linked ms sized s x b f =
          let two : all ≡ 2 * length ms = omega arith in
          cycle_linked (lent ts ms s) (tree_in all w) (turns_permute ts ms s P two) 0 x (rw two at pos)
          (low_same_cycle P 0 x pos b (sym (first_point x b f)))

      no_points : count (leading ts v) all ≡ 0
      no_points =
          count_none (leading ts v) all
          (λ x b. elim (true_or_false (leads all (next ts) x)) [
            | inl t ↦ rw (t, on_no v x (B.zero x (omega arith)))
            | inr f ↦ rw f
          ])

      pub search_start : Searching ts m S w w k 1 0
      search_start =
          record {
            reached =
                record {
                  queue = G.longer.queue;
                  room = omega (arith, B.room, G.longer.kept.same_length);
                  whole = G.whole;
                  origin = G.here;
                  linked = linked;
                  within = λ e b q. absurd (true_not_false (tree_in all w e) q (in_none e b));
                  both = λ h b q.
                      absurd (true_not_false (tree_in all w (border h)) q
                      (in_none (border h) (border_below m h (rw half at b))));
                  binary = λ e b. omega (arith, noted_none e b);
                  tree = omega (arith, count_none (tree_in all w) m in_none);
                  points =
                      omega (
                        arith,
                        no_points,
                        leading_more ts P v w 0 pos (blank_whole ts v B) G.whole (B.zero 0 (omega arith)) G.here G.longer.stays G.new,
                      );
                };
            behind = omega arith;
            kept = kept_none (3 * length ts) w;
            done = λ j b. absurd (omega arith);
          }

  -- ---- one end more
  module _ (v w : List ℕ) (k n i : ℕ) (X : Searching ts m S v w k n i) where
    pub search_reached : Reached ts m S w k n
    search_reached = X.reached

    pub search_kept : (old : List ℕ) (h q r : ℕ) → Gathered ts h old q v r → Kept (3 * length ts) old w
    search_kept old h q r G =
        kept_then (3 * length ts) old v w
        (record { same_length = G.longer.kept.same_length; rest = λ i b. G.longer.kept.rest i (omega arith) })
        X.kept

    module _ (l : i < k) where
      pub search_next : get_or w (length ts + i) 0 < length ts
      search_next = X.reached.queue.within i l

      pub search_flagged : IsFlagged w (get_or w (length ts + i) 0)
      search_flagged = X.reached.queue.flagged i l

      pub search_at : length ts + i < length w
      search_at = omega (arith, queue_few (length ts) w k X.reached.queue, X.reached.queue.room)

      pub search_more : (u : List ℕ) (r p : ℕ) → Crossed ts m S (get_or w (length ts + i) 0) w k u r p → Searching ts m S v u r p (i + 1)
      search_more u r p C =
          record {
            reached = C.reached;
            behind = omega (arith, C.more);
            kept = kept_then (3 * length ts) v w u X.kept C.kept;
            done = λ j b q.
                let same : queued (length ts) u j ≡ queued (length ts) w j = C.before j (omega (arith, X.behind)) in
                let q' : S (border (queued (length ts) w j)) ≡ true = rw same at q in
                rw same (elim (same_or_not j i) [
                  | inl e ↦ rw e (C.across (rw e at q'))
                  | inr d ↦
                      let b' : queued (length ts) w j < length ts = X.reached.queue.within j (omega arith) in
                      C.stays (other (queued (length ts) w j)) (omega (arith, other_below m (queued (length ts) w j) (omega arith)))
                      (X.done j (omega arith) q')
                ]);
          }

-- ---- the end
pub joins_within : (D : Drawing) (S T : ℕ → Bool) → Permutes (ends D) (turn D) → ((e : ℕ) → e < borders D → S e ≡ true → T e ≡ true)
    → Joins D S → Joins D T
joins_within D S T p f J = record { link = λ g h bg bh. linked_within D D S T p refl f g h bg (J.link g h bg bh) }

module _ (ts ms : List ℕ) (S : ℕ → Bool) (P : Turns ts) (half : length ts ≡ 2 * length ms)
    (v w : List ℕ) (k n i : ℕ) (X : Searching ts (length ms) S v w k n i) (over : k ≤ i) (pos : 0 < length ts) where
  abbrev every : ℕ
  every = length ts

  R : Reached ts (length ms) S w k n
  R = X.reached

  -- what is linked to end 0 is reached
  linked_reached : (s x : ℕ) → Linked (lent ts ms s) S 0 x → (x < every) × IsFlagged w x
  unfolding turn
  linked_reached s x here = (pos, R.origin)
  linked_reached s x (turned h L) =
      let r = linked_reached s h L in
      (P.below h r.0, R.whole.turned h r.0 r.1)
  linked_reached s x (across h t L) =
      let r = linked_reached s h L in
      let q = R.queue.found h r.0 r.1 in
      let at : queued every w q.0 ≡ h = q.2 in
      (rw half (other_below (length ms) h (rw half at r.0)), rw at at (X.done q.0 (omega (arith, q.1)) (rw at t)))

  module _ (s : ℕ) where
    abbrev D : Drawing
    D = lent ts ms s

    p : Permutes (ends D) (turn D)
    p = turns_permute ts ms s P half

    module _ (full : k ≡ length ts) where
      all_reached : (x : ℕ) → x < every → IsFlagged w x
      all_reached x b z = omega (arith, queue_room every w k x R.queue b z)

      tree_joins : Joins D (tree_in every w)
      unfolding ends borders
      tree_joins = joins_from D (tree_in every w) p (λ x b. let c : x < every = rw half b in R.linked ms refl s x c (all_reached x c))

      number_of_points : n ≡ cells D Kind.point
      unfolding ends borders turn cycles
      number_of_points =
          let same : count (leading ts w) every ≡ count (leads every (next ts)) every
          = count_same (leading ts w) (leads every (next ts)) every
          (λ x b. rw (on_yes w x (all_reached x b)) (and_true (leads every (next ts) x))) in
          let cycles_are : count (leads every (next ts)) every ≡ cycles (2 * length ms) (next ts) = rw half refl in
          omega (arith, R.points, same, cycles_are, points_are D (omega arith))

      marks_joined : SuggestedTree D (marks_in (length ts) (length ms) w)
      unfolding borders
      marks_joined =
          let marks : List ℕ = marks_in every (length ms) w in
          let mark : (e : ℕ) → e < length ms → get_or marks e 0 ≡ tree_at every w e = λ e b. table_get_d (tree_at every w) (length ms) e 0 b in
          let is : (e : ℕ) → e < length ms → marked marks e ≡ tree_in every w e = λ e b. ap (λ x. eqb x 1) (mark e b) in
          record {
            one_each = table_length (tree_at every w) (length ms);
            binary = λ e b. rw (mark e b) (R.binary e b);
            number = ap suc (count_same (marked marks) (tree_in every w) (length ms) is) ∙ sym R.tree ∙ number_of_points;
            join = joins_within D (tree_in every w) (marked marks) p (λ e b q. is e b ∙ q) tree_joins;
          }

    over_spread : Spread ts ms s S w k n
    unfolding ends borders
    over_spread =
        record {
          decides =
              record {
                sound = λ t. joins_within D (tree_in every w) S p R.within (tree_joins (eqb-true k every t));
                complete = λ J.
                    eq-eqb k every
                    (R.queue.size
                    ∙ count_all (is_on w) every
                    (λ x b. on_yes w x (linked_reached s x (J.link 0 x (rw half at pos) (rw half at b))).1));
              };
          points = number_of_points;
          tree = marks_joined;
          marks = record { room = omega (arith, R.room); small = R.binary };
        }

pub search_spread : (ts : List ℕ) (m : ℕ) (S : ℕ → Bool) → Turns ts → length ts ≡ 2 * m
    → (v w : List ℕ) (k n i : ℕ) → Searching ts m S v w k n i → k ≤ i → 0 < length ts
    → (ms : List ℕ) (s : ℕ) → length ts ≡ 2 * length ms → Spread ts ms s S w k n
search_spread ts m S P half v w k n i X over pos ms s two =
    let sized : m ≡ length ms = omega arith in
    over_spread ts ms S P two v w k n i (rw sized at X) over pos s
