-- One border looked across: nothing new is reached, or one point more.
--
-- allowed_has, allowed_past == a border that has a mark may be crossed if it is 1; one that has none may be crossed
-- crossed_out, crossed_old == nothing new: the border is not in the set, or leads to a point that was reached before
-- noted h w        == the working list with h's border noted
-- noted_queue, noted_whole == its flags and its queue are as they were
-- crossed_new      == one point more is reached
-- Assumes nothing.
use mathlib.Core.Path.{◌≡◌, refl, sym, ap, ◌∙◌}
use mathlib.Core.Logic.{◌≢◌, ◌⊎◌, inl, inr}
use mathlib.Core.Bool.{Bool, true, false, not}
use mathlib.Core.List.{List}
use Prim.Native.Nat.{ℕ, ◌+◌, ◌*◌, ◌/◌, ◌^◌, ◌<◌, ◌≤◌}
use native.Mathlib.Omega.{arith}
use borrow.Author.Tests.{eq-eqb, le-leb, lt-leb}
use lib.Dec.{eqb}
use lib.ListN.{length, get_or, set, length-set}
use lib.Seq.{get_or-set_same, get_or-set_other}
use mir.Syntax.{w64}
use mir.Val.{Fits}
use Rattle.count.specs.Below.{count}
use Rattle.count.proofs.Logic.{same_or_not, true_or_false, true_not_false}
use Rattle.count.proofs.Below.{count_le, count_one_less}
use Rattle.orbits.proofs.Low.{low_same_cycle}
use Rattle.drawing.specs.Drawing.{Drawing, borders, ends, border, other, marked, turn, lent}
use Rattle.drawing.specs.Checks.{Linked, across}
use Rattle.drawing.proofs.Ends.{other_below, other_border, border_below, border_two}
use Rattle.drawing.proofs.Labels.{linked_within, linked_trans, cycle_linked}
use Rattle.lending.proofs.Kept.{kept_none}
use Rattle.checking.specs.Lent.{next, Turns}
use Rattle.checking.proofs.Laws.{turns_permute}
use Rattle.checking.proofs.Decided.{passes, fails}
use Rattle.reaching.specs.Queue.{IsFlagged, Queued, least, Whole, Gathered}
use Rattle.reaching.specs.Reaching.{allowed, tree_at, tree_in, Reached, Crossed}
use Rattle.reaching.proofs.Queue.{queue_same, queue_few}
use Rattle.reaching.proofs.Points.{leading, leading_more}

module _ (ms : List ℕ) (e : ℕ) where
  pub allowed_has : e < length ms → marked ms e ≡ allowed ms e
  unfolding allowed
  allowed_has l = rw (lt-leb (length ms) e l) refl

  pub allowed_past : length ms ≤ e → true ≡ allowed ms e
  unfolding allowed
  allowed_past l = rw (le-leb (length ms) e l) refl

module _ (ts : List ℕ) (m : ℕ) (S : ℕ → Bool) (h : ℕ) (w : List ℕ) (k n : ℕ) (R : Reached ts m S w k n) where
  crossed_none : (S (border h) ≡ true → IsFlagged w (other h)) → Crossed ts m S h w k w k n
  crossed_none f =
      record {
        reached = R;
        across = f;
        more = omega arith;
        stays = λ x b g. g;
        before = λ j b. refl;
        kept = kept_none (3 * length ts) w;
      }

  -- a border that is not in the set, and one to a point that was reached before
  pub crossed_out : (t : Bool) → t ≡ S (h / 2) → not t ≡ true → Crossed ts m S h w k w k n
  unfolding border
  crossed_out t e q = crossed_none (λ y. absurd (true_not_false (S (h / 2)) y (fails t (S (h / 2)) e q)))

  pub crossed_old : (o : ℕ) → o ≡ other h → (get_or w o 0 ≡ 0 → ⊥) → Crossed ts m S h w k w k n
  crossed_old o e f = crossed_none (λ y. rw e at f)

  module _ (P : Turns ts) (half : length ts ≡ 2 * m) (l : h < length ts) where
    cross_border : border h < m
    cross_border = border_below m h (rw half at l)

    pub cross_beyond : (o : ℕ) → o ≡ other h → o < length ts
    cross_beyond o e = rw (e, half) (other_below m h (rw half at l))

    pub cross_in : (o : ℕ) → o ≡ other h → o < length w
    cross_in o e = omega (arith, cross_beyond o e, R.room)

    pub cross_entry : 2 * length ts + border h < length w
    cross_entry = omega (arith, cross_border, R.room)

    abbrev noted : List ℕ
    noted = set w (2 * length ts + border h) 1

    noted_front : (x : ℕ) → x < 2 * length ts → get_or noted x 0 ≡ get_or w x 0
    noted_front x b = get_or-set_other w (2 * length ts + border h) x 1 0 (omega arith)

    pub noted_queue : Queued (length ts) (set w (2 * length ts + border h) 1) k
    noted_queue = queue_same (length ts) w noted k (length-set w (2 * length ts + border h) 1) noted_front R.queue

    pub noted_whole : Whole ts (set w (2 * length ts + border h) 1)
    noted_whole =
        record {
          turned = λ x b f.
              let bn : next ts x < length ts = P.below x b in
              rw (noted_front (next ts x) (omega arith)) (R.whole.turned x b (rw (noted_front x (omega arith)) at f));
        }

    pub cross_length : (o : ℕ) (v : List ℕ) (r : ℕ) → Gathered ts o (set w (2 * length ts + border h) 1) k v r → length v ≡ length w
    cross_length o v r G = G.longer.kept.same_length ∙ length-set w (2 * length ts + border h) 1

    -- points that are reached are no more than ends
    pub cross_points : length w < 2 ^ 64 → Fits w64 (n + 1)
    cross_points b = record { fits = omega (arith, R.points, count_le (leading ts w) (length ts), R.room) }

    module _ (f : IsFlagged w h) (c : Bool) (may : c ≡ S (h / 2)) (does : not c ≡ false) (o : ℕ) (is : o ≡ other h) (z : get_or w o 0 ≡ 0)
        (v : List ℕ) (r : ℕ) (G : Gathered ts o (set w (2 * length ts + border h) 1) k v r) where
      abbrev all : ℕ
      all = length ts

      inside : S (border h) ≡ true
      unfolding border
      inside = passes c (S (h / 2)) may does

      bo : o < all
      bo = cross_beyond o is

      -- what is kept of w
      stays : (x : ℕ) → x < all → IsFlagged w x → IsFlagged v x
      stays x b g = G.longer.stays x b (rw (noted_front x (omega arith)) g)

      new : (x : ℕ) → x < all → IsFlagged v x → IsFlagged w x ⊎ (least ts x ≡ least ts o)
      new x b g = elim (G.new x b g) [ inl i ↦ inl (rw (noted_front x (omega arith)) at i) | inr e ↦ inr e ]

      -- the borders noted: h's, and those that were
      tree_here : tree_at all v (border h) ≡ 1
      tree_here =
          G.longer.kept.rest (2 * all + border h) (omega arith) ∙ get_or-set_same w (2 * all + border h) 1 0 cross_entry

      tree_other : (e : ℕ) → e ≢ border h → tree_at all v e ≡ tree_at all w e
      tree_other e d =
          G.longer.kept.rest (2 * all + e) (omega arith)
          ∙ get_or-set_other w (2 * all + border h) (2 * all + e) 1 0 (omega arith)

      in_here : tree_in all v (border h) ≡ true
      in_here = eq-eqb (tree_at all v (border h)) 1 tree_here

      in_other : (e : ℕ) → e ≢ border h → tree_in all v e ≡ tree_in all w e
      in_other e d = ap (λ x. eqb x 1) (tree_other e d)

      in_more : (e : ℕ) → tree_in all w e ≡ true → tree_in all v e ≡ true
      in_more e q = elim (same_or_not e (border h)) [ inl s ↦ rw s in_here | inr d ↦ in_other e d ∙ q ]

      -- it was not noted before, since its other end was not reached
      in_none : tree_in all w (border h) ≡ false
      in_none =
          elim (true_or_false (tree_in all w (border h))) [
            | inl q ↦ absurd (R.both o bo (ap (tree_in all w) (ap border is ∙ other_border h) ∙ q) z)
            | inr q ↦ q
          ]

      linked : (ms : List ℕ) → length ms ≡ m → (s x : ℕ) → x < all → IsFlagged v x → Linked (lent ts ms s) (tree_in all v) 0 x
      unfolding ends borders turn
      linked ms sized s x b g =
          let D : Drawing = lent ts ms s in
          let two : all ≡ 2 * length ms = omega arith in
          let p = turns_permute ts ms s P two in
          let b0 : 0 < 2 * length ms = omega arith in
          let old : (y : ℕ) → y < all → IsFlagged w y → Linked D (tree_in all v) 0 y
          = λ y by fy. linked_within D D (tree_in all w) (tree_in all v) p refl (λ e l q. in_more e q) 0 y b0 (R.linked ms sized s y by fy) in
          elim (new x b g) [
            | inl i ↦ old x b i
            | inr e ↦
                let there : Linked D (tree_in all v) 0 (other h) = across h in_here (old h l f) in
                linked_trans D (tree_in all v) p 0 o x (rw is there)
                (cycle_linked D (tree_in all v) p o x (rw two at bo) (low_same_cycle P o x bo b (sym e)))
          ]

      both_ends : (g : ℕ) → g < all → tree_in all v (border g) ≡ true → IsFlagged v g
      both_ends g b q =
          elim (same_or_not (border g) (border h)) [
            | inl s ↦
                elim (border_two g h s) [
                  | inl e ↦ rw e (stays h l f)
                  | inr e ↦ rw (e ∙ sym is) G.here
                ]
            | inr d ↦ stays g b (R.both g b (sym (in_other (border g) d) ∙ q))
          ]

      binary : (e : ℕ) → e < m → tree_at all v e ≤ 1
      binary e b =
          elim (same_or_not e (border h)) [
            | inl s ↦ rw (s, tree_here) (omega arith)
            | inr d ↦ rw (tree_other e d) (R.binary e b)
          ]

      one_more : count (tree_in all w) m + 1 ≡ count (tree_in all v) m
      one_more =
          count_one_less (tree_in all v) (tree_in all w) m (border h) cross_border in_here in_none (λ e b d. in_other e d)

      reached : Reached ts m S v r (n + 1)
      reached =
          record {
            queue = G.longer.queue;
            room = omega (arith, R.room, G.longer.kept.same_length, length-set w (2 * all + border h) 1);
            whole = G.whole;
            origin = stays 0 (omega arith) R.origin;
            linked = linked;
            within = λ e b q.
                elim (same_or_not e (border h)) [ inl s ↦ rw s inside | inr d ↦ R.within e b (sym (in_other e d) ∙ q) ];
            both = both_ends;
            binary = binary;
            tree = omega (arith, R.tree, one_more);
            points = omega (arith, R.points, leading_more ts P w v o bo R.whole G.whole z G.here stays new);
          }

      pub crossed_new : Crossed ts m S h w k v r (n + 1)
      crossed_new =
          record {
            reached = reached;
            across = λ q. rw is at G.here;
            more = G.longer.more;
            stays = stays;
            before = λ j b. G.longer.before j b ∙ noted_front (all + j) (omega (arith, queue_few all w k R.queue));
            kept =
                record {
                  same_length = G.longer.kept.same_length ∙ length-set w (2 * all + border h) 1;
                  rest = λ i b.
                      G.longer.kept.rest i (omega arith)
                      ∙ get_or-set_other w (2 * all + border h) i 1 0 (omega (arith, cross_border));
                };
          }
