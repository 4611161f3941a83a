-- The queue of ends: one end more.
--
-- on_yes, on_no, on_has == the test whether an end is flagged
-- queue_same       == lists with the same flags and the same queue
-- queue_none       == a blank list is an empty queue
-- queue_room       == an end that is not flagged has room in the queue
-- queue_few        == no more ends are queued than there are
-- longer_none, longer_one, longer_then == no end more; one that was not flagged; more ends, and more again
-- one_here, one_new == that end is flagged then, and no other is new
-- Assumes nothing.
use mathlib.Core.Path.{◌≡◌, refl, sym, ap, ◌∙◌}
use mathlib.Core.Logic.{◌≢◌, ◌⊎◌, inl, inr}
use mathlib.Core.Bool.{true, false, not}
use mathlib.Core.List.{List}
use Prim.Native.Nat.{ℕ, ◌+◌, ◌*◌, ◌^◌, ◌<◌, ◌≤◌}
use native.Mathlib.Omega.{arith}
use borrow.Author.Tests.{eq-eqb, ne_eqb}
use lib.Dec.{eqb}
use lib.ListN.{length, get_or, set, length-set}
use lib.Seq.{get_or-set_same, get_or-set_other}
use mir.Syntax.{w64}
use mir.Val.{Fits}
use Rattle.count.proofs.Logic.{same_or_not, true_not_false}
use Rattle.count.proofs.Below.{count_not, count_le, count_same, count_before, count_none, count_one_less}
use Rattle.lending.specs.Lists.{Blank}
use Rattle.lending.proofs.Kept.{kept_none, kept_set, kept_then}
use Rattle.reaching.specs.Queue.{IsFlagged, is_on, queued, Queued, Longer}

pub on_yes : (w : List ℕ) (x : ℕ) → IsFlagged w x → is_on w x ≡ true
on_yes w x f = rw (ne_eqb (get_or w x 0) 0 f)

pub on_no : (w : List ℕ) (x : ℕ) → get_or w x 0 ≡ 0 → is_on w x ≡ false
on_no w x z = rw (eq-eqb (get_or w x 0) 0 z)

pub on_has : (w : List ℕ) (x : ℕ) → is_on w x ≡ true → IsFlagged w x
on_has w x t z = true_not_false (is_on w x) t (on_no w x z)

pub queue_few : (ends : ℕ) (w : List ℕ) (k : ℕ) → Queued ends w k → k ≤ ends
queue_few ends w k Q = omega (arith, Q.size, count_le (is_on w) ends)

-- lists that have the same flags and the same queue
pub queue_same : (ends : ℕ) (w v : List ℕ) (k : ℕ) → length v ≡ length w → ((x : ℕ) → x < 2 * ends → get_or v x 0 ≡ get_or w x 0)
    → Queued ends w k → Queued ends v k
queue_same ends w v k n same Q =
    let few : k ≤ ends = queue_few ends w k Q in
    let at : (j : ℕ) → j < k → queued ends v j ≡ queued ends w j = λ j l. same (ends + j) (omega arith) in
    let flag : (x : ℕ) → x < ends → get_or v x 0 ≡ get_or w x 0 = λ x l. same x (omega arith) in
    record {
      room = omega (arith, Q.room);
      size = Q.size ∙ count_same (is_on w) (is_on v) ends (λ x l. ap (λ y. not (eqb y 0)) (sym (flag x l)));
      within = λ j l. rw (at j l) (Q.within j l);
      flagged = λ j l. rw (at j l, flag (queued ends w j) (Q.within j l)) (Q.flagged j l);
      found = λ x l f.
          let r = Q.found x l (rw (flag x l) at f) in
          (r.0, r.1, at r.0 r.1 ∙ r.2);
    }

pub queue_none : (ends : ℕ) (w : List ℕ) → Blank (3 * ends) w → Queued ends w 0
queue_none ends w B =
    record {
      room = omega (arith, B.room);
      size = sym (count_none (is_on w) ends (λ x l. on_no w x (B.zero x (omega arith))));
      within = λ j l. absurd (omega arith);
      flagged = λ j l. absurd (omega arith);
      found = λ x l f. absurd (f (B.zero x (omega arith)));
    }

pub queue_room : (ends : ℕ) (w : List ℕ) (k h : ℕ) → Queued ends w k → h < ends → get_or w h 0 ≡ 0 → k < ends
queue_room ends w k h Q l z =
    omega (arith, Q.size, count_not (is_on w) ends, count_before (λ x. not (is_on w x)) h ends l (rw (on_no w h z)))

-- ---- one end more
module _ (ends h : ℕ) (w : List ℕ) (k : ℕ) (l : h < ends) (Q : Queued ends w k) where
  module _ (z : get_or w h 0 ≡ 0) where
    space : k < ends
    space = queue_room ends w k h Q l z

    pub one_fits : ends + k < length w
    one_fits = omega (arith, space, Q.room)

    pub one_sum : length w < 2 ^ 64 → Fits w64 (ends + k)
    one_sum b = record { fits = omega (arith, one_fits) }

    pub one_tail : length w < 2 ^ 64 → Fits w64 (k + 1)
    one_tail b = record { fits = omega (arith, one_fits) }

    abbrev after : List ℕ
    after = set (set w h 1) (ends + k) h

    flag_here : get_or after h 0 ≡ 1
    flag_here =
        get_or-set_other (set w h 1) (ends + k) h h 0 (omega arith)
        ∙ get_or-set_same w h 1 0 (omega (arith, Q.room))

    flag_other : (x : ℕ) → x < ends → x ≢ h → get_or after x 0 ≡ get_or w x 0
    flag_other x b d = get_or-set_other (set w h 1) (ends + k) x h 0 (omega arith) ∙ get_or-set_other w h x 1 0 d

    place_here : queued ends after k ≡ h
    place_here = get_or-set_same (set w h 1) (ends + k) h 0 (omega (arith, length-set w h 1, one_fits))

    place_other : (j : ℕ) → j ≢ k → queued ends after j ≡ queued ends w j
    place_other j d = get_or-set_other (set w h 1) (ends + k) (ends + j) h 0 (omega arith) ∙ get_or-set_other w h (ends + j) 1 0 (omega arith)

    pub one_here : IsFlagged (set (set w h 1) (ends + k) h) h
    one_here = rw flag_here (omega arith)

    marked_stays : (x : ℕ) → x < ends → IsFlagged w x → IsFlagged after x
    marked_stays x b f =
        elim (same_or_not x h) [
          | inl e ↦ rw e one_here
          | inr d ↦ rw (flag_other x b d) f
        ]

    queue_more : Queued ends after (k + 1)
    queue_more =
        record {
          room = omega (arith, length-set (set w h 1) (ends + k) h, length-set w h 1, Q.room);
          size =
              omega (
                arith,
                Q.size,
                count_one_less (is_on after) (is_on w) ends h l (on_yes after h one_here) (on_no w h z)
                    (λ x b d. ap (λ y. not (eqb y 0)) (flag_other x b d)),
              );
          within = λ j b.
              elim (same_or_not j k) [
                | inl e ↦ rw (e, place_here) l
                | inr d ↦ rw (place_other j d) (Q.within j (omega arith))
              ];
          flagged = λ j b.
              elim (same_or_not j k) [
                | inl e ↦ rw (e, place_here) one_here
                | inr d ↦ rw (place_other j d) (marked_stays (queued ends w j) (Q.within j (omega arith)) (Q.flagged j (omega arith)))
              ];
          found = λ x b f.
              elim (same_or_not x h) [
                | inl e ↦ (k, omega arith, place_here ∙ sym e)
                | inr d ↦
                    let r = Q.found x b (rw (flag_other x b d) at f) in
                    let m : r.0 < k = r.1 in
                    (r.0, omega arith, place_other r.0 (omega arith) ∙ r.2)
              ];
        }

    pub longer_one : Longer ends w k (set (set w h 1) (ends + k) h) (k + 1)
    longer_one =
        record {
          queue = queue_more;
          more = omega arith;
          stays = marked_stays;
          before = λ j b. place_other j (omega arith);
          kept =
              kept_set (2 * ends) w (set w h 1) (ends + k) h (kept_set (2 * ends) w w h 1 (kept_none (2 * ends) w) (omega arith))
              (omega (arith, space));
        }

    pub one_new : (x : ℕ) → x < ends → IsFlagged (set (set w h 1) (ends + k) h) x → IsFlagged w x ⊎ (x ≡ h)
    one_new x b f = elim (same_or_not x h) [ inl e ↦ inr e | inr d ↦ inl (rw (flag_other x b d) at f) ]

pub longer_none : (ends : ℕ) (w : List ℕ) (k : ℕ) → Queued ends w k → Longer ends w k w k
longer_none ends w k Q =
    record { queue = Q; more = omega arith; stays = λ x b g. g; before = λ j b. refl; kept = kept_none (2 * ends) w }

pub longer_then : (ends : ℕ) (w : List ℕ) (k : ℕ) (v : List ℕ) (r : ℕ) (u : List ℕ) (q : ℕ)
    → Longer ends w k v r → Longer ends v r u q → Longer ends w k u q
longer_then ends w k v r u q L M =
    record {
      queue = M.queue;
      more = omega (arith, L.more, M.more);
      stays = λ x b f. M.stays x b (L.stays x b f);
      before = λ j b. M.before j (omega (arith, L.more)) ∙ L.before j b;
      kept = kept_then (2 * ends) w v u L.kept M.kept;
    }
