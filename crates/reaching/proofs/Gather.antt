-- The ends of one point, flagged and queued one after the other.
--
-- Gathering ts h w k at v r == from w and the end h the walk has come to `at`, and v queues r ends
-- gathering_..     == from one end to the next, and when it is back
-- Assumes nothing.
use mathlib.Core.Path.{◌≡◌, refl, ap, ◌∙◌}
use mathlib.Core.Logic.{◌⊎◌, inl, inr}
use mathlib.Core.List.{List}
use Prim.Native.Nat.{ℕ, ◌+◌, ◌-◌, ◌^◌, ◌<◌}
use native.Mathlib.Omega.{arith}
use lib.ListN.{length, get_or, set, length-set}
use mir.Syntax.{w64}
use mir.Val.{Fits}
use Rattle.orbits.proofs.Low.{low_step}
use Rattle.checking.specs.Lent.{next, Turns}
use Rattle.reaching.specs.Queue.{IsFlagged, Queued, Longer, least, Whole, Gathered}
use Rattle.reaching.proofs.Queue.{queue_room, one_fits, one_sum, one_tail, longer_none, longer_one, longer_then, one_here, one_new}

pub record Gathering (ts : List ℕ) (h : ℕ) (w : List ℕ) (k at : ℕ) (v : List ℕ) (r : ℕ) : Type 0 where
  pub from_end : h < length ts
  pub at_end : at < length ts
  pub on_point : least ts at ≡ least ts h
  pub longer : Longer (length ts) w k v r
  pub turned : (x : ℕ) → x < length ts → IsFlagged v x → IsFlagged v (next ts x) ⊎ (next ts x ≡ at)
  pub first : IsFlagged v h ⊎ (h ≡ at)
  pub new : (x : ℕ) → x < length ts → IsFlagged v x → IsFlagged w x ⊎ (least ts x ≡ least ts h)

module _ (ts : List ℕ) (h : ℕ) (w : List ℕ) (k : ℕ) where
  pub gathering_start : h < length ts → Queued (length ts) w k → Whole ts w → Gathering ts h w k h w k
  gathering_start l Q W =
      record {
        from_end = l;
        at_end = l;
        on_point = refl;
        longer = longer_none (length ts) w k Q;
        turned = λ x b f. inl (W.turned x b f);
        first = inr refl;
        new = λ x b f. inl f;
      }

  module _ (at : ℕ) (v : List ℕ) (r : ℕ) (G : Gathering ts h w k at v r) where
    pub gathering_end : at < length ts
    gathering_end = G.at_end

    pub gathering_in : at < length v
    gathering_in = omega (arith, G.at_end, G.longer.queue.room)

    pub gathering_length : length v ≡ length w
    gathering_length = G.longer.kept.same_length

    module _ (z : get_or v at 0 ≡ 0) where
      pub gathering_fits : length ts + r < length v
      gathering_fits = one_fits (length ts) at v r G.at_end G.longer.queue z

      pub gathering_put : length ts + r < length (set v at 1)
      gathering_put = rw (length-set v at 1) gathering_fits

      pub gathering_sum : length v < 2 ^ 64 → Fits w64 (length ts + r)
      gathering_sum = one_sum (length ts) at v r G.at_end G.longer.queue z

      pub gathering_tail : length v < 2 ^ 64 → Fits w64 (r + 1)
      gathering_tail = one_tail (length ts) at v r G.at_end G.longer.queue z

      pub gathering_less : length ts - (r + 1) < length ts - r
      gathering_less = omega (arith, queue_room (length ts) v r at G.longer.queue G.at_end z)

      pub gathering_more : Turns ts → Gathering ts h w k (next ts at) (set (set v at 1) (length ts + r) at) (r + 1)
      gathering_more P =
          let all : ℕ = length ts in
          let Q : Queued all v r = G.longer.queue in
          let one : Longer all v r (set (set v at 1) (all + r) at) (r + 1) = longer_one all at v r G.at_end Q z in
          let here : IsFlagged (set (set v at 1) (all + r) at) at = one_here all at v r G.at_end Q z in
          -- a flag stays, and `at` has one
          let on : (x : ℕ) → x < all → IsFlagged v x ⊎ (x ≡ at) → IsFlagged (set (set v at 1) (all + r) at) x
          = λ x b. elim [ inl f ↦ one.stays x b f | inr e ↦ rw e here ] in
          record {
            from_end = G.from_end;
            at_end = P.below at G.at_end;
            on_point = low_step P at G.at_end ∙ G.on_point;
            longer = longer_then all w k v r (set (set v at 1) (all + r) at) (r + 1) G.longer one;
            turned = λ x b f.
                elim (one_new all at v r G.at_end Q z x b f) [
                  | inl g ↦ inl (on (next ts x) (P.below x b) (G.turned x b g))
                  | inr e ↦ inr (ap (next ts) e)
                ];
            first =
                inl (elim G.first [
                  | inl f ↦ one.stays h G.from_end f
                  | inr e ↦ rw e here
                ]);
            new = λ x b f.
                elim (one_new all at v r G.at_end Q z x b f) [
                  | inl g ↦ G.new x b g
                  | inr e ↦ inr (ap (least ts) e ∙ G.on_point)
                ];
          }

    pub gathering_back : (get_or v at 0 ≡ 0 → ⊥) → Gathered ts h w k v r
    gathering_back f =
        record {
          longer = G.longer;
          whole = record { turned = λ x b g. elim (G.turned x b g) [ inl t ↦ t | inr e ↦ rw e f ] };
          here = elim G.first [ inl t ↦ t | inr e ↦ rw e f ];
          new = G.new;
        }
