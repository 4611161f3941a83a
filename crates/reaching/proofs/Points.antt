-- Points and their least ends: a point that is flagged is flagged whole.
--
-- whole_on         == with one end of a point all are flagged
-- whole_off        == with one that is not, none is
-- leading w        == the test whether an end is the least of its point, and flagged
-- leading_more     == one point more is flagged: one more such end
-- Assumes nothing.
use mathlib.Core.Path.{◌≡◌, sym, ◌∙◌}
use mathlib.Core.Logic.{◌⊎◌, inl, inr}
use mathlib.Core.Bool.{Bool, true, ◌&&◌}
use mathlib.Core.List.{List}
use Prim.Native.Nat.{ℕ, ◌+◌, ◌<◌}
use lib.ListN.{length, get_or}
use Rattle.count.specs.Below.{count}
use Rattle.count.proofs.Logic.{same_or_not, true_or_false, both, both_left, both_right, bool_same}
use Rattle.count.proofs.Below.{count_one_less}
use Rattle.orbits.specs.Cycles.{leads}
use Rattle.orbits.proofs.Same.{same_cycle_induct}
use Rattle.orbits.proofs.Low.{low_below, low_low, low_same_cycle, leads_is, leads_low}
use Rattle.checking.specs.Lent.{next, Turns}
use Rattle.reaching.specs.Queue.{IsFlagged, is_on, least, Whole}
use Rattle.reaching.proofs.Queue.{on_yes, on_has}

abbrev pub leading : List ℕ → List ℕ → ℕ → Bool
leading ts w x = leads (length ts) (next ts) x && is_on w x

module _ (ts : List ℕ) (P : Turns ts) where
  pub whole_on : (w : List ℕ) → Whole ts w → (x y : ℕ) → x < length ts → y < length ts → least ts x ≡ least ts y → IsFlagged w x → IsFlagged w y
  whole_on w W x y bx by e f = same_cycle_induct P (IsFlagged w) x y W.turned bx f (low_same_cycle P x y bx by e)

  pub whole_off : (w : List ℕ) → Whole ts w → (x y : ℕ) → x < length ts → y < length ts → least ts x ≡ least ts y → get_or w x 0 ≡ 0 → get_or w y 0 ≡ 0
  whole_off w W x y bx by e z =
      elim (same_or_not (get_or w y 0) 0) [ inl q ↦ q | inr f ↦ absurd (whole_on w W y x by bx (sym e) f z) ]

  -- v has the ends of o's point beside those that w has
  pub leading_more : (w v : List ℕ) (o : ℕ) → o < length ts → Whole ts w → Whole ts v → get_or w o 0 ≡ 0 → IsFlagged v o
      → ((x : ℕ) → x < length ts → IsFlagged w x → IsFlagged v x)
      → ((x : ℕ) → x < length ts → IsFlagged v x → IsFlagged w x ⊎ (least ts x ≡ least ts o))
      → count (leading ts w) (length ts) + 1 ≡ count (leading ts v) (length ts)
  leading_more w v o b W U z f stays new =
      let all : ℕ = length ts in
      let l : ℕ = least ts o in
      let bl : l < all = low_below all (next ts) o b in
      let same : least ts o ≡ least ts l = sym (low_low P o b) in
      let lead : ℕ → Bool = leads all (next ts) in
      count_one_less (leading ts v) (leading ts w) all l bl
      (both (lead l) (is_on v l) (leads_low P o b) (on_yes v l (whole_on v U o l b bl same f)))
      (elim (true_or_false (leading ts w l)) [
        | inl t ↦ absurd (on_has w l (both_right (lead l) (is_on w l) t) (whole_off w W o l b bl same z))
        | inr n ↦ n
      ])
      (λ x bx d.
      bool_same (leading ts v x) (leading ts w x)
      (λ t.
      let t1 : lead x ≡ true = both_left (lead x) (is_on v x) t in
      elim (new x bx (on_has v x (both_right (lead x) (is_on v x) t))) [
        | inl g ↦ both (lead x) (is_on w x) t1 (on_yes w x g)
        | inr e ↦ absurd (d (sym (leads_is all (next ts) x t1) ∙ e))
      ])
      (λ t.
      both (lead x) (is_on v x) (both_left (lead x) (is_on w x) t) (on_yes v x (stays x bx (on_has w x (both_right (lead x) (is_on w x) t))))))
