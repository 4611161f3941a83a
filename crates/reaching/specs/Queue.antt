-- A queue of ends in the working list: its first ends entries flag the ends that were queued, the next ends are the queue.
--
-- IsFlagged w x            == end x is flagged
-- is_on w x                 == the test whether it is
-- queued ends w j          == the end at place j of the queue
-- Queued ends w k          == the queue's first k places hold the flagged ends, each once
-- Longer ends w k v r      == v is w with more ends queued, and r is the queue's length then
-- least ts h               == the least end of h's point
-- Whole ts w               == of each point all ends are flagged, or none
-- Gathered ts h w k v r    == v is w with the ends of h's point queued, and no others
-- Assumes nothing.
use Rattle.std.specs.Prelude.{◌≡◌, ◌≢◌, ◌⊎◌, Bool, not, List, ℕ, ◌+◌, ◌*◌, ◌<◌, ◌≤◌, length, get_or, eqb}
use Rattle.count.specs.Below.{count}
use Rattle.orbits.specs.Cycles.{low}
use Rattle.lending.specs.Lists.{Kept}
use Rattle.checking.specs.Lent.{next}

abbrev pub IsFlagged : List ℕ → ℕ → Type 0
IsFlagged w x = get_or w x 0 ≢ 0

abbrev pub is_on : List ℕ → ℕ → Bool
is_on w x = not (eqb (get_or w x 0) 0)

abbrev pub queued : ℕ → List ℕ → ℕ → ℕ
queued ends w j = get_or w (ends + j) 0

pub record Queued (ends : ℕ) (w : List ℕ) (k : ℕ) : Type 0 where
  pub room : 2 * ends ≤ length w
  pub size : k ≡ count (is_on w) ends
  pub within : (j : ℕ) → j < k → queued ends w j < ends
  pub flagged : (j : ℕ) → j < k → IsFlagged w (queued ends w j)
  pub found : (x : ℕ) → x < ends → IsFlagged w x → (j : ℕ) × (j < k) × (queued ends w j ≡ x)

pub record Longer (ends : ℕ) (w : List ℕ) (k : ℕ) (v : List ℕ) (r : ℕ) : Type 0 where
  pub queue : Queued ends v r
  pub more : k ≤ r
  pub stays : (x : ℕ) → x < ends → IsFlagged w x → IsFlagged v x
  pub before : (j : ℕ) → j < k → queued ends v j ≡ queued ends w j
  pub kept : Kept (2 * ends) w v

abbrev pub least : List ℕ → ℕ → ℕ
least ts h = low (length ts) (next ts) h

pub record Whole (ts w : List ℕ) : Type 0 where
  pub turned : (x : ℕ) → x < length ts → IsFlagged w x → IsFlagged w (next ts x)

pub record Gathered (ts : List ℕ) (h : ℕ) (w : List ℕ) (k : ℕ) (v : List ℕ) (r : ℕ) : Type 0 where
  pub longer : Longer (length ts) w k v r
  pub whole : Whole ts v
  pub here : IsFlagged v h
  pub new : (x : ℕ) → x < length ts → IsFlagged v x → IsFlagged w x ⊎ (least ts x ≡ least ts h)
