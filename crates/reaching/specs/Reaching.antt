-- The search from end 0 over a set of borders: what the working list holds on the way, and what is found.
--
-- allowed ms        == the set of borders that may be crossed: those marked in ms, and those that ms has no mark for
-- borders_of ts      == m, by the turning list: half its length
-- tree_at ends w e   == the working list's entry of border e, in its last third: 1 if a point was first reached across it
-- tree_in ends w     == the set of these borders
-- marks_in ends m w  == the same as marks
-- Reached ts m S w k n == k ends of n points are reached, and queued; across the borders of `tree_in` one comes to all of them
-- Crossed ts m S h w k v r n == so it is with v, r and n after the border of end h was looked at in w, where k ends were queued
-- Spread ts ms s S w k n == the search is over: k is 2m exactly if S joins all points, and then n points and a tree are found
-- MarksAt w from m  == m marks stand in w, from an entry on
-- NotesTree D t w   == t tells whether D is connected, and if it is, the marks in w are those of a tree
-- FindsTree D t ms  == t tells whether D is connected, and the marks ms are left: those of a tree, or else those that D had
-- Assumes nothing.
use Rattle.std.specs.Prelude.{◌≡◌, Bool, true, false, ◌&&◌, ◌||◌, List, ℕ, suc, ◌+◌, ◌*◌, ◌/◌, ◌<◌, ◌≤◌, length, get_or, eqb, leb}
use Rattle.count.specs.Below.{Decides, count, table}
use Rattle.answers.specs.Answer.{Kind}
use Rattle.orbits.specs.Cycles.{leads}
use Rattle.drawing.specs.Drawing.{Drawing, border, other, marked, cells, lent}
use Rattle.drawing.specs.Checks.{Linked, Joins, connected}
use Rattle.drawing.specs.Tree.{SuggestedTree}
use Rattle.lending.specs.Lists.{Kept}
use Rattle.checking.specs.Lent.{next}
use Rattle.reaching.specs.Queue.{IsFlagged, is_on, queued, Queued, Whole}

-- so an empty list allows all of them
unfoldable pub allowed : List ℕ → ℕ → Bool
allowed ms e = leb (length ms) e || marked ms e

abbrev pub borders_of : List ℕ → ℕ
borders_of ts = length ts / 2

abbrev pub tree_at : ℕ → List ℕ → ℕ → ℕ
tree_at ends w e = get_or w (2 * ends + e) 0

abbrev pub tree_in : ℕ → List ℕ → ℕ → Bool
tree_in ends w e = eqb (tree_at ends w e) 1

abbrev pub marks_in : ℕ → ℕ → List ℕ → List ℕ
marks_in ends m w = table (tree_at ends w) m

pub record Reached (ts : List ℕ) (m : ℕ) (S : ℕ → Bool) (w : List ℕ) (k n : ℕ) : Type 0 where
  pub queue : Queued (length ts) w k
  pub room : 3 * length ts ≤ length w
  pub whole : Whole ts w
  pub origin : IsFlagged w 0
  pub linked : (ms : List ℕ) → length ms ≡ m → (s x : ℕ) → x < length ts → IsFlagged w x → Linked (lent ts ms s) (tree_in (length ts) w) 0 x
  pub within : (e : ℕ) → e < m → tree_in (length ts) w e ≡ true → S e ≡ true
  pub both : (h : ℕ) → h < length ts → tree_in (length ts) w (border h) ≡ true → IsFlagged w h
  pub binary : (e : ℕ) → e < m → tree_at (length ts) w e ≤ 1
  pub tree : n ≡ suc (count (tree_in (length ts) w) m)
  pub points : n ≡ count (λ x. leads (length ts) (next ts) x && is_on w x) (length ts)

pub record Crossed (ts : List ℕ) (m : ℕ) (S : ℕ → Bool) (h : ℕ) (w : List ℕ) (k : ℕ) (v : List ℕ) (r n : ℕ) : Type 0 where
  pub reached : Reached ts m S v r n
  pub across : S (border h) ≡ true → IsFlagged v (other h)
  pub more : k ≤ r
  pub stays : (x : ℕ) → x < length ts → IsFlagged w x → IsFlagged v x
  pub before : (j : ℕ) → j < k → queued (length ts) v j ≡ queued (length ts) w j
  pub kept : Kept (3 * length ts) w v

pub record MarksAt (w : List ℕ) (from m : ℕ) : Type 0 where
  pub room : from + m ≤ length w
  pub small : (e : ℕ) → e < m → get_or w (from + e) 0 ≤ 1

pub record Spread (ts ms : List ℕ) (s : ℕ) (S : ℕ → Bool) (w : List ℕ) (k n : ℕ) : Type 0 where
  pub decides : Decides (eqb k (length ts)) (Joins (lent ts ms s) S)
  pub points : k ≡ length ts → n ≡ cells (lent ts ms s) Kind.point
  pub tree : k ≡ length ts → SuggestedTree (lent ts ms s) (marks_in (length ts) (length ms) w)
  pub marks : MarksAt w (2 * length ts) (length ms)

-- 02, 7/14: "The marks lent are overwritten and not read." The contract of `note_tree` says this of one t and one w, whatever marks D has.
pub record NotesTree (D : Drawing) (t : Bool) (w : List ℕ) : Type 0 where
  pub tells : t ≡ connected D
  pub suggested : t ≡ true → SuggestedTree D (marks_in (length D.turning) (length D.marks) w)
  pub marks : MarksAt w (2 * length D.turning) (length D.marks)

-- 21: "when some two points have no path of borders"; "marks are then unchanged"
pub record FindsTree (D : Drawing) (t : Bool) (ms : List ℕ) : Type 0 where
  pub tells : t ≡ connected D
  pub suggested : t ≡ true → SuggestedTree D ms
  pub unchanged : t ≡ false → ms ≡ D.marks
