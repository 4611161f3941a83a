-- What holds of neighbours and sides (document 02, 3/14), of a map and of a drawing's book alike: one record for each theorem of
-- proofs/Neighbours.antt.
--
-- MapAcross s k j     == area j is across a side of area k, by the answers of the map s
-- BookAcross D k j    == the same in the book of the drawing D
-- NeighboursMutual    == what is across a side of the other, on every byte string and in every book
-- NeighbourCounts ..  == neighbour counts beside sides, of one account of a map with m borders and v areas
-- NeighboursSides     == that of every byte string that opens, and of the book of every drawing that packing accepts
-- Assumes nothing.
use Rattle.std.specs.Prelude.{◌≡◌, ◌↔◌, Bool, not, ◌&&◌, List, ℕ, suc, ◌≤◌, eqb}
use Rattle.count.specs.Below.{Decides, count}
use Rattle.answers.specs.Answer.{Answer, answer, number_of, Kind}
use Rattle.drawing.specs.Drawing.{Drawing, borders, ends, other, cells}
use Rattle.drawing.specs.Neighbours.{Across}
use Rattle.drawing.specs.Book.{number_at, book_size, book_neighbours}
use Rattle.format.specs.Bytes.{size_in}
use Rattle.format.specs.Open.{Opens}
use Rattle.format.specs.Calls.{cells_in, cross_of, area_of, size_of, neighbours_of}
use Rattle.format.specs.Pack.{pack_of}

-- 02, 3/14: "The area across a side is the area of its crossing." A side is a place of the area.
pub record MapAcross (s : List ℕ) (k j : ℕ) : Type 0 where
  pub place : ℕ
  pub beyond : ℕ
  pub here : area_of s place ≡ answer k
  pub crosses : cross_of s place ≡ answer beyond
  pub there : area_of s beyond ≡ answer j

-- the same of ends: the other end is on area j
abbrev pub BookAcross : Drawing → ℕ → ℕ → Type 0
BookAcross D k j = Across (number_at D Kind.area) other (ends D) k j

-- area j is across a side of k exactly if k is across a side of j
pub record NeighboursMutual : Type 0 where
  pub map : (s : List ℕ) (k j : ℕ) → MapAcross s k j ↔ MapAcross s j k
  pub book : (D : Drawing) (k j : ℕ) → BookAcross D k j ↔ BookAcross D j k

-- `counted`: 02, 3/14: "the number of other areas across at least one side", by whatever test tells them. `refused`: it is refused
-- where sides are, with the same number, and nowhere else. `most`: it is at most the sides. `none`: it is 0 exactly if all borders
-- of the area part nothing, having the area itself on both sides. `empty`: so it is on the empty map.
pub record NeighbourCounts (m v : ℕ) (across : ℕ → ℕ → Type 0) (neighbours sides : ℕ → Answer ℕ) : Type 0 where
  pub counted : (k c : ℕ) → neighbours k ≡ answer c → (t : ℕ → Bool) → ((j : ℕ) → Decides (t j) (across k j))
      → c ≡ count (λ i. not (eqb (suc i) k) && t (suc i)) v
  pub refused : (k : ℕ) → number_of (neighbours k) ≡ number_of (sides k)
  pub most : (k c d : ℕ) → neighbours k ≡ answer c → sides k ≡ answer d → c ≤ d
  pub none : (k c : ℕ) → neighbours k ≡ answer c → (c ≡ 0) ↔ ((j : ℕ) → across k j → j ≡ k)
  pub empty : m ≡ 0 → neighbours 1 ≡ answer 0

pub record NeighboursSides : Type 0 where
  pub map : (s : List ℕ) → Opens s
      → NeighbourCounts (size_in s).m (cells_in (size_in s) Kind.area) (MapAcross s) (neighbours_of s) (size_of s Kind.area)
  pub book : (D : Drawing) (work out : ℕ) (s : List ℕ) → pack_of D work out ≡ answer s
      → NeighbourCounts (borders D) (cells D Kind.area) (BookAcross D) (book_neighbours D) (book_size D Kind.area)
