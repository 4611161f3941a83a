-- Counting the places of one point (area) over a run of letters (01, Moves: "Degree of a point and sides of an area").
--
-- Stand    == where a count stands: how many more brackets are open than at its start, how many letters stood where none more was, and
--             whether a closing at depth 0 has ended it
-- Stands r S == r tells where a count stands: how it goes on, or what it has found where it has ended
-- flat d w == w at depth 0, else 0
-- run P Q w p j d k == where the count stands after the w letters from position p on, from index j, depth d and k found: P says which
--             letters are of the family, Q which of its brackets open
-- Within v n p j == what is asked of a count: a family's bit, and numbers that fit a map
-- Ready v e p j d k == what is asked of a run from p to e: a family's bit, as many letters as are read at once, and numbers that fit a map
-- Assumes nothing.
use Rattle.std.specs.Prelude.{◌≡◌, Bool, true, false, ℕ, zero, suc, ◌+◌, ◌<◌, ◌≤◌, eqb}
use Rattle.count.specs.Below.{pick}
use Rattle.drawing.specs.Drawing.{most_ends}
use Rattle.bits.specs.Strings.{widest}
use Rattle.std.specs.declared.ops.ControlFlow.{ControlFlow}
use Rattle.std.specs.declared.ops.ControlFlow.TheVariants.{Continue, Break}
use Rattle.sizing.specs.declared.counts.Counted.{Counted}

pub record Stand : Type 0 where
  pub depth : ℕ
  pub found : ℕ
  pub left : Bool

abbrev pub Stands : ControlFlow ℕ Counted → Stand → Type 0
Stands (Continue c) S = record { depth = c.depth; found = c.found; left = false } ≡ S
Stands (Break k) S = (S.left ≡ true) × (k ≡ S.found)

abbrev pub flat : ℕ → ℕ → ℕ
flat d w = pick (eqb d 0) w 0

unfoldable pub run : (ℕ → Bool) → (ℕ → Bool) → ℕ → ℕ → ℕ → ℕ → ℕ → Stand
run P Q zero p j d k = record { depth = d; found = k; left = false }
run P Q (suc w) p j d k =
    elim (P p) [
      | true ↦
          elim (Q j) [
            | true ↦ run P Q w (p + 1) (j + 1) (d + 1) (k + flat d 1)
            | false ↦
                elim d [
                  | zero ↦ record { depth = 0; found = k + 1; left = true }
                  | suc e ↦ run P Q w (p + 1) (j + 1) e k
                ]
          ]
      | false ↦ run P Q w (p + 1) j d (k + flat d 1)
    ]

pub record Within (v n p j : ℕ) : Type 0 where
  pub family : v < 2
  pub from : p ≤ n
  pub few : n ≤ most_ends
  pub index_few : j ≤ p

pub record Ready (v e p j d k : ℕ) : Type 0 where
  pub family : v < 2
  pub from : p ≤ e
  pub short : e ≤ p + widest
  pub few : e ≤ most_ends
  pub index_few : j ≤ p
  pub depth_few : d ≤ j
  pub found_few : k ≤ p
