-- Which brackets of a run find no partner in it: all that a scan that passes the run needs to know.
--
-- Unpaired         == how many close a bracket before the run, and how many are open after it
-- unpaired c k p   == of the k brackets from p on, where c says which close
-- closes_in x j     == whether bit j of the byte x is 1
-- entry_of x        == of the eight brackets of the byte x both numbers: 16 times the closings, and the openings
-- entries          == the entries of all bytes
-- Entry x r        == r is the entry of the byte x; both numbers are at most 8
-- Assumes nothing.
use Rattle.std.specs.Prelude.{◌≡◌, Bool, true, false, List, ℕ, zero, suc, ◌+◌, ◌-◌, ◌*◌, ◌/◌, ◌%◌, ◌^◌, ◌≤◌, eqb}
use Rattle.count.specs.Below.{table}

pub record Unpaired : Type 0 where
  pub closings : ℕ
  pub openings : ℕ

-- one bracket before the run: a closing finds no partner in it; an opening is closed by the first closing, or stays open
abbrev pub before : Bool → Unpaired → Unpaired
before true u = record { closings = suc u.closings; openings = u.openings }
before false u = record { closings = u.closings - 1; openings = u.openings + (1 - u.closings) }

unfoldable pub unpaired : (ℕ → Bool) → ℕ → ℕ → Unpaired
unpaired c zero p = record { closings = 0; openings = 0 }
unpaired c (suc k) p = before (c p) (unpaired c k (suc p))

abbrev pub closes_in : ℕ → ℕ → Bool
closes_in x j = eqb (x / 2 ^ j % 2) 1

abbrev pub in_byte : ℕ → Unpaired
in_byte x = unpaired (closes_in x) 8 0

unfoldable pub entry_of : ℕ → ℕ
unfolding unpaired
entry_of x = 16 * (in_byte x).closings + (in_byte x).openings

unfoldable pub entries : List ℕ
unfolding entry_of table
entries = table entry_of 256

pub record Entry (x r : ℕ) : Type 0 where
  pub upper : r / 16 ≡ (in_byte x).closings
  pub lower : r % 16 ≡ (in_byte x).openings
  pub few_close : r / 16 ≤ 8
  pub few_open : r % 16 ≤ 8
