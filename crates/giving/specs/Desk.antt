-- What packing returns to a C host, by the case of its answer: definitions of the code's own. What is promised of it is in the
-- crate `format`, specs/Packs.
--
-- returned p       == what is returned for the case p
-- Small p          == the numbers of the case p fit: a length its slot, two borders their bits
-- Assumes nothing.
use Rattle.std.specs.Prelude.{ℕ, ◌+◌, ◌*◌, ◌<◌, Result, Ok, Err}
use Rattle.answers.specs.Means.{number}
use Rattle.answers.specs.declared.refusal.Refusal.{Refusal}

abbrev pub returned : Result ℕ Refusal → ℕ
returned (Ok l) = 0
returned (Err (Refusal.Crossing a b)) = 7 + 256 * a + 1048576 * b
returned (Err e) = number e

abbrev pub Small : Result ℕ Refusal → Type 0
Small (Ok l) = l < 65536
Small (Err (Refusal.Crossing a b)) = (a < 4096) × (b < 4096)
Small (Err e) = Unit {0}
