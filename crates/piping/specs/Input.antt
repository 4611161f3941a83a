-- What `read_input` answers, in the terms of the crate `text`.
--
-- got_of r  == how many bytes were read
-- next_of r == what the read after them answered, as `heard` takes it: 0 where the input was read to its end, else -1
-- Assumes nothing.
use Rattle.std.specs.Prelude.{ℕ, ℤ, pos, negsuc, Result, Ok, Err}
use Rattle.piping.specs.declared.streams.Cut.{Cut}

abbrev pub got_of : Result ℕ Cut → ℕ
got_of (Ok got) = got
got_of (Err cut) = cut.got

abbrev pub next_of : Result ℕ Cut → ℤ
next_of (Ok got) = pos 0
next_of (Err cut) = negsuc 0
