-- What reading finds in the text (document 01, "Listing"), in the terms of the crate `text`.
--
-- field_means r       == the number that r stands for, with the rest of the text; none where r is missing
-- row_means r         == the line that r stands for, the same way
-- count_means r       == the number of borders that r stands for; refusal 17 where r is missing
-- digit_of c          == the digit that the byte c is, if it is one
-- read_digit s        == the digit that s begins with, and the rest of s
-- within most x      == the number read, if it is at most `most`
-- read_within most s  == the number that s begins with, if it is at most `most`
-- read_entries s      == what follows the number in a border's line: two entries and a mark
-- Assumes nothing.
use Rattle.std.specs.Prelude.{List, [], ◌∷◌, ℕ, ◌-◌, leb, Option as Maybe, Some, None}
use Rattle.std.proofs.Math.Option.{Option, none, some}
use Rattle.count.specs.Below.{pick}
use Rattle.answers.specs.Answer.{Answer, answer, refused}
use Rattle.text.specs.Decimal.{space, line_feed, zero_byte, is_digit, Read, read_number}
use Rattle.text.specs.Input.{with, read_field, Line}
use Rattle.reading.specs.declared.parts.Field.{Field}
use Rattle.reading.specs.declared.parts.Row.{Row}

abbrev pub field_means : Maybe Field → Option Read
field_means (Some f) = some (record { value = f.value; rest = f.rest.now })
field_means None = none

abbrev pub row_means : Maybe Row → Option Line
row_means (Some r) = some (record { first = r.first; second = r.second; mark = r.mark; rest = r.rest.now })
row_means None = none

abbrev pub count_means : Maybe ℕ → Answer ℕ
count_means (Some m) = answer m
count_means None = refused 17

abbrev pub digit_of : ℕ → Option ℕ
digit_of c = pick (is_digit c) (some (c - zero_byte)) none

unfoldable pub read_digit : List ℕ → Option Read
read_digit [] = none
read_digit (c ∷ s) = with (digit_of c) (λ d. some (record { value = d; rest = s }))

-- 01: "no number above 65,535, marks at most 255"
abbrev pub within : ℕ → Read → Option Read
within most x = pick (leb x.value most) (some x) none

unfoldable pub read_within : ℕ → List ℕ → Option Read
unfolding read_number
read_within most s = with (read_number s) (within most)

-- 01: "the entries of its even and odd end, its mark"
unfoldable pub read_entries : List ℕ → Option Line
unfolding read_field
read_entries s =
    with (read_field 65535 space s)
    (λ a. with (read_field 65535 space a.rest)
    (λ b. with (read_field 255 line_feed b.rest)
    (λ v. some (record { first = a.value; second = b.value; mark = v.value; rest = v.rest }))))
