-- The lines of the text: what its fields decide.
--
-- field_small          == a field that was read is within its limit
-- entries_first, entries_second, entries_mark, entries_all == the entries and the mark of a line: one is missing, or none
-- line_missing, line_other, line_on == the number of a line: it is missing, another one, or the border's own
-- Assumes nothing.
use mathlib.Core.Path.{◌≡◌, refl, sym, ◌∙◌, ap}
use mathlib.Core.List.{List}
use mathlib.Core.Option.{Option, none, some}
use Prim.Native.Nat.{ℕ, ◌≤◌}
use borrow.Author.Tests.{eq-eqb, ne_eqb}
use lib.Dec.{eqb}
use Rattle.count.specs.Below.{pick}
use Rattle.text.specs.Decimal.{space, line_feed, Read}
use Rattle.text.specs.Input.{with, read_field, Line, read_line}
use Rattle.text.proofs.Lines.{field_read}
use Rattle.reading.specs.Found.{read_entries}

pub field_small : (t : List ℕ) (most end : ℕ) (r : Read) → some r ≡ read_field most end t → r.value ≤ most
field_small t most end r e = (field_read most end t r (sym e)).small

-- ---- what follows the number of a line

marked : ℕ → ℕ → Read → Option Line
marked a b v = some (record { first = a; second = b; mark = v.value; rest = v.rest })

after_second : ℕ → Read → Option Line
after_second a b = with (read_field 255 line_feed b.rest) (marked a b.value)

after_first : Read → Option Line
after_first a = with (read_field 65535 space a.rest) (after_second a.value)

entries_are : (s : List ℕ) → read_entries s ≡ with (read_field 65535 space s) after_first
unfolding read_entries after_first after_second marked
entries_are s = refl

module _ (s : List ℕ) where
  pub entries_first : none ≡ read_field 65535 space s → none ≡ read_entries s
  entries_first e = sym (entries_are s ∙ ap (λ o. with o after_first) (sym e))

  module _ (a : Read) (ea : some a ≡ read_field 65535 space s) where
    on_first : read_entries s ≡ with (read_field 65535 space a.rest) (after_second a.value)
    unfolding after_first
    on_first = entries_are s ∙ ap (λ o. with o after_first) (sym ea)

    pub entries_second : none ≡ read_field 65535 space a.rest → none ≡ read_entries s
    entries_second e = sym (on_first ∙ ap (λ o. with o (after_second a.value)) (sym e))

    module _ (b : Read) (eb : some b ≡ read_field 65535 space a.rest) where
      on_second : read_entries s ≡ with (read_field 255 line_feed b.rest) (marked a.value b.value)
      unfolding after_second
      on_second = on_first ∙ ap (λ o. with o (after_second a.value)) (sym eb)

      pub entries_mark : none ≡ read_field 255 line_feed b.rest → none ≡ read_entries s
      entries_mark e = sym (on_second ∙ ap (λ o. with o (marked a.value b.value)) (sym e))

      pub entries_all : (v : Read) → some v ≡ read_field 255 line_feed b.rest
          → some (record { first = a.value; second = b.value; mark = v.value; rest = v.rest }) ≡ read_entries s
      unfolding marked
      entries_all v e = sym (on_second ∙ ap (λ o. with o (marked a.value b.value)) (sym e))

-- ---- a line

numbered : ℕ → Read → Option Line
numbered e n = pick (eqb n.value e) (read_entries n.rest) none

line_is : (e : ℕ) (s : List ℕ) → read_line e s ≡ with (read_field 65535 space s) (numbered e)
unfolding read_line numbered read_entries
line_is e s = refl

module _ (s : List ℕ) (e : ℕ) where
  pub line_missing : none ≡ read_field 65535 space s → none ≡ read_line e s
  line_missing q = sym (line_is e s ∙ ap (λ o. with o (numbered e)) (sym q))

  module _ (n : Read) (q : some n ≡ read_field 65535 space s) where
    on_number : read_line e s ≡ pick (eqb n.value e) (read_entries n.rest) none
    unfolding numbered
    on_number = line_is e s ∙ ap (λ o. with o (numbered e)) (sym q)

    pub line_other : (n.value ≡ e → ⊥) → none ≡ read_line e s
    line_other m = sym (on_number ∙ rw (ne_eqb n.value e m))

    pub line_on : (r : Option Line) → n.value ≡ e → r ≡ read_entries n.rest → r ≡ read_line e s
    line_on r h w = w ∙ sym (on_number ∙ rw (eq-eqb n.value e h))
