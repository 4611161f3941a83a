-- The printed schedule of a map that agrees with a drawing's book is made of the book's numbers (document 02, 1/14).
--
-- schedule_rows  == the rows of the map are those of the book
-- schedule_book  == so what `schedule` prints for the map is the schedule of the book's rows
-- Assumes nothing.
use mathlib.Core.Path.{◌≡◌, sym, ap, ◌∙◌}
use mathlib.Core.List.{List}
use Prim.Native.Nat.{ℕ, suc, ◌<◌}
use native.Mathlib.Omega.{arith}
use Rattle.count.specs.Below.{table}
use Rattle.count.proofs.Lists.{table_same}
use Rattle.answers.specs.Answer.{Answer, answer, value_of, Kind}
use Rattle.answers.specs.declared.given.Size.{Size}
use Rattle.drawing.specs.Drawing.{Drawing, cells}
use Rattle.drawing.specs.Book.{book_first, book_size}
use Rattle.format.specs.Bytes.{size_in}
use Rattle.format.specs.Open.{open_refusal, open_of}
use Rattle.format.specs.Calls.{cells_in}
use Rattle.format.specs.Pack.{size_for}
use Rattle.text.specs.Listing.{shown}
use Rattle.format.proofs.Passes.{after_opens}
use Rattle.text.specs.Schedule.{Row, row_of, rows_of, book_rows, schedule_text, schedule, schedule_of}
use Rattle.text.proofs.Schedule.{schedule_answers}
use Rattle.demands.specs.Statements.{Numbers, CellCounts}

module _ (D : Drawing) (s : List ℕ) (o : open_refusal s ≡ 0) (z : open_of s ≡ answer (size_for D)) (N : Numbers D s) (C : CellCounts D) where
  same_size : size_in s ≡ size_for D
  unfolding open_of
  same_size =
      let e : answer (size_in s) ≡ answer (size_for D) = sym (after_opens s (size_in s) o) ∙ z in cc

  same_areas : cells_in (size_in s) Kind.area ≡ cells D Kind.area
  same_areas =
      let e : cells_in (size_in s) Kind.area ≡ cells_in (size_for D) Kind.area = ap (λ (y : Size). cells_in y Kind.area) same_size in
      e ∙ omega (arith, C.areas)

  same_value : (a b : Answer ℕ) (x : ℕ) → a ≡ b → a ≡ answer x → x ≡ value_of b
  unfolding value_of
  same_value a b x e h = ap value_of (sym h ∙ e)

  book_row : ℕ → Row
  book_row i = record { area = suc i; sides = value_of (book_size D Kind.area (suc i)); first = value_of (book_first D Kind.area (suc i)) }

  same_row : (i : ℕ) → i < cells_in (size_in s) Kind.area → row_of s (suc i) ≡ book_row i
  unfolding row_of book_row
  same_row i l =
      let A = schedule_answers s o (suc i) (omega arith) (omega arith) in
      let b = same_value _ _ _ (N.size Kind.area (suc i)) A.sides in
      let c = same_value _ _ _ (N.first Kind.area (suc i)) A.first in
      λ j. record { area = suc i; sides = b j; first = c j }

  pub schedule_rows : rows_of s ≡ book_rows D
  unfolding rows_of book_rows book_row
  schedule_rows =
      table_same (λ i. row_of s (suc i)) book_row (cells_in (size_in s) Kind.area) same_row ∙ ap (table book_row) same_areas

  pub schedule_book : schedule_of s ≡ schedule_text (book_rows D)
  unfolding schedule_of schedule shown
  schedule_book = ap (shown schedule) (after_opens s s o) ∙ ap schedule_text schedule_rows
