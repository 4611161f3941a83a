-- The pages of a schedule, put line by line.
--
-- pages_more       == the pages with one row more: what stands before its line, and its line
-- rows_to s i       == the rows of the first i areas
-- pages_most i      == the bytes that the pages of so many areas take
-- Paging           == what the loop of `put_pages` keeps: the pages of the first i areas stand, and their sides are added up
-- paged_start, paged_more, paged_end == before the first area, one area more, after the last
-- break_room, row_room == what stands before the next line has room, and so has the line
-- total_room       == and so has the last line
-- Assumes nothing.
use mathlib.Core.Path.{◌≡◌, refl, sym, ap, ◌∙◌}
use mathlib.Core.Logic.{inl, inr}
use mathlib.Core.List.{List, [], ◌∷◌, ◌++◌, append_assoc}
use Prim.Native.Nat.{ℕ, suc, ◌+◌, ◌-◌, ◌*◌, ◌/◌, ◌%◌, ◌≤◌, ◌<◌}
use native.Mathlib.Omega.{arith}
use native.Mathlib.Numerals.{add-one}
use lib.ListN.{length}
use Rattle.count.specs.Below.{table}
use Rattle.count.proofs.Logic.{same_or_not}
use Rattle.count.proofs.Lists.{table_length, table_more}
use Rattle.answers.specs.Answer.{Kind}
use Rattle.format.specs.Bytes.{size_in, word_in}
use Rattle.format.specs.Open.{open_refusal}
use Rattle.format.specs.Calls.{cells_in, first_in, places_in}
use Rattle.format.proofs.Passes.{opens_passes}
use Rattle.text.specs.Schedule.{per_page, Row, row_of, rows_of, row_line, sum_of, pages_text, total_line, schedule_text, schedule}
use Rattle.text.proofs.Pages.{pages_first, pages_new, pages_on, sum_more}
use Rattle.text.proofs.Schedule.{schedule_total}
use Rattle.printing.specs.Writing.{Puts}
use Rattle.printing.specs.declared.page.Page.{Page}
use Rattle.printing.proofs.Writes.{puts_none, puts_then, puts_as}
use Rattle.tallying.specs.Tallied.{Tallied, entry_at}
use Rattle.tallying.proofs.Lookups.{sides_told, first_told}
use Rattle.scheduling.specs.Breaks.{page_break}
use Rattle.scheduling.proofs.Columns.{on_page, first_page, new_page, heading_length}

-- ---- one row more
pages_more : (rs : List Row) (r : Row) (i : ℕ) → length rs ≡ i → pages_text (rs ++ (r ∷ [])) ≡ pages_text rs ++ (page_break i ++ row_line r)
pages_more rs r i e =
    elim (same_or_not (i % per_page) 0) [
      | inl z ↦
          elim (same_or_not i 0) [
            | inl o ↦ pages_first rs r (e ∙ o) ∙ ap (λ t. pages_text rs ++ (t ++ row_line r)) (sym (first_page i o))
            | inr n ↦
                pages_new rs r (λ h. n (sym e ∙ h)) (ap (λ x. x % per_page) e ∙ z) ∙ ap (λ t. pages_text rs ++ (t ++ row_line r)) (sym (new_page i z n))
          ]
      | inr n ↦
          pages_on rs r (λ h. n (ap (λ x. x % per_page) (sym e) ∙ h)) ∙ ap (λ t. pages_text rs ++ (t ++ row_line r)) (sym (on_page i n))
    ]

abbrev pub rows_to : List ℕ → ℕ → List Row
rows_to s i = table (λ j. row_of s (suc j)) i

module _ (s : List ℕ) (i : ℕ) where
  rows_more : rows_to s (i + 1) ≡ rows_to s i ++ (row_of s (suc i) ∷ [])
  rows_more = ap (rows_to s) (add-one i) ∙ table_more (λ j. row_of s (suc j)) i

  text_more : pages_text (rows_to s (i + 1)) ≡ pages_text (rows_to s i) ++ (page_break i ++ row_line (row_of s (suc i)))
  text_more = ap pages_text rows_more ∙ pages_more (rows_to s i) (row_of s (suc i)) i (table_length (λ j. row_of s (suc j)) i)

  sum_grows : sum_of (rows_to s (i + 1)) ≡ sum_of (rows_to s i) + (row_of s (suc i)).sides
  sum_grows = ap sum_of rows_more ∙ sum_more (rows_to s i) (row_of s (suc i))

-- ---- how long the pages are: a line of 20 bytes for each area, a heading of 20 for each page, an empty line between two
abbrev pages_most : ℕ → ℕ
pages_most i = 20 * i + (21 * ((i + (per_page - 1)) / per_page) - 1)

break_most : (i : ℕ) → pages_most i + length (page_break i) + 20 ≤ pages_most (i + 1)
break_most i =
    elim (same_or_not (i % per_page) 0) [
      | inl z ↦
          elim (same_or_not i 0) [
            | inl o ↦ omega (arith, ap length (first_page i o), heading_length)
            | inr n ↦ omega (arith, ap length (new_page i z n), heading_length)
          ]
      | inr n ↦ omega (arith, ap length (on_page i n))
    ]

-- ---- the loop
pub record Paging (s ss fs : List ℕ) (start : Page) (n i sum : ℕ) (page : Page) : Type 0 where
  pub opens : open_refusal s ≡ 0
  pub tallied : Tallied s ss fs
  pub areas : n ≡ cells_in (size_in s) Kind.area
  pub within : i ≤ n
  pub few : n ≤ 2049
  pub so_far : Puts start (pages_text (rows_to s i)) page
  pub added : sum ≡ sum_of (rows_to s i)
  pub sum_most : sum ≤ 65536 * i
  pub most : page.at ≤ start.at + pages_most i
  pub room : start.at + 41853 ≤ length start.out.now

module _ (s ss fs : List ℕ) (start : Page) (n : ℕ) where
  pub paged_start : open_refusal s ≡ 0 → Tallied s ss fs → n ≡ cells_in (size_in s) Kind.area → start.at + 41853 ≤ length start.out.now
      → Paging s ss fs start n 0 0 start
  unfolding pages_text sum_of table
  paged_start o T e h =
      record {
        opens = o;
        tallied = T;
        areas = e;
        within = omega arith;
        few = omega (arith, (opens_passes s o).m_most, (opens_passes s o).n_least);
        so_far = puts_none start;
        added = refl;
        sum_most = omega arith;
        most = omega arith;
        room = h;
      }

  module _ (i sum : ℕ) (page : Page) (P : Paging s ss fs start n i sum page) where
    pub break_room : i < n → page.at + 21 ≤ length page.out.now
    break_room l = omega (arith, P.most, P.few, P.room, P.so_far.same_length)

    pub row_room : (m : Page) → i < n → Puts page (page_break i) m → m.at + 20 ≤ length m.out.now
    row_room m l W = omega (arith, P.most, P.few, P.room, P.so_far.same_length, W.same_length, W.wrote.next, break_most i)

    pub paged_more : (count first : ℕ) (m q : Page) → i < n → (count ≡ entry_at ss (i + 1)) × (count < 65536) → first ≡ entry_at fs (i + 1)
        → Puts page (page_break i) m → Puts m (row_line (record { area = i + 1; sides = count; first = first })) q × (q.at ≡ m.at + 20)
        → Paging s ss fs start n (i + 1) (sum + count) q
    unfolding row_of
    paged_more count first m q l hc hf B R =
        let h : i + 1 ≤ cells_in (size_in s) Kind.area = omega (arith, P.areas) in
        let cs : count ≡ places_in (word_in s) Kind.area (i + 1) = hc.0 ∙ sides_told s ss fs P.tallied (i + 1) (omega arith) h in
        let cf : first ≡ first_in (word_in s) Kind.area (i + 1) = hf ∙ first_told s ss fs P.tallied (i + 1) (omega arith) h in
        let here : record { area = i + 1; sides = count; first = first } ≡ row_of s (i + 1) = λ j. record { area = i + 1; sides = cs j; first = cf j } in
        let row : record { area = i + 1; sides = count; first = first } ≡ row_of s (suc i) = here ∙ ap (row_of s) (add-one i) in
        let es : count ≡ places_in (word_in s) Kind.area (suc i) = cs ∙ ap (places_in (word_in s) Kind.area) (add-one i) in
        let t : List ℕ = pages_text (rows_to s i) in
        let W = puts_then start page t (omega (arith, P.room)) P.so_far (page_break i) m B in
        let L = puts_as m q (row_line (record { area = i + 1; sides = count; first = first })) (row_line (row_of s (suc i))) (ap row_line row) R.0 in
        let Y = puts_then start m (t ++ page_break i) (omega (arith, P.room)) W (row_line (row_of s (suc i))) q L in
        record {
          opens = P.opens;
          tallied = P.tallied;
          areas = P.areas;
          within = omega arith;
          few = P.few;
          so_far = puts_as start q ((t ++ page_break i) ++ row_line (row_of s (suc i))) (pages_text (rows_to s (i + 1)))
              (append_assoc t (page_break i) (row_line (row_of s (suc i))) ∙ sym (text_more s i)) Y;
          added = ap (λ x. sum + x) es ∙ ap (λ x. x + places_in (word_in s) Kind.area (suc i)) P.added ∙ sym (sum_grows s i);
          sum_most = omega (arith, P.sum_most, hc.1);
          most = omega (arith, P.most, B.wrote.next, R.1, break_most i);
          room = P.room;
        }

    module _ (g : n ≤ i) where
      all_rows : rows_to s i ≡ rows_of s
      unfolding rows_of
      all_rows = let e : i ≡ cells_in (size_in s) Kind.area = omega (arith, P.areas, P.within) in ap (rows_to s) e

      pub total_room : (sum < 100000) × (page.at + 13 ≤ length page.out.now)
      total_room = (
        omega (arith, P.added ∙ ap sum_of all_rows ∙ schedule_total s P.opens, (opens_passes s P.opens).m_most),
        omega (arith, P.most, P.few, P.within, P.room, P.so_far.same_length),
      )

      pub paged_end : (q : Page) → Puts page (total_line sum) q → Puts start (schedule s) q
      unfolding schedule schedule_text
      paged_end q W =
          puts_as start q (pages_text (rows_to s i) ++ total_line sum) (pages_text (rows_of s) ++ total_line (sum_of (rows_of s)))
          (ap (λ x. pages_text (rows_to s i) ++ total_line x) P.added ∙ ap (λ rs. pages_text rs ++ total_line (sum_of rs)) all_rows)
          (puts_then start page (pages_text (rows_to s i)) (omega (arith, P.room)) P.so_far (total_line sum) q W)
