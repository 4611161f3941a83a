-- The pages of a schedule, one row after the other.
--
-- pages_length    == a page for each 50 rows, and one for what is left
-- pages_down      == the rows of the pages, one page after the other, are the rows
-- page_full, page_last == every page but the last has 50 rows; the last has some
-- apart_more      == one text more: after an empty line, unless it is the first
-- apart_longer    == the last text made longer
-- pages_first, pages_new, pages_on == one row more: on the first page, on a new page, on the last page
-- sum_more        == the sum with one row more
-- Assumes nothing.
use mathlib.Core.Path.{◌≡◌, refl, sym, ap, ◌∙◌}
use mathlib.Core.Logic.{◌≢◌}
use mathlib.Core.List.{List, [], ◌∷◌, ◌++◌, append_assoc, append-nil, map, flatten}
use Prim.Native.Nat.{ℕ, zero, suc, ◌+◌, ◌-◌, ◌*◌, ◌/◌, ◌%◌, ◌≤◌, ◌<◌}
use native.Mathlib.Omega.{arith}
use lib.ListN.{length, get_or, take, drop, length-append, length-take, length-drop, length-map, drop_of_length-le}
use lib.Seq.{take_all, take-add, take-append-le, drop-append-le, length-take-le}
use Rattle.count.specs.Below.{table}
use Rattle.count.proofs.Lists.{table_length, table_get_d, table_same, table_more}
use Rattle.text.specs.Decimal.{line_feed}
use Rattle.text.specs.Schedule.{per_page, page_heading, Row, row_line, row_lines, page_text, pages_of, apart, sum_of, pages_text}

-- the rows of page j
abbrev page_of : List Row → ℕ → List Row
page_of rs j = take per_page (drop (per_page * j) rs)

-- how many pages so many rows take
abbrev page_count : ℕ → ℕ
page_count n = (n + (per_page - 1)) / per_page

module _ (rs : List Row) where
  pub pages_length : length (pages_of rs) ≡ page_count (length rs)
  unfolding pages_of
  pages_length = table_length (page_of rs) (page_count (length rs))

  down_to : (n : ℕ) → flatten (table (page_of rs) n) ≡ take (per_page * n) rs
  unfolding flatten table
  down_to zero = refl
  down_to (suc n) =
      let e : per_page * n + per_page ≡ per_page * suc n = omega arith in
      ap flatten (table_more (page_of rs) n)
      ∙ flatten_more (table (page_of rs) n) (page_of rs n)
      ∙ ap (λ l. l ++ page_of rs n) (down_to n)
      ∙ sym (take-add (per_page * n) per_page rs)
      ∙ ap (λ k. take k rs) e
    where
      flatten_more : (ls : List (List Row)) (l : List Row) → flatten (ls ++ (l ∷ [])) ≡ flatten ls ++ l
      flatten_more [] l = append-nil l
      flatten_more (x ∷ ls) l = ap (λ y. x ++ y) (flatten_more ls l) ∙ sym (append_assoc x (flatten ls) l)

  pub pages_down : flatten (pages_of rs) ≡ rs
  unfolding pages_of
  pages_down = down_to (page_count (length rs)) ∙ take_all (per_page * page_count (length rs)) rs (omega arith)

  page_rows : (j : ℕ) → j < page_count (length rs) → get_or (pages_of rs) j [] ≡ page_of rs j
  unfolding pages_of
  page_rows j l = table_get_d (page_of rs) (page_count (length rs)) j [] l

  pub page_full : (j : ℕ) → suc j < length (pages_of rs) → length (get_or (pages_of rs) j []) ≡ per_page
  page_full j l =
      let n = pages_length in
      let d = length-drop (per_page * j) rs in
      ap length (page_rows j (omega arith)) ∙ length-take-le per_page (drop (per_page * j) rs) (omega arith)

  pub page_last : (j : ℕ) → suc j ≡ length (pages_of rs)
      → (0 < length (get_or (pages_of rs) j [])) × (length (get_or (pages_of rs) j []) ≤ per_page)
  page_last j l =
      let n = pages_length in
      let d = length-drop (per_page * j) rs in
      let e = ap length (page_rows j (omega arith)) ∙ length-take per_page (drop (per_page * j) rs) in
      (omega arith, omega arith)

-- ---- texts with an empty line between them
pub apart_one : (t : List ℕ) → apart (t ∷ []) ≡ t
unfolding apart
apart_one t = refl

pub apart_more : (ts : List (List ℕ)) (t : List ℕ) → length ts ≢ 0 → apart (ts ++ (t ∷ [])) ≡ apart ts ++ (line_feed ∷ t)
unfolding apart
apart_more [] t n = absurd (n refl)
apart_more (u ∷ []) t n = refl
apart_more (u ∷ v ∷ ts) t n =
    ap (λ l. u ++ (line_feed ∷ l)) (apart_more (v ∷ ts) t (omega arith))
    ∙ sym (append_assoc u (line_feed ∷ apart (v ∷ ts)) (line_feed ∷ t))

pub apart_longer : (ts : List (List ℕ)) (t u : List ℕ) → apart (ts ++ ((t ++ u) ∷ [])) ≡ apart (ts ++ (t ∷ [])) ++ u
unfolding apart
apart_longer [] t u = refl
apart_longer (v ∷ []) t u = sym (append_assoc v (line_feed ∷ t) u)
apart_longer (v ∷ w ∷ ts) t u =
    ap (λ l. v ++ (line_feed ∷ l)) (apart_longer (w ∷ ts) t u)
    ∙ sym (append_assoc v (line_feed ∷ apart ((w ∷ ts) ++ (t ∷ []))) u)

-- ---- one row more
map_more : (ls : List (List Row)) (l : List Row) → map page_text (ls ++ (l ∷ [])) ≡ map page_text ls ++ (page_text l ∷ [])
map_more [] l = refl
map_more (x ∷ ls) l = ap (λ y. page_text x ∷ y) (map_more ls l)

lines_more : (rs : List Row) (r : Row) → row_lines (rs ++ (r ∷ [])) ≡ row_lines rs ++ row_line r
unfolding row_lines
lines_more [] r = append-nil (row_line r)
lines_more (x ∷ rs) r = ap (λ l. row_line x ++ l) (lines_more rs r) ∙ sym (append_assoc (row_line x) (row_lines rs) (row_line r))

page_more : (rs : List Row) (r : Row) → page_text (rs ++ (r ∷ [])) ≡ page_text rs ++ row_line r
unfolding page_text
page_more rs r = ap (λ l. page_heading ++ l) (lines_more rs r) ∙ sym (append_assoc page_heading (row_lines rs) (row_line r))

page_one : (r : Row) → page_text (r ∷ []) ≡ page_heading ++ row_line r
unfolding page_text row_lines
page_one r = ap (λ l. page_heading ++ l) (append-nil (row_line r))

pub sum_more : (rs : List Row) (r : Row) → sum_of (rs ++ (r ∷ [])) ≡ sum_of rs + r.sides
unfolding sum_of
sum_more [] r = omega arith
sum_more (x ∷ rs) r = let e = sum_more rs r in omega arith

module _ (rs : List Row) (r : Row) where
  abbrev grown : List Row
  grown = rs ++ (r ∷ [])

  grown_length : length grown ≡ length rs + 1
  grown_length = length-append rs (r ∷ [])

  -- what is left of the rows after the first pages
  grown_drop : (j : ℕ) → per_page * j ≤ length rs → drop (per_page * j) grown ≡ drop (per_page * j) rs ++ (r ∷ [])
  grown_drop j l = drop-append-le (per_page * j) rs (r ∷ []) l

  -- a full page stays as it is
  page_stays : (j : ℕ) → per_page * suc j ≤ length rs → page_of grown j ≡ page_of rs j
  page_stays j l =
      let d = length-drop (per_page * j) rs in
      ap (take per_page) (grown_drop j (omega arith)) ∙ take-append-le per_page (drop (per_page * j) rs) (r ∷ []) (omega arith)

  full_pages : (q : ℕ) → per_page * q ≤ length rs → table (page_of grown) q ≡ table (page_of rs) q
  full_pages q l = table_same (page_of grown) (page_of rs) q (λ j k. page_stays j (omega arith))

  -- the last page, which is not full, gets the row
  page_grows : (q : ℕ) → per_page * q ≤ length rs → length rs < per_page * suc q → page_of grown q ≡ page_of rs q ++ (r ∷ [])
  page_grows q l h =
      let d = length-drop (per_page * q) rs in
      let e = length-append (drop (per_page * q) rs) (r ∷ []) in
      ap (take per_page) (grown_drop q l)
      ∙ take_all per_page (drop (per_page * q) rs ++ (r ∷ [])) (omega arith)
      ∙ ap (λ x. x ++ (r ∷ [])) (sym (take_all per_page (drop (per_page * q) rs) (omega arith)))

  -- the pages where the row is on a new page, and where it is not
  pages_begin : length rs % per_page ≡ 0 → pages_of grown ≡ pages_of rs ++ ((r ∷ []) ∷ [])
  unfolding pages_of
  pages_begin z =
      let q : ℕ = length rs / per_page in
      let n = grown_length in
      let a : page_count (length grown) ≡ suc q = omega arith in
      let b : q ≡ page_count (length rs) = omega arith in
      let none : drop (per_page * q) rs ≡ [] = drop_of_length-le rs {i = per_page * q} (omega arith) in
      ap (table (page_of grown)) a
      ∙ table_more (page_of grown) q
      ∙ ap (λ l. l ++ (page_of grown q ∷ [])) (full_pages q (omega arith) ∙ ap (table (page_of rs)) b)
      ∙ ap (λ p. table (page_of rs) (page_count (length rs)) ++ (p ∷ [])) (page_grows q (omega arith) (omega arith) ∙ ap (λ x. take per_page x ++ (r ∷ [])) none)

  pages_grow : length rs % per_page ≢ 0 → (q : ℕ) → q ≡ length rs / per_page
      → (pages_of rs ≡ table (page_of rs) q ++ (page_of rs q ∷ [])) × (pages_of grown ≡ table (page_of rs) q ++ ((page_of rs q ++ (r ∷ [])) ∷ []))
  unfolding pages_of
  pages_grow z q e =
      let n = grown_length in
      let a : page_count (length grown) ≡ suc q = omega arith in
      let b : page_count (length rs) ≡ suc q = omega arith in (
        ap (table (page_of rs)) b ∙ table_more (page_of rs) q,
        ap (table (page_of grown)) a
            ∙ table_more (page_of grown) q
            ∙ ap (λ l. l ++ (page_of grown q ∷ [])) (full_pages q (omega arith))
            ∙ ap (λ p. table (page_of rs) q ++ (p ∷ [])) (page_grows q (omega arith) (omega arith)),
      )

  pub pages_first : length rs ≡ 0 → pages_text grown ≡ pages_text rs ++ (page_heading ++ row_line r)
  unfolding pages_text
  pages_first z =
      let n = pages_length rs in
      let none : pages_of rs ≡ [] = nothing (pages_of rs) (omega arith) in
      ap (λ p. apart (map page_text p)) (pages_begin (omega arith) ∙ ap (λ p. p ++ ((r ∷ []) ∷ [])) none)
      ∙ apart_one (page_text (r ∷ []))
      ∙ page_one r
      ∙ ap (λ p. apart (map page_text p) ++ (page_heading ++ row_line r)) (sym none)
    where
      nothing : (l : List (List Row)) → length l ≡ 0 → l ≡ []
      nothing [] h = refl
      nothing (x ∷ l) h = absurd (omega arith)

  pub pages_new : length rs ≢ 0 → length rs % per_page ≡ 0 → pages_text grown ≡ pages_text rs ++ (line_feed ∷ (page_heading ++ row_line r))
  unfolding pages_text
  pages_new m z =
      let n = pages_length rs in
      let k = length-map (pages_of rs) page_text in
      ap (λ p. apart (map page_text p)) (pages_begin z)
      ∙ ap apart (map_more (pages_of rs) (r ∷ []))
      ∙ apart_more (map page_text (pages_of rs)) (page_text (r ∷ [])) (omega arith)
      ∙ ap (λ t. apart (map page_text (pages_of rs)) ++ (line_feed ∷ t)) (page_one r)

  pub pages_on : length rs % per_page ≢ 0 → pages_text grown ≡ pages_text rs ++ row_line r
  unfolding pages_text
  pages_on z =
      let q : ℕ = length rs / per_page in
      let g = pages_grow z q refl in
      let ls : List (List ℕ) = map page_text (table (page_of rs) q) in
      ap (λ p. apart (map page_text p)) g.1
      ∙ ap apart (map_more (table (page_of rs) q) (page_of rs q ++ (r ∷ [])))
      ∙ ap (λ t. apart (ls ++ (t ∷ []))) (page_more (page_of rs q) r)
      ∙ apart_longer ls (page_text (page_of rs q)) (row_line r)
      ∙ ap (λ t. apart t ++ row_line r) (sym (ap (map page_text) g.0 ∙ map_more (table (page_of rs) q) (page_of rs q)))
