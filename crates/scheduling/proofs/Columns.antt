-- The lines of a schedule, put column by column.
--
-- five_digits      == a number below 100,000 fits 5 columns
-- five_columns, seven_columns == and takes exactly its columns
-- gap_aligned      == two spaces and 5 columns are 7 columns
-- row_puts         == an area's line: three columns and a line feed
-- total_puts       == the last line
-- on_page, first_page, new_page == what stands before a line: nothing, the heading, an empty line and the heading
-- heading_length   == the heading has 20 bytes
-- break_none, break_first, break_next == and how it is put
-- Assumes nothing.
use mathlib.Core.Path.{◌≡◌, refl, sym, ap, ◌∙◌, subst}
use mathlib.Core.List.{List, [], ◌∷◌, ◌++◌, append_assoc}
use Prim.Native.Nat.{ℕ, suc, ◌+◌, ◌-◌, ◌%◌, ◌≤◌, ◌<◌}
use native.Mathlib.Omega.{arith}
use lib.Dec.{eqb}
use lib.ListN.{length, replicate}
use borrow.Author.Tests.{eq-eqb, ne_eqb}
use Rattle.count.specs.Below.{pick}
use Rattle.count.proofs.Logic.{pick_yes, pick_no}
use Rattle.text.specs.Decimal.{codes, space, line_feed, decimal, aligned}
use Rattle.text.specs.Schedule.{per_page, page_heading, column, gap, Row, row_line, row_cells, total_line}
use Rattle.text.proofs.Short.{decimal_length}
use Rattle.text.proofs.Columns.{aligned_within}
use Rattle.printing.specs.Writing.{Puts}
use Rattle.printing.specs.declared.page.Page.{Page}
use Rattle.printing.proofs.Writes.{puts_none, puts_then, puts_as}
use Rattle.scheduling.specs.Breaks.{page_break}

-- ---- columns
module _ (x : ℕ) (l : x < 100000) where
  pub five_digits : (w : ℕ) → 5 ≤ w → length (decimal x) ≤ w
  five_digits w h = omega (arith, decimal_length 4 x (omega arith))

  five_columns : length (aligned 5 x) ≡ 5
  five_columns = aligned_within 4 5 x (omega arith) (omega arith)

  seven_columns : length (aligned 7 x) ≡ 7
  seven_columns = aligned_within 4 7 x (omega arith) (omega arith)

  gap_aligned : aligned 7 x ≡ gap ++ column x
  unfolding aligned gap column
  gap_aligned =
      let d = decimal_length 4 x (omega arith) in
      let e : 7 - length (decimal x) ≡ suc (suc (5 - length (decimal x))) = omega arith in
      ap (λ k. replicate k space ++ decimal x) e

-- ---- an area's line
row_columns : (r : Row) → r.sides < 100000 → r.first < 100000
    → ((aligned 5 r.area ++ aligned 7 r.sides) ++ aligned 7 r.first) ++ (line_feed ∷ []) ≡ row_line r
unfolding row_line row_cells column
row_columns r hs hf =
    ap (λ t. ((column r.area ++ t) ++ aligned 7 r.first) ++ (line_feed ∷ [])) (gap_aligned r.sides hs)
    ∙ ap (λ t. ((column r.area ++ (gap ++ column r.sides)) ++ t) ++ (line_feed ∷ [])) (gap_aligned r.first hf)
    ∙ simp append_assoc

module _ (p a b c q : Page) (row : Row) (ha : row.area < 100000) (hs : row.sides < 100000) (hf : row.first < 100000) (h : p.at + 20 ≤ length p.out.now) where
  pub row_puts : Puts p (aligned 5 row.area) a → Puts a (aligned 7 row.sides) b → Puts b (aligned 7 row.first) c
      → Puts c (line_feed ∷ []) q → Puts p (row_line row) q × (q.at ≡ p.at + 20)
  row_puts A B C D =
      let x : List ℕ = aligned 5 row.area in
      let y : List ℕ = aligned 7 row.sides in
      let z : List ℕ = aligned 7 row.first in
      let l : p.at ≤ length p.out.now = omega arith in
      let B' = puts_then p a x l A y b B in
      let C' = puts_then p b (x ++ y) l B' z c C in
      let D' = puts_then p c ((x ++ y) ++ z) l C' (line_feed ∷ []) q D in (
        puts_as p q (((x ++ y) ++ z) ++ (line_feed ∷ [])) (row_line row) (row_columns row hs hf) D',
        omega (arith, A.wrote.next, B.wrote.next, C.wrote.next, D.wrote.next, five_columns row.area ha, seven_columns row.sides hs, seven_columns row.first hf),
      )

-- ---- the last line
total_columns : (x : ℕ) → x < 100000 → (codes "total" ++ aligned 7 x) ++ (line_feed ∷ []) ≡ total_line x
unfolding total_line
total_columns x h =
    ap (λ t. (codes "total" ++ t) ++ (line_feed ∷ [])) (gap_aligned x h) ∙ simp append_assoc

module _ (p a b q : Page) (x : ℕ) (hx : x < 100000) (h : p.at ≤ length p.out.now) where
  pub total_puts : Puts p (codes "total") a → Puts a (aligned 7 x) b → Puts b (line_feed ∷ []) q → Puts p (total_line x) q
  total_puts A B C =
      let t : List ℕ = codes "total" in
      let B' = puts_then p a t h A (aligned 7 x) b B in
      let C' = puts_then p b (t ++ aligned 7 x) h B' (line_feed ∷ []) q C in
      puts_as p q ((t ++ aligned 7 x) ++ (line_feed ∷ [])) (total_line x) (total_columns x hx) C'

-- ---- what stands before a line
module _ (i : ℕ) where
  pub on_page : (i % per_page ≡ 0 → ⊥) → page_break i ≡ []
  unfolding page_break
  on_page n = pick_no (eqb (i % per_page) 0) _ [] (ne_eqb (i % per_page) 0 n)

  pub first_page : i ≡ 0 → page_break i ≡ page_heading
  unfolding page_break
  first_page z = rw z

  pub new_page : i % per_page ≡ 0 → (i ≡ 0 → ⊥) → page_break i ≡ line_feed ∷ page_heading
  unfolding page_break
  new_page z n =
      pick_yes (eqb (i % per_page) 0) (pick (eqb i 0) page_heading (line_feed ∷ page_heading)) [] (eq-eqb (i % per_page) 0 z)
      ∙ pick_no (eqb i 0) page_heading (line_feed ∷ page_heading) (ne_eqb i 0 n)

pub heading_length : length page_heading ≡ 20
unfolding page_heading
heading_length = refl

module _ (p : Page) (i : ℕ) where
  pub break_none : (i % per_page ≡ 0 → ⊥) → Puts p (page_break i) p
  break_none n = puts_as p p [] (page_break i) (sym (on_page i n)) (puts_none p)

  -- m is the page that the heading is put on
  module _ (m q : Page) (Y : Puts m page_heading q) where
    pub break_first : i ≡ 0 → m ≡ p → Puts p (page_break i) q
    break_first z e = puts_as p q page_heading (page_break i) (sym (first_page i z)) (subst (λ x. Puts x page_heading q) e Y)

    pub break_next : (k : Page) → p.at ≤ length p.out.now → i % per_page ≡ 0 → (i ≡ 0 → ⊥) → Puts p (line_feed ∷ []) k → m ≡ k → Puts p (page_break i) q
    break_next k h z n W e =
        puts_as p q ((line_feed ∷ []) ++ page_heading) (page_break i) (sym (new_page i z n))
        (puts_then p k (line_feed ∷ []) h W page_heading q (subst (λ x. Puts x page_heading q) e Y))
