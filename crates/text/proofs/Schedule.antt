-- What is shown of the schedule, for every map that opens (document 02, 1/14).
--
-- schedule_total    == the sum of the sides, added up from the lines' own numbers, is 2m
-- schedule_lines    == each area's line has exactly 19 characters and a line feed: no number needs a sixth column
-- schedule_areas    == reading the area numbers down the pages gives 1, 2, .. m-n+2, each once
-- schedule_answers  == the sides and the first place in an area's line are those that the calls answer
-- scheduled         == all of these, and that what is printed is made of these rows
-- schedule_refused  == bytes that don't open get one line, `refused` and opening's number
-- schedule_cut      == what is printed for any bytes is what is printed for their first ones, one more than the longest map has
-- Assumes nothing.
use mathlib.Core.Path.{◌≡◌, refl, sym, ap, ◌∙◌}
use mathlib.Core.Logic.{◌≢◌, inl, inr}
use mathlib.Core.Bool.{true}
use mathlib.Core.List.Memᴰ
use mathlib.Core.List.{List, [], ◌∷◌, ◌++◌, Memᴰ, map}
use Prim.Native.Nat.{ℕ, zero, suc, ◌+◌, ◌-◌, ◌*◌, ◌≤◌, ◌<◌}
use native.Mathlib.Omega.{arith}
use lib.Dec.{eqb, ltb, leb}
use lib.ListN.{length, replicate, take, length-append}
use lib.Seq.{take_all}
use borrow.Author.Tests.{lt-ltb, le-leb}
use Rattle.count.specs.Below.{total, table}
use Rattle.count.proofs.Logic.{lt_or_ge, true_or_false, both, pick_yes}
use Rattle.count.proofs.Below.{count_le, find_le}
use Rattle.count.proofs.Lists.{table_map, table_more}
use Rattle.answers.specs.Answer.{Answer, answer, refused, Kind, no_such}
use Rattle.words.specs.Brackets.{size, first, number}
use Rattle.words.specs.declared.family.Family.TheVariants.{Square as square}
use Rattle.words.specs.Word.{seen}
use Rattle.words.proofs.Sizes.{size_sum}
use Rattle.format.specs.Bytes.{size_in, bits_a, word_in, longest}
use Rattle.format.specs.Open.{open_refusal}
use Rattle.format.specs.Calls.{cells_in, is_number, first_in, places_in, first_of, size_of}
use Rattle.format.proofs.Passes.{opens_passes, opened_opens, after_opens, opened}
use Rattle.format.proofs.Openings.{cells_numbers}
use Rattle.format.proofs.Longest.{too_long_lem, open_cut}
use Rattle.text.specs.Decimal.{space, line_feed, decimal, aligned}
use Rattle.text.specs.Listing.{refused_line, shown}
use Rattle.text.specs.Schedule.{column, gap, Row, row_of, rows_of, row_cells, row_line, sum_of, total_line, schedule, schedule_of}
use Rattle.text.specs.Statements.{LineFits, AreasDown, Answered, Scheduled}
use Rattle.text.proofs.Decimal.{decimal_digits, decides_digit}
use Rattle.text.proofs.Short.{decimal_length}
use Rattle.text.proofs.Columns.{aligned_within}
use Rattle.text.proofs.Shown.{shown_line}
use Rattle.text.proofs.Pages.{pages_down, page_full, page_last, sum_more}

-- ---- the sum
-- the sides of the first n areas
sum_total : (f : ℕ → Row) (n : ℕ) → sum_of (table (λ i. f (suc i)) n) ≡ total (λ k. (f k).sides) n
unfolding sum_of total table
sum_total f zero = refl
sum_total f (suc n) =
    ap sum_of (table_more (λ i. f (suc i)) n)
    ∙ sum_more (table (λ i. f (suc i)) n) (f (suc n))
    ∙ ap (λ x. x + (f (suc n)).sides) (sum_total f n)

pub schedule_total : (s : List ℕ) → open_refusal s ≡ 0 → sum_of (rows_of s) ≡ 2 * (size_in s).m
unfolding rows_of row_of places_in word_in
schedule_total s o =
    let b = seen square (word_in s) in
    let n : ℕ = bits_a (size_in s) in
    sum_total (row_of s) (cells_in (size_in s) Kind.area)
    ∙ ap (total (size b n)) (sym (cells_numbers s Kind.area o))
    ∙ size_sum b n

-- ---- the lines
-- the bytes of a column are digits and spaces
column_byte : (w x c : ℕ) → Memᴰ c (aligned w x) → c ≢ line_feed
unfolding aligned
column_byte w x c m =
    elim (Memᴰ.append_cases (replicate (w - length (decimal x)) space) m) [
      | inl l ↦ let e : c ≡ space = repeated (w - length (decimal x)) l in omega arith
      | inr r ↦ let d = (decides_digit c).sound (decimal_digits x c r) in omega arith
    ]
  where
    repeated : (k : ℕ) {d : ℕ} → Memᴰ d (replicate k space) → d ≡ space
    repeated zero h = absurd (Memᴰ.not-nil h)
    repeated (suc k) h = elim (Memᴰ.cases_cons h) [ inl e ↦ e | inr t ↦ repeated k t ]

gap_byte : (c : ℕ) → Memᴰ c gap → c ≢ line_feed
unfolding gap
gap_byte c m =
    elim (Memᴰ.cases_cons m) [
      | inl e ↦ omega arith
      | inr t ↦ elim (Memᴰ.cases_cons t) [ inl e ↦ omega arith | inr u ↦ absurd (Memᴰ.not-nil u) ]
    ]

-- a byte of one text after another is of one of them
module _ (c : ℕ) (s t : List ℕ) where
  joined_byte : (Memᴰ c s → c ≢ line_feed) → (Memᴰ c t → c ≢ line_feed) → Memᴰ c (s ++ t) → c ≢ line_feed
  joined_byte f g m = elim (Memᴰ.append_cases s m) [ inl l ↦ f l | inr r ↦ g r ]

five_lengths : (a g b h c : List ℕ) → length (a ++ (g ++ (b ++ (h ++ c)))) ≡ length a + (length g + (length b + (length h + length c)))
five_lengths a g b h c = simp length-append

-- a line whose numbers are below 100,000
line_fits : (r : Row) → r.area < 100000 → r.sides < 100000 → r.first < 100000 → LineFits r
unfolding row_cells row_line column gap
line_fits r a b c =
    let la : length (aligned 5 r.area) ≡ 5 = aligned_within 4 5 r.area (omega arith) (omega arith) in
    let lb : length (aligned 5 r.sides) ≡ 5 = aligned_within 4 5 r.sides (omega arith) (omega arith) in
    let lc : length (aligned 5 r.first) ≡ 5 = aligned_within 4 5 r.first (omega arith) (omega arith) in
    record {
      line = refl;
      characters = five_lengths (aligned 5 r.area) gap (aligned 5 r.sides) gap (aligned 5 r.first) ∙ omega arith;
      one_line = λ d m.
          joined_byte d (aligned 5 r.area) (gap ++ (aligned 5 r.sides ++ (gap ++ aligned 5 r.first))) (column_byte 5 r.area d)
          (joined_byte d gap (aligned 5 r.sides ++ (gap ++ aligned 5 r.first)) (gap_byte d)
          (joined_byte d (aligned 5 r.sides) (gap ++ aligned 5 r.first) (column_byte 5 r.sides d)
          (joined_byte d gap (aligned 5 r.first) (gap_byte d) (column_byte 5 r.first d)))) m;
      area_fits = decimal_length 4 r.area (omega arith);
      sides_fit = decimal_length 4 r.sides (omega arith);
      first_fits = decimal_length 4 r.first (omega arith);
    }

-- no area has more than 4,096 sides, or its first place after place 4,097
module _ (s : List ℕ) (o : open_refusal s ≡ 0) (k : ℕ) where
  sides_most : places_in (word_in s) Kind.area k ≤ 4096
  unfolding places_in size word_in
  sides_most =
      let b = seen square (word_in s) in
      let n : ℕ = bits_a (size_in s) in
      omega (arith, count_le (λ p. eqb (number b p) k) n, (opens_passes s o).m_most)

  first_most : first_in (word_in s) Kind.area k ≤ 4097
  unfolding first_in first word_in
  first_most =
      let b = seen square (word_in s) in
      let n : ℕ = bits_a (size_in s) in
      let l = find_le (λ p. eqb (number b p) k) n in
      elim (true_or_false (eqb n 0)) [
        | inl e ↦ rw e (omega arith)
        | inr e ↦ rw e (omega (arith, (opens_passes s o).m_most))
      ]

pub schedule_lines : (s : List ℕ) → open_refusal s ≡ 0 → (k : ℕ) → k ≤ cells_in (size_in s) Kind.area → LineFits (row_of s k)
unfolding row_of
schedule_lines s o k l =
    line_fits (row_of s k) (omega (arith, (opens_passes s o).m_most, (opens_passes s o).n_least)) (omega (arith, sides_most s o k))
    (omega (arith, first_most s o k))

-- ---- the areas, page by page
pub schedule_areas : (s : List ℕ) → AreasDown s
unfolding rows_of row_of
schedule_areas s =
    record {
      numbers = ap (map (λ (r : Row). r.area)) (pages_down (rows_of s))
          ∙ table_map (λ (r : Row). r.area) (λ i. row_of s (suc i)) (cells_in (size_in s) Kind.area);
      full = page_full (rows_of s);
      last = page_last (rows_of s);
    }

-- ---- the calls
module _ (s : List ℕ) (o : open_refusal s ≡ 0) (k : ℕ) where
  is_area : 1 ≤ k → k ≤ cells_in (size_in s) Kind.area → is_number (size_in s) Kind.area k ≡ true
  is_area a b = both (ltb 0 k) (leb k (cells_in (size_in s) Kind.area)) (lt-ltb 0 k (omega arith)) (le-leb k (cells_in (size_in s) Kind.area) b)

  called : (a : Answer ℕ) → opened s a ≡ a
  called a = opened_opens s a o

  pub schedule_answers : 1 ≤ k → k ≤ cells_in (size_in s) Kind.area → Answered s k
  unfolding size_of first_of row_of opened
  schedule_answers a b =
      record {
        number = refl;
        sides = called _ ∙ pick_yes (is_number (size_in s) Kind.area k) (answer (places_in (word_in s) Kind.area k)) (refused (no_such Kind.area)) (is_area a b);
        first = called _ ∙ pick_yes (is_number (size_in s) Kind.area k) (answer (first_in (word_in s) Kind.area k)) (refused (no_such Kind.area)) (is_area a b);
      }

-- ---- what is printed
total_length : (x : ℕ) → x < 100000 → length (total_line x) ≡ 13
unfolding total_line gap column
total_length x h =
    let e : length (aligned 5 x) ≡ 5 = aligned_within 4 5 x (omega arith) (omega arith) in
    let l = length-append (aligned 5 x) (line_feed ∷ []) in
    omega arith

pub scheduled : (s : List ℕ) → open_refusal s ≡ 0 → Scheduled s
unfolding schedule_of shown schedule
scheduled s o =
    record {
      printed = ap (shown schedule) (after_opens s s o);
      total = schedule_total s o;
      total_fits = total_length (sum_of (rows_of s)) (omega (arith, schedule_total s o, (opens_passes s o).m_most));
      lines = schedule_lines s o;
      areas = schedule_areas s;
      answers = schedule_answers s o;
    }

pub schedule_refused : (s : List ℕ) → open_refusal s ≢ 0 → schedule_of s ≡ refused_line (open_refusal s)
unfolding schedule_of
schedule_refused s n = shown_line schedule s n

-- ---- inputs longer than the longest map
-- the program reads one byte more than the longest map has, and no further
pub schedule_cut : (s : List ℕ) → schedule_of (take (longest + 1) s) ≡ schedule_of s
schedule_cut s =
    elim (lt_or_ge longest (length s)) [
      | inl l ↦
          let cut : List ℕ = take (longest + 1) s in
          let n : open_refusal s ≢ 0 = too_long_lem s l in
          schedule_refused cut (λ e. n (sym (open_cut s) ∙ e)) ∙ ap refused_line (open_cut s) ∙ sym (schedule_refused s n)
      | inr g ↦ ap schedule_of (take_all (longest + 1) s (omega arith))
    ]
