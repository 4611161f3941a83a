-- The reader of text is exact: a byte string is accepted exactly if it is the text of a drawing within the limits, and then
-- that drawing is read.
--
-- row_lines e T M  == the lines from border e on of the turning list T and the marks M
-- drawing_lines   == the text of a drawing is the line of names and those lines of its lists
-- Within n T M    == the lists T and M are of at most n borders, and within the limits
-- lines_end, lines_step    == no lines are read from no text; a line that is read, and the lines after it
-- some_row                 == where a line was put before others, the others were read
-- read_rows, rows_read     == lines are read exactly if they are those of lists within the limits
-- text_is                  == a text is read by its line of names and its lines
-- reads_text, text_denotes == a text is read as a drawing exactly if it denotes it
-- denotes_one     == a text denotes at most one drawing
-- refuses_17      == every other text is refused with 17
-- Assumes nothing.
use mathlib.Core.Path.{◌≡◌, refl, sym, ◌∙◌, ap}
use mathlib.Core.List.{List, [], ◌∷◌, ◌++◌, append_assoc}
use mathlib.Core.Option.{Option, none, some, some-injective, none-ne-some}
use Prim.Native.Nat.{ℕ, zero, suc, ◌+◌, ◌*◌, ◌≤◌, ◌<◌}
use native.Mathlib.Omega.{arith}
use lib.ListN.{length, get_or, drop}
use lib.Seq.{get_or-drop, drop-drop}
use Rattle.answers.specs.Answer.{answer, refused}
use Rattle.drawing.specs.Drawing.{most_borders, Drawing, borders, ends, turn}
use Rattle.text.specs.Input.{names, border_line, border_lines, drawing_text, Denotes, after_prefix, with, Line, read_line, Rows, add_row, read_lines, drawing_or17, read_text}
use Rattle.text.proofs.Lines.{line_then, IsLine, read_line_lem, line_read, some_with, read_prefix, prefix_read}

unfoldable pub row_lines : ℕ → List ℕ → List ℕ → List ℕ
row_lines e T [] = []
row_lines e T (v ∷ M) = line_then e (get_or T 0 0) (get_or T 1 0) v (row_lines (suc e) (drop 2 T) M)

line_then_lem : (D : Drawing) (e : ℕ) (t : List ℕ) → border_line D e ++ t ≡ line_then e (turn D (2 * e)) (turn D (2 * e + 1)) (get_or D.marks e 0) t
unfolding border_line
line_then_lem D e t = simp append_assoc

get_d_after : (L T : List ℕ) (n i m : ℕ) → drop n L ≡ T → m ≡ n + i → get_or L m 0 ≡ get_or T i 0
get_d_after L T n i m p e = rw (e, ← p) (sym (get_or-drop n L i 0))

drop_after : (L T : List ℕ) (n i m : ℕ) → drop n L ≡ T → m ≡ n + i → drop m L ≡ drop i T
drop_after L T n i m p e = rw (e, ← p) (sym (drop-drop i n L))

lines_rows : (D : Drawing) (e : ℕ) (T M : List ℕ) → drop (2 * e) D.turning ≡ T → drop e D.marks ≡ M → border_lines D e (length M) ≡ row_lines e T M
unfolding border_lines row_lines turn
lines_rows D e T [] p q = refl
lines_rows D e T (v ∷ M) p q =
    line_then_lem D e (border_lines D (suc e) (length M))
    ∙ rw (
      get_d_after D.turning T (2 * e) 0 (2 * e) p (omega arith),
      get_d_after D.turning T (2 * e) 1 (2 * e + 1) p refl,
      get_d_after D.marks (v ∷ M) e 0 e q (omega arith),
      lines_rows D (suc e) (drop 2 T) M (drop_after D.turning T (2 * e) 2 (2 * suc e) p (omega arith)) (drop_after D.marks (v ∷ M) e 1 (suc e) q (omega arith)),
    )

pub drawing_lines : (D : Drawing) → drawing_text D ≡ names ++ row_lines 0 D.turning D.marks
unfolding drawing_text
drawing_lines D = ap (λ (l : List ℕ). names ++ l) (lines_rows D 0 D.turning D.marks refl refl)

pub record Within (n : ℕ) (T M : List ℕ) : Type 0 where
  pub half : length T ≡ 2 * length M
  pub few : length M ≤ n
  pub entries : (h : ℕ) → h < 2 * length M → get_or T h 0 ≤ 65535
  pub small : (i : ℕ) → i < length M → get_or M i 0 ≤ 255

within_none : (n : ℕ) → Within n [] []
within_none n = record { half = omega arith; few = omega arith; entries = λ h b. omega arith; small = λ i b. omega arith }

small_more : (most x k : ℕ) (l : List ℕ) → x ≤ most → ((i : ℕ) → i < k → get_or l i 0 ≤ most) → (i : ℕ) → i < suc k → get_or (x ∷ l) i 0 ≤ most
small_more most x k l h f zero b = h
small_more most x k l h f (suc i) b = f i (omega arith)

within_more : (n a b v : ℕ) (T M : List ℕ) → a ≤ 65535 → b ≤ 65535 → v ≤ 255 → Within n T M → Within (suc n) (a ∷ b ∷ T) (v ∷ M)
within_more n a b v T M ha hb hv W =
    record {
      half = omega (arith, W.half);
      few = omega (arith, W.few);
      entries = λ h l. small_more 65535 a (suc (2 * length M)) (b ∷ T) ha (small_more 65535 b (2 * length M) T hb W.entries) h (omega arith);
      small = small_more 255 v (length M) M hv W.small;
    }

within_less : (n a b v : ℕ) (T M : List ℕ) → Within (suc n) (a ∷ b ∷ T) (v ∷ M) → Within n T M
within_less n a b v T M W =
    record {
      half = omega (arith, W.half);
      few = omega (arith, W.few);
      entries = λ h l. W.entries (suc (suc h)) (omega arith);
      small = λ i l. W.small (suc i) (omega arith);
    }

pub lines_end : (n e : ℕ) → read_lines n e [] ≡ some (record { turning = []; marks = [] })
unfolding read_lines
lines_end zero e = refl
lines_end (suc n) e = refl

pub lines_step : (n e : ℕ) (s : List ℕ) (l : Line) → read_line e s ≡ some l → read_lines (suc n) e s ≡ add_row l (read_lines n (suc e) l.rest)
unfolding read_lines
lines_step n e [] l q = absurd (none-ne-some l q)
lines_step n e (c ∷ s) l q = rw q

pub read_rows : (n e : ℕ) (T M : List ℕ) → n + e ≤ 65536 → Within n T M → read_lines n e (row_lines e T M) ≡ some (record { turning = T; marks = M })
unfolding row_lines
read_rows n e [] [] b W = lines_end n e
read_rows n e (a ∷ T) [] b W = absurd (omega (arith, W.half))
read_rows n e [] (v ∷ M) b W = absurd (omega (arith, W.half))
read_rows n e (a ∷ []) (v ∷ M) b W = absurd (omega (arith, W.half))
read_rows zero e (a ∷ c ∷ T) (v ∷ M) b W = absurd (omega (arith, W.few))
read_rows (suc n) e (a ∷ c ∷ T) (v ∷ M) b W =
    let l : Line = record { first = a; second = c; mark = v; rest = row_lines (suc e) T M } in
    let is : IsLine e (line_then e a c v (row_lines (suc e) T M)) l =
    record {
      text = refl;
      number_small = omega arith;
      first_small = W.entries 0 (omega arith);
      second_small = W.entries 1 (omega arith);
      mark_small = W.small 0 (omega arith);
    } in
    lines_step n e (line_then e a c v (row_lines (suc e) T M)) l (read_line_lem e (line_then e a c v (row_lines (suc e) T M)) l is)
    ∙ rw (read_rows n (suc e) T M (omega arith) (within_less n a c v T M W))

module _ {C : Type 0} where
  pub some_row : (l : Line) (o : Option Rows) (t : Rows) → add_row l o ≡ some t
      → ((r : Rows) → o ≡ some r → record { turning = l.first ∷ l.second ∷ r.turning; marks = l.mark ∷ r.marks } ≡ t → C) → C
  some_row l none t q k = absurd (none-ne-some t q)
  some_row l (some r) t q k = k r refl (some-injective (record { turning = l.first ∷ l.second ∷ r.turning; marks = l.mark ∷ r.marks }) t q)

  some_drawing : (o : Option Rows) (D : Drawing) → drawing_or17 o ≡ answer D
      → ((t : Rows) → o ≡ some t → record { turning = t.turning; marks = t.marks; start = 0 } ≡ D → C) → C
  some_drawing none D q k = let z : ◌≡◌ {A = ℕ} 0 1 = cc in absurd (omega arith)
  some_drawing (some t) D q k = k t refl (cc)

rows_end : (n e : ℕ) (t : Rows) → read_lines n e [] ≡ some t → ([] ≡ row_lines e t.turning t.marks) × Within n t.turning t.marks
unfolding row_lines
rows_end n e t q =
    rw (← some-injective (record { turning = []; marks = [] }) t (sym (lines_end n e) ∙ q)) (refl, within_none n)

pub rows_read : (n e : ℕ) (s : List ℕ) (t : Rows) → read_lines n e s ≡ some t → (s ≡ row_lines e t.turning t.marks) × Within n t.turning t.marks
unfolding read_lines row_lines
rows_read zero e [] t q = rows_end zero e t q
rows_read (suc n) e [] t q = rows_end (suc n) e t q
rows_read zero e (c ∷ s) t q = absurd (none-ne-some t q)
rows_read (suc n) e (c ∷ s) t q =
    some_with (read_line e (c ∷ s)) _ t q
    (λ l line more.
    some_row l (read_lines n (suc e) l.rest) t more
    (λ r rest made.
    let L = line_read e (c ∷ s) l line in
    let R = rows_read n (suc e) l.rest r rest in
    rw (← made) (
      L.text ∙ rw R.0,
      within_more n l.first l.second l.mark r.turning r.marks L.first_small L.second_small L.mark_small R.1,
    )))

drawing_same : (D E : Drawing) → D.turning ≡ E.turning → D.marks ≡ E.marks → D.start ≡ E.start → D ≡ E
drawing_same D E t m s = λ i. record { turning = t i; marks = m i; start = s i }

pub text_is : (s : List ℕ) → read_text s ≡ drawing_or17 (with (after_prefix names s) (λ r. read_lines most_borders 0 r))
unfolding read_text
text_is s = refl

pub reads_text : (s : List ℕ) (D : Drawing) → Denotes s D → read_text s ≡ answer D
unfolding borders ends turn
reads_text s D d =
    let W : Within most_borders D.turning D.marks = record { half = d.half; few = d.few; entries = d.entries; small = d.marks } in
    text_is s
    ∙ rw (
      d.text,
      drawing_lines D,
      read_prefix names (row_lines 0 D.turning D.marks),
      read_rows most_borders 0 D.turning D.marks (omega arith) W,
    )
    (ap answer (drawing_same (record { turning = D.turning; marks = D.marks; start = 0 }) D refl refl (sym d.start)))

pub text_denotes : (s : List ℕ) (D : Drawing) → read_text s ≡ answer D → Denotes s D
unfolding borders ends turn
text_denotes s D q =
    some_drawing (with (after_prefix names s) (λ r. read_lines most_borders 0 r)) D (sym (text_is s) ∙ q)
    (λ t read made.
    some_with (after_prefix names s) _ t read
    (λ r named rows.
    let R = rows_read most_borders 0 r t rows in
    let E : Drawing = record { turning = t.turning; marks = t.marks; start = 0 } in
    rw (← made)
    (record {
      text = prefix_read names s r named ∙ rw (R.0, drawing_lines E);
      half = R.1.half;
      few = R.1.few;
      entries = R.1.entries;
      marks = R.1.small;
      start = refl;
    })))

pub denotes_one : (s : List ℕ) (D E : Drawing) → Denotes s D → Denotes s E → D ≡ E
denotes_one s D E d e =
    let p = reads_text s D d in
    let q = reads_text s E e in
    cc

only_17 : (o : Option Rows) (k : ℕ) → drawing_or17 o ≡ refused k → k ≡ 17
only_17 none k q = cc
only_17 (some t) k q = let z : ◌≡◌ {A = ℕ} 0 1 = cc in absurd (omega arith)

pub refuses_17 : (s : List ℕ) (k : ℕ) → read_text s ≡ refused k → (k ≡ 17) × ((D : Drawing) → Denotes s D → ⊥)
refuses_17 s k q = (
  only_17 (with (after_prefix names s) (λ r. read_lines most_borders 0 r)) k (sym (text_is s) ∙ q),
  λ D d. let p = reads_text s D d in let z : ◌≡◌ {A = ℕ} 0 1 = cc in omega arith,
)
