-- The two passes over the lines of the text: what each keeps from line to line.
--
-- count_from e o   == how many borders there are, e of them passed and the rest read as o
-- Counting s rest e == e lines of s were passed, and the rest decides the count
-- counting_start, counting_more == from one line to the next
-- counting_full, counting_missing, counting_end == lines beyond 2,048; a line that is none; the end of the text
-- Writing s t₀ k₀ rest e t k == the same, of lines that are all read: t and k hold the entries and marks of e lines over t₀ and k₀
-- writing_start, writing_more == from one line to the next
-- writing_room, writing_end == there is room for the line; no line follows, and the lists hold the drawing
-- Assumes nothing.
use mathlib.Core.Path.{◌≡◌, refl, sym, ◌∙◌, ap}
use mathlib.Core.Logic.{inl, inr}
use mathlib.Core.List.{List, [], ◌∷◌, ◌++◌}
use mathlib.Core.Option.{Option, none, some, some-injective, none-ne-some}
use Prim.Native.Nat.{ℕ, zero, suc, ◌+◌, ◌-◌, ◌*◌, ◌<◌, ◌≤◌}
use native.Mathlib.Omega.{arith}
use lib.ListN.{length, set, drop, length-set}
use lib.Seq.{sets, sets-eq}
use Rattle.count.proofs.Logic.{same_or_not}
use Rattle.answers.specs.Answer.{told, Answer, answer, refused}
use Rattle.answers.specs.Lent.{laid, leaves}
use Rattle.drawing.specs.Drawing.{borders, Drawing}
use Rattle.text.specs.Input.{Line, read_field, read_line, Rows, add_row, read_lines, drawing_or17}
use Rattle.text.proofs.Exact.{lines_end, lines_step, some_row, rows_read}
use Rattle.text.specs.Decimal.{read_number}

-- ---- a line of the text

cons_missing : (n e c : ℕ) (s : List ℕ) → none ≡ read_line e (c ∷ s) → read_lines n e (c ∷ s) ≡ none
unfolding read_lines
cons_missing zero e c s q = refl
cons_missing (suc n) e c s q = rw (← q)

cons_over : (e c : ℕ) (s : List ℕ) → read_lines zero e (c ∷ s) ≡ none
unfolding read_lines
cons_over e c s = refl

no_line : (e : ℕ) (l : Line) → some l ≡ read_line e [] → ⊥
unfolding read_line read_field read_number
no_line e l q = none-ne-some l (sym q)

module _ (s : List ℕ) (e : ℕ) where
  lines_more : (n : ℕ) (l : Line) → some l ≡ read_line e s → read_lines (suc n) e s ≡ add_row l (read_lines n (e + 1) l.rest)
  lines_more n l q =
      let o : suc e ≡ e + 1 = omega arith in
      lines_step n e s l (sym q) ∙ ap (λ j. add_row l (read_lines n j l.rest)) o

lines_missing : (s : List ℕ) (e n : ℕ) → 0 < length s → none ≡ read_line e s → read_lines n e s ≡ none
lines_missing [] e n h q = absurd (omega arith)
lines_missing (c ∷ s) e n h q = cons_missing n e c s q

lines_over : (s : List ℕ) (e n : ℕ) → 0 < length s → n ≡ 0 → read_lines n e s ≡ none
lines_over [] e n h z = absurd (omega arith)
lines_over (c ∷ s) e n h z = ap (λ k. read_lines k e (c ∷ s)) z ∙ cons_over e c s

lines_done : (s : List ℕ) (e n : ℕ) → length s ≡ 0 → read_lines n e s ≡ some (record { turning = []; marks = [] })
lines_done [] e n h = lines_end n e
lines_done (c ∷ s) e n h = absurd (omega arith)

line_there : (s : List ℕ) (e : ℕ) (l : Line) → some l ≡ read_line e s → 0 < length s
line_there [] e l q = absurd (no_line e l q)
line_there (c ∷ s) e l q = omega arith

-- ---- the first pass

abbrev pub count_from : ℕ → Option Rows → Answer ℕ
count_from e none = refused 17
count_from e (some t) = answer (e + length t.marks)

count_all : (o : Option Rows) → count_from 0 o ≡ told borders (drawing_or17 o)
unfolding borders
count_all none = refl
count_all (some t) = ap answer (omega arith)

count_row : (e : ℕ) (l : Line) (o : Option Rows) → count_from e (add_row l o) ≡ count_from (e + 1) o
count_row e l none = refl
count_row e l (some t) = ap answer (omega arith)

pub record Counting (s rest : List ℕ) (e : ℕ) : Type 0 where
  pub left : ℕ
  pub all : left + e ≡ 2048
  pub same : count_from e (read_lines left e rest) ≡ told borders (drawing_or17 (read_lines 2048 0 s))

module _ (s : List ℕ) where
  pub counting_start : Counting s s 0
  counting_start = record { left = 2048; all = refl; same = count_all (read_lines 2048 0 s) }

  module _ (rest : List ℕ) (e : ℕ) (C : Counting s rest e) where
    -- what the rest of the text decides
    decides : (o : Option Rows) → read_lines C.left e rest ≡ o → count_from e o ≡ told borders (drawing_or17 (read_lines 2048 0 s))
    decides o q = ap (count_from e) (sym q) ∙ C.same

    pub counting_more : e < 2048 → (l : Line) → some l ≡ read_line e rest → Counting s l.rest (e + 1)
    counting_more m l q =
        let n : ℕ = C.left - 1 in
        let f : C.left ≡ suc n = omega (arith, C.all) in
        let o : Option Rows = read_lines n (e + 1) l.rest in
        record {
          left = n;
          all = omega (arith, C.all);
          same = sym (count_row e l o) ∙ decides (add_row l o) (ap (λ k. read_lines k e rest) f ∙ lines_more rest e n l q);
        }

    pub counting_full : 0 < length rest → 2048 ≤ e → refused 17 ≡ told borders (drawing_or17 (read_lines 2048 0 s))
    counting_full h m = decides none (lines_over rest e C.left h (omega (arith, C.all)))

    pub counting_missing : 0 < length rest → none ≡ read_line e rest → refused 17 ≡ told borders (drawing_or17 (read_lines 2048 0 s))
    counting_missing h q = decides none (lines_missing rest e C.left h q)

    pub counting_end : length rest ≡ 0 → answer e ≡ told borders (drawing_or17 (read_lines 2048 0 s))
    counting_end h = ap answer (omega arith) ∙ decides (some (record { turning = []; marks = [] })) (lines_done rest e C.left h)

-- ---- the second pass

pub record Writing (s t₀ k₀ rest : List ℕ) (e : ℕ) (t k : List ℕ) : Type 0 where
  pub left : ℕ
  pub all : left + e ≡ 2048
  pub rows : Rows
  pub reads : read_lines left e rest ≡ some rows
  pub long_turning : length t ≡ 4096
  pub long_marks : length k ≡ 2048
  pub turning : sets t (2 * e) rows.turning ≡ leaves (λ (D : Drawing). laid D.turning) (drawing_or17 (read_lines 2048 0 s)) t₀
  pub marks : sets k e rows.marks ≡ leaves (λ (D : Drawing). laid D.marks) (drawing_or17 (read_lines 2048 0 s)) k₀

sets_laid : (new old : List ℕ) → length new ≤ length old → sets old 0 new ≡ laid new old
sets_laid new old h = let z : 0 + length new ≡ length new = omega arith in sets-eq new old 0 (omega arith) ∙ ap (λ k. new ++ drop k old) z

some_of : (o : Option Rows) → (o ≡ none → ⊥) → (t : Rows) × (o ≡ some t)
some_of none n = absurd (n refl)
some_of (some t) n = (t, refl)

module _ (s t₀ k₀ : List ℕ) where
  pub writing_start : (read_lines 2048 0 s ≡ none → ⊥) → length t₀ ≡ 4096 → length k₀ ≡ 2048 → Writing s t₀ k₀ s 0 t₀ k₀
  unfolding leaves
  writing_start n ht hk =
      let r = some_of (read_lines 2048 0 s) n in
      let W = (rows_read 2048 0 s r.0 r.1).1 in
      record {
        left = 2048;
        all = refl;
        rows = r.0;
        reads = r.1;
        long_turning = ht;
        long_marks = hk;
        turning = sets_laid r.0.turning t₀ (omega (arith, W.half, W.few)) ∙ sym (ap (λ o. leaves (λ (D : Drawing). laid D.turning) (drawing_or17 o) t₀) r.1);
        marks = sets_laid r.0.marks k₀ (omega (arith, W.few)) ∙ sym (ap (λ o. leaves (λ (D : Drawing). laid D.marks) (drawing_or17 o) k₀) r.1);
      }

  module _ (rest : List ℕ) (e : ℕ) (t k : List ℕ) (W : Writing s t₀ k₀ rest e t k) where
    module _ (l : Line) (q : some l ≡ read_line e rest) where
      pub writing_room : e < 2048
      writing_room =
          elim (same_or_not W.left 0) [
            | inl z ↦ absurd (none-ne-some W.rows (sym (lines_over rest e W.left (line_there rest e l q) z) ∙ W.reads))
            | inr z ↦ omega (arith, W.all)
          ]

      pub writing_more : Writing s t₀ k₀ l.rest (e + 1) (set (set t (2 * e) l.first) (2 * e + 1) l.second) (set k e l.mark)
      writing_more =
          let n : ℕ = W.left - 1 in
          let f : W.left ≡ suc n = let r = writing_room in omega (arith, W.all) in
          some_row l (read_lines n (e + 1) l.rest) W.rows
          (sym (lines_more rest e n l q) ∙ sym (ap (λ k. read_lines k e rest) f) ∙ W.reads)
          (λ r is made.
          let twice : 2 * (e + 1) ≡ suc (suc (2 * e)) = omega arith in
          let odd : 2 * e + 1 ≡ suc (2 * e) = omega arith in
          let next_border : e + 1 ≡ suc e = omega arith in
          record {
            left = n;
            all = omega (arith, W.all);
            rows = r;
            reads = is;
            long_turning = length-set (set t (2 * e) l.first) (2 * e + 1) l.second ∙ length-set t (2 * e) l.first ∙ W.long_turning;
            long_marks = length-set k e l.mark ∙ W.long_marks;
            turning = rw (twice, odd) (ap (λ (x : Rows). sets t (2 * e) x.turning) made ∙ W.turning);
            marks = rw next_border (ap (λ (x : Rows). sets k e x.marks) made ∙ W.marks);
          })

    -- no line is missing before the end of the text
    at_end : none ≡ read_line e rest → length rest ≡ 0
    at_end q =
        elim (same_or_not (length rest) 0) [
          | inl z ↦ z
          | inr z ↦ absurd (none-ne-some W.rows (sym (lines_missing rest e W.left (omega arith) q) ∙ W.reads))
        ]

    pub writing_end : none ≡ read_line e rest
        → (t ≡ leaves (λ (D : Drawing). laid D.turning) (drawing_or17 (read_lines 2048 0 s)) t₀) × (k ≡ leaves (λ (D : Drawing). laid D.marks) (drawing_or17 (read_lines 2048 0 s)) k₀)
    writing_end q =
        let e₀ : record { turning = []; marks = [] } ≡ W.rows
        = some-injective (record { turning = []; marks = [] }) W.rows (sym (lines_done rest e W.left (at_end q)) ∙ W.reads) in (
          ap (λ (x : Rows). sets t (2 * e) x.turning) e₀ ∙ W.turning,
          ap (λ (x : Rows). sets k e x.marks) e₀ ∙ W.marks,
        )
