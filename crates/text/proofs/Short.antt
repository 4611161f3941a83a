-- How long a text may be: at most 43,033 bytes, the line of names and 2,048 lines of at most 21 bytes. That is a bound; the longest text that is
-- read has 41,923 bytes, since not every border number has four digits.
--
-- decimal_length  == a number below the (n + 1)-th power of ten has at most n + 1 digits
-- rows_short      == the lines of k borders have at most 21 k bytes
-- text_short      == a text that is read as a drawing has at most 43,033 bytes
-- long_17, cut_17 == a text of 43,034 bytes or more is refused with 17, and so are its first 43,034 bytes
-- cut_same        == so the first 43,034 bytes of a text are read as the whole is
-- Assumes nothing.
use mathlib.Core.Path.{◌≡◌, refl, sym, ◌∙◌, ap}
use mathlib.Core.Logic.{◌⊎◌, inl, inr}
use mathlib.Core.List.{List, [], ◌∷◌}
use mathlib.Core.Option.{Option, none, some}
use Prim.Native.Nat.{ℕ, zero, suc, ◌+◌, ◌*◌, ◌/◌, ◌^◌, ◌≤◌, ◌<◌}
use native.Mathlib.Nat.{pow-succ'}
use native.Mathlib.Omega.{arith}
use lib.ListN.{length, get_or, take, drop, length-append}
use lib.Seq.{get_or-drop, take_all, length-take-le}
use Rattle.count.proofs.Logic.{lt_or_ge}
use Rattle.answers.specs.Answer.{answer, refused}
use Rattle.drawing.specs.Drawing.{most_borders, Drawing, borders, ends, turn}
use Rattle.text.specs.Decimal.{decimal}
use Rattle.text.specs.Input.{names, after_prefix, with, Rows, read_lines, drawing_or17, read_text}
use Rattle.text.proofs.Decimal.{decimal_small, decimal_more}
use Rattle.text.proofs.Lines.{line_then}
use Rattle.text.proofs.Exact.{row_lines, drawing_lines, text_is, text_denotes}

pub decimal_length : (n x : ℕ) → x < 10 ^ suc n → length (decimal x) ≤ suc n
decimal_length zero x h = rw (decimal_small x (omega arith)) (omega arith)
decimal_length (suc n) x h =
    let p : 10 ^ suc (suc n) ≡ 10 * 10 ^ suc n = pow-succ' 10 (suc n) in
    elim (lt_or_ge x 10) [
      | inl b ↦ rw (decimal_small x b) (omega arith)
      | inr g ↦
          let d = decimal_length n (x / 10) (omega arith) in
          rw (decimal_more x g, length-append) (omega arith)
    ]

-- four numbers, each with one byte after it
line_length : (e a b v : ℕ) (t : List ℕ) → e ≤ 2047 → a ≤ 65535 → b ≤ 65535 → v ≤ 255 → length (line_then e a b v t) ≤ 21 + length t
line_length e a b v t he ha hb hv =
    let de = decimal_length 3 e (omega arith) in
    let da = decimal_length 4 a (omega arith) in
    let db = decimal_length 4 b (omega arith) in
    let dv = decimal_length 2 v (omega arith) in
    simp length-append (omega arith)

pub rows_short : (e : ℕ) (T M : List ℕ) → e + length M ≤ most_borders → ((h : ℕ) → h < 2 * length M → get_or T h 0 ≤ 65535)
    → ((i : ℕ) → i < length M → get_or M i 0 ≤ 255) → length (row_lines e T M) ≤ 21 * length M
unfolding row_lines
rows_short e T [] b ts ms = omega arith
rows_short e T (v ∷ M) b ts ms =
    let r = rows_short (suc e) (drop 2 T) M (omega arith)
    (λ h l. rw (get_or-drop 2 T h 0) (ts (2 + h) (omega arith))) (λ i l. ms (suc i) (omega arith)) in
    let l = line_length e (get_or T 0 0) (get_or T 1 0) v (row_lines (suc e) (drop 2 T) M) (omega arith) (ts 0 (omega arith)) (ts 1 (omega arith)) (ms 0 (omega arith)) in
    omega arith

names_length : length names ≡ 25
unfolding names
names_length = refl

pub text_short : (s : List ℕ) (D : Drawing) → read_text s ≡ answer D → length s ≤ 43033
unfolding borders ends turn
text_short s D q =
    let d = text_denotes s D q in
    let r = rows_short 0 D.turning D.marks (omega (arith, d.few)) d.entries d.marks in
    let e = ap length (d.text ∙ drawing_lines D) ∙ length-append names (row_lines 0 D.turning D.marks) in
    omega (arith, names_length, d.few)

-- a text is read as a drawing or refused with 17
read_or_17 : (o : Option Rows) → (drawing_or17 o ≡ refused 17) ⊎ ((D : Drawing) × (drawing_or17 o ≡ answer D))
read_or_17 none = inl refl
read_or_17 (some t) = inr (record { turning = t.turning; marks = t.marks; start = 0 }, refl)

pub long_17 : (s : List ℕ) → 43034 ≤ length s → read_text s ≡ refused 17
long_17 s h =
    elim (read_or_17 (with (after_prefix names s) (λ r. read_lines most_borders 0 r))) [
      | inl q ↦ text_is s ∙ q
      | inr d ↦ let short = text_short s d.0 (text_is s ∙ d.1) in absurd (omega arith)
    ]

pub cut_17 : (s : List ℕ) → 43034 ≤ length s → read_text (take 43034 s) ≡ refused 17
cut_17 s h = let e = length-take-le 43034 s h in long_17 (take 43034 s) (omega arith)

pub cut_same : (s : List ℕ) → read_text (take 43034 s) ≡ read_text s
cut_same s =
    elim (lt_or_ge (length s) 43034) [
      | inl l ↦ ap read_text (take_all 43034 s (omega arith))
      | inr g ↦ cut_17 s g ∙ sym (long_17 s g)
    ]
