-- The text of a drawing (document 01, "Listing"): which byte strings are well formed, and what drawing each denotes.
--
-- drawing_text D  == the text of a drawing: the line of names, then one line per border
-- Denotes s D    == s is the text of D, within the limits of document 01, and D starts at 0
-- read_text s     == the drawing that s denotes, or refusal 17
-- Assumes nothing.
use Rattle.std.specs.Prelude.{◌≡◌, true, false, List, [], ◌∷◌, ◌++◌, ℕ, zero, suc, ◌+◌, ◌*◌, ◌≤◌, ◌<◌, length, get_or, eqb, leb}
use Rattle.std.proofs.Math.Option.{Option, none, some}
use Rattle.count.specs.Below.{pick}
use Rattle.answers.specs.Answer.{Answer, answer, refused}
use Rattle.drawing.specs.Drawing.{most_borders, Drawing, borders, ends, turn}
use Rattle.text.specs.Decimal.{codes, space, line_feed, decimal, Read, read_number}

-- 01: "The line of names is exactly the one shown."
unfoldable pub names : List ℕ
unfolding codes
names = codes "border first second mark\n"

-- 01: "one line per border in order, with its number, the entries of its even and odd end, its mark"; "single spaces, a line
-- feed after each line"
unfoldable pub border_line : Drawing → ℕ → List ℕ
unfolding decimal turn
border_line D e =
    decimal e ++ (space ∷ decimal (turn D (2 * e)) ++ (space ∷ decimal (turn D (2 * e + 1)) ++ (space ∷ decimal (get_or D.marks e 0) ++ (line_feed ∷ []))))

-- the lines of k borders from border e on
unfoldable pub border_lines : Drawing → ℕ → ℕ → List ℕ
unfolding border_line
border_lines D e zero = []
border_lines D e (suc k) = border_line D e ++ border_lines D (suc e) k

unfoldable pub drawing_text : Drawing → List ℕ
unfolding names border_lines borders
drawing_text D = names ++ border_lines D 0 (borders D)

-- 01: "reads a drawing from standard input, start 0"; "at most 2,048 borders, no number above 65,535, marks at most 255,
-- nothing else"
pub record Denotes (s : List ℕ) (D : Drawing) : Type 0 where
  pub text : s ≡ drawing_text D
  pub half : length D.turning ≡ 2 * length D.marks
  pub few : borders D ≤ most_borders
  pub entries : (h : ℕ) → h < ends D → turn D h ≤ 65535
  pub marks : (e : ℕ) → e < borders D → get_or D.marks e 0 ≤ 255
  pub start : D.start ≡ 0

-- what follows the first bytes of s, if they are those of the first list
unfoldable pub after_prefix : List ℕ → List ℕ → Option (List ℕ)
after_prefix [] s = some s
after_prefix (x ∷ xs) [] = none
after_prefix (x ∷ xs) (c ∷ s) = elim (eqb x c) [ true ↦ after_prefix xs s | false ↦ none ]

-- what f makes of a reading, if there is one
abbrev pub with : {X Y : Type 0} → Option X → (X → Option Y) → Option Y
with none f = none
with (some x) f = f x

-- a number of at most `most`, and the byte `end` after it
unfoldable pub read_field : ℕ → ℕ → List ℕ → Option Read
unfolding read_number after_prefix
read_field most end s =
    with (read_number s)
    (λ x. pick (leb x.value most) (with (after_prefix (end ∷ []) x.rest) (λ t. some (record { value = x.value; rest = t }))) none)

pub record Line : Type 0 where
  pub first : ℕ
  pub second : ℕ
  pub mark : ℕ
  pub rest : List ℕ

-- the line of border e
unfoldable pub read_line : ℕ → List ℕ → Option Line
unfolding read_field
read_line e s =
    with (read_field 65535 space s)
    (λ x. pick (eqb x.value e)
    (with (read_field 65535 space x.rest)
    (λ a. with (read_field 65535 space a.rest)
    (λ b. with (read_field 255 line_feed b.rest)
    (λ c. some (record { first = a.value; second = b.value; mark = c.value; rest = c.rest })))))
    none)

pub record Rows : Type 0 where
  pub turning : List ℕ
  pub marks : List ℕ

abbrev pub add_row : Line → Option Rows → Option Rows
add_row l none = none
add_row l (some t) = some (record { turning = l.first ∷ l.second ∷ t.turning; marks = l.mark ∷ t.marks })

-- the lines from border e on, at most k of them, up to the end of the text
unfoldable pub read_lines : ℕ → ℕ → List ℕ → Option Rows
unfolding read_line
read_lines zero e [] = some (record { turning = []; marks = [] })
read_lines zero e (c ∷ s) = none
read_lines (suc k) e [] = some (record { turning = []; marks = [] })
read_lines (suc k) e (c ∷ s) = with (read_line e (c ∷ s)) (λ l. add_row l (read_lines k (suc e) l.rest))

abbrev pub drawing_or17 : Option Rows → Answer Drawing
drawing_or17 none = refused 17
drawing_or17 (some t) = answer (record { turning = t.turning; marks = t.marks; start = 0 })

unfoldable pub read_text : List ℕ → Answer Drawing
unfolding after_prefix names read_lines
read_text s = drawing_or17 (with (after_prefix names s) (λ r. read_lines most_borders 0 r))
