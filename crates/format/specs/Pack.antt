-- Packing and unpacking (document 01, "Tour and packed map" and the table).
--
-- word_of D         == the bracket word of the drawing's tour
-- size_for D        == m and n of the drawing
-- packed_bytes D    == the bytes that packing writes for the drawing
-- Room D w o, room_fits == passes 2: w entries of working list and o bytes of output are enough
-- pack_checks D w o == packing's checks in the order in which they run, with w entries of working list and o bytes of output lent
-- pack_refusal D w o == the number of the first of them that applies; 0 where none does
-- pack_of D w o     == packing: the map's bytes, or the refusal with what it carries
-- work_left k m old == the working list after refusal k, 0 where there is none
-- opens_before w p  == how many first places come before position p
-- end_in w p        == the end that unpacking puts at position p
-- position_in w h   == the position at which end h stands
-- drawing_of w      == the drawing of a word: borders numbered by their first places, the first place the even end, start 0
-- unpack_checks s t k == unpacking's checks: opening's, then 16, with t turning entries and k marks lent
-- unpack_of s t k   == unpacking the map s into lists of t turning entries and k marks
-- Assumes nothing.
use Rattle.std.specs.Prelude.{Bool, not, ◌&&◌, List, [], ◌∷◌, ◌++◌, ℕ, ◌+◌, ◌*◌, ◌/◌, ◌≤◌, eqb, ltb, leb}
use Rattle.count.specs.Below.{pick, count, find, table}
use Rattle.answers.specs.Answer.{Answer, Kind}
use Rattle.answers.specs.declared.given.Size.{Size}
use Rattle.answers.specs.Checks.{Check, check, refusal_in, after}
use Rattle.answers.specs.Lent.{cleared}
use Rattle.words.specs.Brackets.{step}
use Rattle.words.specs.declared.family.Family.TheVariants.{Round as round, Square as square}
use Rattle.words.specs.Word.{Word, seen, mate_in}
use Rattle.bits.specs.Letters.{family_bit}
use Rattle.drawing.specs.Drawing.{Drawing, borders, ends, border, is_marked, cells, end_at, is_second}
use Rattle.drawing.specs.Checks.{LengthsFit, lengths_fit, InRange, in_range, Distinct, distinct, Joined, joined, FewMarks, few_marks, Flat, crosses, first_crossing}
use Rattle.format.specs.Bytes.{size_in, longest, map_bytes, word_in}
use Rattle.format.specs.Open.{open_checks, open_of}

unfoldable pub word_of : Drawing → Word
unfolding ends is_marked border end_at is_second
word_of D =
    record {
      size = ends D;
      letter = λ p. record { family = pick (is_marked D (border (end_at D p))) round square; closing = is_second D p };
    }

abbrev pub size_for : Drawing → Size
size_for D = record { m = borders D; n = cells D Kind.point }

unfoldable pub packed_bytes : Drawing → List ℕ
unfolding map_bytes borders cells word_of
packed_bytes D = map_bytes (size_for D) (word_of D)

-- 2: "working list under 6m entries, or output under" the longest map's length; 02, 6/14: "refusal 2 needs that much"
pub record Room (D : Drawing) (work out : ℕ) : Type 0 where
  pub working : 6 * borders D ≤ work
  pub output : longest ≤ out

abbrev pub room_fits : Drawing → ℕ → ℕ → Bool
room_fits D work out = leb (6 * borders D) work && leb longest out

-- 01: "Pack uses 1 to 7", in table order. 02, 2/14: "Refusal 7 now carries the alternating pair". The others carry nothing.
abbrev pub pack_checks : Drawing → ℕ → ℕ → List Check
pack_checks D work out =
    check 1 (lengths_fit D) (LengthsFit D)
    ∷ check 2 (room_fits D work out) (Room D work out)
    ∷ check 3 (in_range D) (InRange D)
    ∷ check 4 (distinct D) (Distinct D)
    ∷ check 5 (joined D) (Joined D)
    ∷ check 6 (few_marks D) (FewMarks D)
    ∷ record { number = 7; carries = first_crossing D; test = not (crosses D); holds = Flat D }
    ∷ []

unfoldable pub pack_refusal : Drawing → ℕ → ℕ → ℕ
unfolding lengths_fit borders in_range distinct joined few_marks crosses
pack_refusal D work out = refusal_in (pack_checks D work out)

unfoldable pub pack_of : Drawing → ℕ → ℕ → Answer (List ℕ)
unfolding pack_refusal first_crossing packed_bytes
pack_of D work out = after (pack_checks D work out) (packed_bytes D)

-- 01: "Pack's working list, of 16-bit numbers, is untouched by 1 to 3. After any other outcome its first 6m entries are 0 and
-- the rest untouched."
abbrev pub work_left : ℕ → ℕ → List ℕ → List ℕ
work_left k m old = pick (ltb 0 k && leb k 3) old (cleared (6 * m) old)

-- 01: "Unpacking numbers borders by their first places. The first place is the even end, the start is 0."
unfoldable pub opens_before : Word → ℕ → ℕ
unfolding count
opens_before w p = count (λ q. not (w.letter q).closing) p

unfoldable pub end_in : Word → ℕ → ℕ
unfolding opens_before mate_in
end_in w p = pick (w.letter p).closing (2 * opens_before w (mate_in w p) + 1) (2 * opens_before w p)

-- the position at which end h stands
unfoldable pub position_in : Word → ℕ → ℕ
unfolding find end_in
position_in w h = find (λ p. eqb (end_in w p) h) w.size

unfoldable pub drawing_of : Word → Drawing
unfolding table end_in position_in step seen
drawing_of w =
    record {
      turning = table (λ h. end_in w (step (seen round w) w.size (position_in w h))) w.size;
      marks = table (λ e. family_bit (w.letter (position_in w (2 * e))).family) (w.size / 2);
      start = 0;
    }

-- 16: "unpack: lists under 2m or m entries"
abbrev pub unpack_checks : List ℕ → ℕ → ℕ → List Check
unpack_checks s turnings marks =
    open_checks s
    ++ (check 16 (leb (2 * (size_in s).m) turnings && leb (size_in s).m marks) ((2 * (size_in s).m ≤ turnings) × ((size_in s).m ≤ marks)) ∷ [])

unfoldable pub unpack_of : List ℕ → ℕ → ℕ → Answer Drawing
unfolding open_of drawing_of word_in
unpack_of s turnings marks = after (unpack_checks s turnings marks) (drawing_of (word_in s))
