-- The listing of a map, and what the program `places` prints (document 01, "Listing").
--
-- place_line w p   == the line of position p: place, kind, mate, node and area
-- listing s       == the listing of the map s
-- refused_line k   == `refused`, a space and the number
-- shown text a    == the text made of the map that a gives, or the line of its refusal
-- printed s       == the listing of the map s, or the line of opening's refusal
-- places_of s      == what `places` prints for the text s
-- Assumes nothing.
use Rattle.std.specs.Prelude.{Bool, true, false, List, [], ◌∷◌, ◌++◌, ℕ, zero, suc, ◌*◌}
use Rattle.answers.specs.Answer.{Answer, answer, refused_with}
use Rattle.answers.specs.Checks.{after}
use Rattle.words.specs.declared.family.Family.{Family}
use Rattle.words.specs.declared.family.Family.TheVariants.{Round as round, Square as square}
use Rattle.words.specs.Word.{Letter, Word}
use Rattle.drawing.specs.Drawing.{Drawing, borders}
use Rattle.drawing.specs.Session.{Call}
use Rattle.format.specs.Bytes.{longest, word_in}
use Rattle.format.specs.Open.{open_checks, open_of}
use Rattle.format.specs.Calls.{move_in}
use Rattle.format.specs.Pack.{pack_of}
use Rattle.text.specs.Decimal.{codes, space, line_feed, decimal}
use Rattle.text.specs.Input.{read_text}

unfoldable pub heading : List ℕ
unfolding codes
heading = codes "place kind mate node area\n"

-- 01: "In listings the four kinds are ( ) for B and [ ] for B*."
unfoldable pub kind : Letter → List ℕ
unfolding codes
kind l = kind_of l.family l.closing
  where
    kind_of : Family → Bool → List ℕ
    kind_of round false = codes "("
    kind_of round true = codes ")"
    kind_of square false = codes "["
    kind_of square true = codes "]"

-- 01: "`mate` is the crossing, `node` the point."
unfoldable pub place_line : Word → ℕ → List ℕ
unfolding decimal kind move_in
place_line w p =
    decimal (suc p) ++ (space ∷ kind (w.letter p) ++ (space ∷ decimal (move_in w Call.cross p) ++ (space ∷ decimal (move_in w Call.point p) ++ (space ∷ decimal (move_in w Call.area p) ++ (line_feed ∷ [])))))

-- the lines of k places from position p on
unfoldable pub place_lines : Word → ℕ → ℕ → List ℕ
unfolding place_line
place_lines w p zero = []
place_lines w p (suc k) = place_line w p ++ place_lines w (suc p) k

unfoldable pub listing : List ℕ → List ℕ
unfolding heading place_lines word_in
listing s = heading ++ place_lines (word_in s) 0 (word_in s).size

-- 01: "or one line: `refused`, a space and the number"
unfoldable pub refused_line : ℕ → List ℕ
unfolding codes decimal
refused_line k = codes "refused " ++ (decimal k ++ (line_feed ∷ []))

-- what is printed: the text made of the map that is given, or the line of the refusal
unfoldable pub shown : (List ℕ → List ℕ) → Answer (List ℕ) → List ℕ
unfolding refused_line
shown text (answer s) = text s
shown text (refused_with k xs) = refused_line k

unfoldable pub listed : Answer (List ℕ) → List ℕ
unfolding listing shown
listed a = shown listing a

-- 01: "It prints the places of the packed map, or one line: `refused`, a space and the number."
unfoldable pub printed : List ℕ → List ℕ
unfolding open_of listed
printed s = listed (after (open_checks s) s)

-- 01: "It prints the places of the packed map"; the program lends packing all that it asks for
unfoldable pub packed : Answer Drawing → Answer (List ℕ)
unfolding pack_of borders
packed (answer D) = pack_of D (6 * borders D) longest
packed (refused_with k xs) = refused_with k xs

unfoldable pub places_of : List ℕ → List ℕ
unfolding listed packed read_text
places_of s = listed (packed (read_text s))
