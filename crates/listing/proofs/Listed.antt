-- The lines of a listing, one after the other.
--
-- number_few       == the number of a point or an area has at most four digits
-- field x end      == a number, and the byte after it
-- line_fields      == a line is its five fields
-- line_puts        == they are put one after the other
-- line_same, line_says == what the line of a position says is its line
-- lines_more       == the lines of one place more
-- Lined            == what the loop of `put_surveyed` keeps: the lines of the first p places are put, and `ones` is the running count of
--                     `running_rank`, the rank of p in A
-- lined_position, lined_room, lined_fits == the next place is one of the map, its line has room, and the count too
-- lined_start, lined_step, lined_end == before the first place, one place more, after the last
-- Assumes nothing.
use mathlib.Core.Path.{◌≡◌, sym, ap, ◌∙◌}
use mathlib.Core.List.{List, [], ◌∷◌, ◌++◌, append_assoc, append-nil}
use Prim.Native.Nat.{ℕ, zero, suc, ◌+◌, ◌*◌, ◌<◌, ◌≤◌}
use native.Mathlib.Omega.{arith}
use native.Mathlib.Numerals.{add-one}
use lib.ListN.{length}
use Rattle.count.proofs.Counts.{count_le}
use Rattle.words.specs.Brackets.{is_opens, number}
use Rattle.words.specs.declared.family.Family.{Family}
use Rattle.words.specs.declared.family.Family.TheVariants.{Round as round, Square as square}
use Rattle.words.specs.Word.{Word, seen, mate_in}
use Rattle.words.proofs.Numbers.{number_range}
use Rattle.drawing.specs.Session.{Call}
use Rattle.text.specs.Running.{counts}
use Rattle.bits.specs.Strings.{bit}
use Rattle.format.specs.Bytes.{size_in, bits_a, part_a, word_in}
use Rattle.format.specs.Calls.{move_in}
use Rattle.format.specs.Open.{open_refusal}
use Rattle.text.specs.Decimal.{space, line_feed, decimal}
use Rattle.text.specs.Listing.{kind, place_line, place_lines}
use Rattle.walking.specs.Positions.{Position}
use Rattle.walking.proofs.Decoded.{places_most}
use Rattle.printing.specs.Writing.{Puts}
use Rattle.printing.specs.declared.page.Page.{Page}
use Rattle.printing.proofs.Writes.{puts_none, puts_then, puts_as}
use Rattle.listing.specs.declared.line.Line.{Line}
use Rattle.listing.specs.Lines.{line_text, Says}
use Rattle.text.proofs.Running.{counts_le, running_rank}

number_few : (s : List ℕ) (K : Family) (p x : ℕ) → Position s p → x ≡ number (seen K (word_in s)) p → x < 10000
number_few s K p x P e =
    omega (
      arith,
      number_range (seen K (word_in s)) (bits_a (size_in s)) p P.below,
      count_le (λ q. is_opens (seen K (word_in s) q)) (bits_a (size_in s)),
      places_most s P.opens,
    )

-- ---- one line
-- a number, and the byte after it
abbrev field : ℕ → ℕ → List ℕ
field x end = decimal x ++ (end ∷ [])

line_fields : (l : Line)
    → ((((field l.place.0 space ++ (l.bracket ∷ [])) ++ (space ∷ [])) ++ field l.mate.0 space) ++ field l.node.0 space) ++ field l.area.0 line_feed
    ≡ line_text l
unfolding line_text
line_fields l = simp append_assoc

module _ (l : Line) (p a b c d e q : Page) (h : p.at + 22 ≤ length p.out.now) where
  pub line_puts : Puts p (field l.place.0 space) a → Puts a (l.bracket ∷ []) b → Puts b (space ∷ []) c
      → Puts c (field l.mate.0 space) d → Puts d (field l.node.0 space) e → Puts e (field l.area.0 line_feed) q → Puts p (line_text l) q
  line_puts A B C D E F =
      let g : p.at ≤ length p.out.now = omega arith in
      let t₁ = field l.place.0 space in
      let t₂ = t₁ ++ (l.bracket ∷ []) in
      let t₃ = t₂ ++ (space ∷ []) in
      let t₄ = t₃ ++ field l.mate.0 space in
      let t₅ = t₄ ++ field l.node.0 space in
      let B' = puts_then p a t₁ g A (l.bracket ∷ []) b B in
      let C' = puts_then p b t₂ g B' (space ∷ []) c C in
      let D' = puts_then p c t₃ g C' (field l.mate.0 space) d D in
      let E' = puts_then p d t₄ g D' (field l.node.0 space) e E in
      let F' = puts_then p e t₅ g E' (field l.area.0 line_feed) q F in
      puts_as p q (t₅ ++ field l.area.0 line_feed) (line_text l) (line_fields l) F'

line_same : (w : Word) (p : ℕ) (l : Line) → kind (w.letter p) ≡ l.bracket ∷ [] → l.place.0 ≡ p + 1 → l.mate.0 ≡ mate_in w p + 1
    → l.node.0 ≡ move_in w Call.point p → l.area.0 ≡ move_in w Call.area p → line_text l ≡ place_line w p
unfolding line_text place_line move_in
line_same w p l ek ep ex ey ez = rw (ek, ep, ex, ey, ez) (simp add-one)

pub line_says : (s : List ℕ) (p x : ℕ) (l : Line) → Position s p → kind ((word_in s).letter p) ≡ l.bracket ∷ [] → l.place.0 ≡ p + 1
    → x ≡ mate_in (word_in s) p → Position s x → l.mate.0 ≡ x + 1
    → l.node.0 ≡ number (seen round (word_in s)) p → l.area.0 ≡ number (seen square (word_in s)) p → Says s p l
unfolding move_in
line_says s p x l P ek ep ex Q em ey ez =
    record {
      text = line_same (word_in s) p l ek ep (em ∙ ap (λ i. i + 1) ex) ey ez;
      short = record {
        place = omega (arith, ep, P.few);
        mate = omega (arith, em, Q.few);
        node = number_few s round p l.node.0 P ey;
        area = number_few s square p l.area.0 P ez;
      };
    }

-- ---- all lines
lines_more : (w : Word) (q k : ℕ) → place_lines w q (suc k) ≡ place_lines w q k ++ place_line w (q + k)
unfolding place_lines
lines_more w q zero =
    let e : q ≡ q + 0 = omega arith in
    append-nil (place_line w q) ∙ ap (place_line w) e
lines_more w q (suc k) =
    let e : suc q + k ≡ q + suc k = omega arith in
    ap (λ l. place_line w q ++ l) (lines_more w (suc q) k ∙ ap (λ i. place_lines w (suc q) k ++ place_line w i) e)
    ∙ sym (append_assoc (place_line w q) (place_lines w (suc q) k) (place_line w (q + suc k)))

pub record Lined (s : List ℕ) (first : Page) (n p ones : ℕ) (page : Page) : Type 0 where
  pub opens : open_refusal s ≡ 0
  pub count : n ≡ bits_a (size_in s)
  pub within : p ≤ n
  pub running : ones ≡ counts (part_a s) p
  pub so_far : Puts first (place_lines (word_in s) 0 p) page
  pub room : first.at + 22 * 4096 ≤ length first.out.now
  pub most : page.at ≤ first.at + 22 * p

module _ (s : List ℕ) (first : Page) (n : ℕ) where
  pub lined_start : open_refusal s ≡ 0 → n ≡ bits_a (size_in s) → first.at + 22 * 4096 ≤ length first.out.now → Lined s first n 0 0 first
  unfolding place_lines
  lined_start o e h =
      record {
        opens = o;
        count = e;
        within = omega arith;
        running = sym (running_rank s).first;
        so_far = puts_none first;
        room = h;
        most = omega arith;
      }

  module _ (p ones : ℕ) (page : Page) (L : Lined s first n p ones page) where
    pub lined_position : p < n → Position s p
    lined_position l = let m = places_most s L.opens in record { opens = L.opens; below = omega (arith, L.count); few = omega (arith, L.count) }

    pub lined_room : p < n → page.at + 22 ≤ length page.out.now
    lined_room l = omega (arith, L.count, L.room, L.most, L.so_far.same_length, places_most s L.opens)

    pub lined_fits : (x : ℕ) → p < n → x < 2 → ones + x < 18446744073709551616
    lined_fits x l t = omega (arith, L.count, places_most s L.opens, counts_le s p ones L.running)

    pub lined_step : (a : List ℕ) (x : ℕ) (l : Line) (next : Page) → p < n → a ≡ part_a s → x ≡ bit a p → Says s p l
        → Puts page (line_text l) next → next.at ≤ page.at + 22 → Lined s first n (p + 1) (ones + x) next
    lined_step a x l next i ea ex S W m =
        let z : 0 + p ≡ p = omega arith in
        let line : Puts page (place_line (word_in s) p) next = puts_as page next (line_text l) (place_line (word_in s) p) S.text W in
        let f : place_lines (word_in s) 0 p ++ place_line (word_in s) p ≡ place_lines (word_in s) 0 (p + 1)
        = sym (ap (place_lines (word_in s) 0) (add-one p) ∙ lines_more (word_in s) 0 p ∙ ap (λ i. place_lines (word_in s) 0 p ++ place_line (word_in s) i) z) in
        record {
          opens = L.opens;
          count = L.count;
          within = omega arith;
          running = omega (arith, L.running, ex ∙ ap (λ t. bit t p) ea, (running_rank s).next p);
          so_far = puts_as first next (place_lines (word_in s) 0 p ++ place_line (word_in s) p) (place_lines (word_in s) 0 (p + 1)) f
              (puts_then first page (place_lines (word_in s) 0 p) (omega (arith, L.room)) L.so_far (place_line (word_in s) p) next line);
          room = L.room;
          most = omega (arith, L.most);
        }

    pub lined_end : n ≤ p → Puts first (place_lines (word_in s) 0 (bits_a (size_in s))) page
    lined_end l =
        let e : p ≡ bits_a (size_in s) = omega (arith, L.count, L.within) in
        puts_as first page (place_lines (word_in s) 0 p) (place_lines (word_in s) 0 (bits_a (size_in s))) (ap (place_lines (word_in s) 0) e) L.so_far
