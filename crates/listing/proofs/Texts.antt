-- The whole text of a listing.
--
-- listing_wrote   == the heading, then the lines
-- printed_shown   == what is printed for any bytes: the listing, or the line of opening's refusal
-- Assumes nothing.
use mathlib.Core.Path.{◌≡◌, refl}
use mathlib.Core.List.{List}
use Prim.Native.Nat.{ℕ}
use native.Mathlib.Omega.{arith}
use Rattle.answers.specs.Checks.{after}
use Rattle.format.specs.Bytes.{size_in, bits_a, word_in}
use Rattle.format.specs.Open.{open_checks}
use Rattle.text.specs.Listing.{heading, place_lines, listing, shown, listed, printed}
use Rattle.printing.specs.Writing.{Wrote, Puts}
use Rattle.printing.specs.declared.page.Page.{Page}
use Rattle.printing.proofs.Writes.{puts_then}

pub listing_wrote : (s old : List ℕ) (p m q : Page) → p.out.now ≡ old → p.at ≡ 0 → Puts p heading m
    → Puts m (place_lines (word_in s) 0 (bits_a (size_in s))) q → (new : List ℕ) → new ≡ q.out.now → Wrote old 0 (listing s) q.at new
unfolding listing word_in
listing_wrote s old p m q o z W Y new n =
    let P = puts_then p m heading (omega arith) W (place_lines (word_in s) 0 (bits_a (size_in s))) q Y in
    rw n (rw (o, z) at P.wrote)

pub printed_shown : (s : List ℕ) → printed s ≡ shown listing (after (open_checks s) s)
unfolding printed listed
printed_shown s = refl
