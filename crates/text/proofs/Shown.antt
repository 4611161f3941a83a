-- What is printed for the bytes of a map that is refused.
--
-- shown_line == a refusal is shown as its line, whatever the bytes are and whatever text is made of maps
-- Assumes nothing.
use mathlib.Core.Path.{◌≡◌, ap}
use mathlib.Core.List.{List}
use Prim.Native.Nat.{ℕ}
use Rattle.answers.specs.Checks.{after}
use Rattle.format.specs.Open.{open_checks, open_refusal}
use Rattle.format.proofs.Passes.{after_declines}
use Rattle.text.specs.Listing.{refused_line, shown}

pub shown_line : (f : List ℕ → List ℕ) (s : List ℕ) → (open_refusal s ≡ 0 → ⊥) → shown f (after (open_checks s) s) ≡ refused_line (open_refusal s)
unfolding shown
shown_line f s n = ap (shown f) (after_declines s s n)
