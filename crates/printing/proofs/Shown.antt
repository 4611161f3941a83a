-- What is printed for the bytes of a map: the text made of them, or the line of opening's refusal.
--
-- shown_refused, shown_err == the line of the check that declines the bytes is what is printed for them: by its number, and as a
--                             function returns it that opens them
-- shown_text, shown_ok     == the text of bytes that open is what is printed for them
-- Assumes nothing.
use mathlib.Core.Path.{◌≡◌, sym, ap, ◌∙◌}
use mathlib.Core.List.{List}
use Prim.Native.Nat.{ℕ}
use Rattle.answers.specs.Answer.{answer, refused_with}
use Rattle.answers.specs.Checks.{after, alone}
use Rattle.answers.specs.Means.{number, carried}
use Rattle.answers.specs.declared.refusal.Refusal.{Refusal}
use Rattle.answers.proofs.Passing.{declines, goes_on}
use Rattle.format.specs.Open.{open_checks, open_refusal}
use Rattle.format.proofs.Passes.{after_opens}
use Rattle.text.specs.Listing.{refused_line, shown}
use Rattle.text.proofs.Shown.{shown_line}
use Rattle.printing.specs.Writing.{Wrote}
use Rattle.printing.proofs.Stands.{Stands, wrote_stands, stands_as}

-- f makes the text of a map, and k is opening's number for the bytes s
module _ (f : List ℕ → List ℕ) (s : List ℕ) (k : ℕ) (e : k ≡ open_refusal s) where
  text_is : k ≡ 0 → shown f (after (open_checks s) s) ≡ f s
  unfolding shown
  text_is z = ap (shown f) (after_opens s s (sym e ∙ z))

  line_is : (k ≡ 0 → ⊥) → shown f (after (open_checks s) s) ≡ refused_line k
  line_is m = shown_line f s (λ z. m (e ∙ z)) ∙ ap refused_line (sym e)

  module _ (old new : List ℕ) (r : ℕ) where
    pub shown_refused : (k ≡ 0 → ⊥) → Stands (refused_line k) r old new → Stands (shown f (after (open_checks s) s)) r old new
    shown_refused m S = stands_as old new r (refused_line k) (shown f (after (open_checks s) s)) (line_is m) S

    pub shown_text : k ≡ 0 → Wrote old 0 (f s) r new → Stands (shown f (after (open_checks s) s)) r old new
    shown_text z W = stands_as old new r (f s) (shown f (after (open_checks s) s)) (text_is z) (wrote_stands old new r (f s) W)

-- the same where opening returns a Result
module _ (f : List ℕ → List ℕ) (s : List ℕ) where
  err_line : (k : ℕ) (xs : List ℕ) → refused_with k xs ≡ alone (open_checks s) → shown f (after (open_checks s) s) ≡ refused_line k
  unfolding shown
  err_line k xs e = ap (shown f) (sym (declines (open_checks s) (answer s) k xs e))

  ok_text : answer (tt {0}) ≡ alone (open_checks s) → shown f (after (open_checks s) s) ≡ f s
  unfolding shown
  ok_text e = ap (shown f) (sym (goes_on (open_checks s) (answer s) e))

  module _ (old new : List ℕ) (r : ℕ) where
    pub shown_err : (k : ℕ) (e : Refusal) → k ≡ number e → refused_with (number e) (carried e) ≡ alone (open_checks s) → Stands (refused_line k) r old new
        → Stands (shown f (after (open_checks s) s)) r old new
    shown_err k e n d S =
        stands_as old new r (refused_line k) (shown f (after (open_checks s) s)) (err_line (number e) (carried e) d ∙ ap refused_line (sym n)) S

    pub shown_ok : answer (tt {0}) ≡ alone (open_checks s) → Wrote old 0 (f s) r new → Stands (shown f (after (open_checks s) s)) r old new
    shown_ok e W = stands_as old new r (f s) (shown f (after (open_checks s) s)) (ok_text e) (wrote_stands old new r (f s) W)
