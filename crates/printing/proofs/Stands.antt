-- A text at the start of the memory lent.
--
-- Stands t r old new == t stands at the start of new, which is as old after it, and r is its length
-- wrote_stands      == a text put from the first byte on stands there
-- stands_as, stands_within == an equal text stands there too; the length is within the memory
-- puts_stands       == so does a text put on a page of that memory
-- refused_stands    == the line of a refusal: the word and a space, then the number and a line feed
-- Assumes nothing.
use mathlib.Core.Path.{◌≡◌, sym, ap, ◌∙◌}
use mathlib.Core.List.{List, [], ◌∷◌, ◌++◌}
use Prim.Native.Nat.{ℕ, ◌+◌, ◌≤◌}
use native.Mathlib.Omega.{arith}
use lib.ListN.{length, drop, length-append}
use Rattle.answers.specs.Lent.{laid}
use Rattle.text.specs.Decimal.{codes, line_feed, decimal}
use Rattle.text.specs.Listing.{refused_line}
use Rattle.printing.specs.Writing.{Wrote, Puts}
use Rattle.printing.specs.declared.page.Page.{Page}
use Rattle.printing.proofs.Writes.{puts_then}

abbrev pub Stands : List ℕ → ℕ → List ℕ → List ℕ → Type 0
Stands t r old new = (r ≡ length t) × (new ≡ laid t old)

module _ (old new : List ℕ) (r : ℕ) where
  pub wrote_stands : (t : List ℕ) → Wrote old 0 t r new → Stands t r old new
  wrote_stands t W =
      let e : 0 + length t ≡ length t = omega arith in
      (W.next ∙ e, W.text ∙ ap (λ k. t ++ drop k old) e)

  pub stands_as : (t u : List ℕ) → u ≡ t → Stands t r old new → Stands u r old new
  stands_as t u e S = (S.0 ∙ ap length (sym e), S.1 ∙ ap (λ x. x ++ drop (length x) old) (sym e))

  pub stands_within : (t : List ℕ) → Stands t r old new → r ≤ length new
  stands_within t S = omega (arith, S.0, ap length S.1, length-append t (drop (length t) old))

module _ (old : List ℕ) (p q : Page) (o : p.out.now ≡ old) (z : p.at ≡ 0) where
  pub puts_stands : (t : List ℕ) → Puts p t q → Stands t q.at old q.out.now
  puts_stands t P =
      let W : Wrote old 0 t q.at q.out.now = rw (o, z) at P.wrote in
      wrote_stands old q.out.now q.at t W

  pub refused_stands : (k x : ℕ) → x ≡ k → (m : Page) → Puts p (codes "refused ") m → Puts m (decimal x ++ (line_feed ∷ [])) q
      → Stands (refused_line k) q.at old q.out.now
  unfolding refused_line
  refused_stands k x e m P Q =
      let Y : Puts m (decimal k ++ (line_feed ∷ [])) q = rw e at Q in
      puts_stands (refused_line k) (puts_then p m (codes "refused ") (omega arith) P (decimal k ++ (line_feed ∷ [])) q Y)
