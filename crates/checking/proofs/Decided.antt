-- Tests that decide one proposition.
--
-- decides_yes, decides_no == what holds is decided by true, what fails by false
-- decides_same     == two tests of one proposition are equal
-- passes, fails    == what a test says that was computed and negated
-- Assumes nothing.
use mathlib.Core.Path.{◌≡◌, refl, sym, ◌∙◌}
use mathlib.Core.Bool.{Bool, true, false, not}
use borrow.Author.Tests.{not-true, not-false}
use Rattle.count.specs.Below.{Decides}
use Rattle.count.proofs.Logic.{bool_same, true_not_false}

module _ {P : Type 0} where
  pub decides_yes : P → Decides true P
  decides_yes p = record { sound = λ e. p; complete = λ q. refl }

  pub decides_no : (P → ⊥) → Decides false P
  decides_no n = record { sound = λ e. absurd (true_not_false false e refl); complete = λ p. absurd (n p) }

  pub decides_same : {s t : Bool} → Decides s P → Decides t P → s ≡ t
  decides_same {s} {t} d e = bool_same s t (λ h. e.complete (d.sound h)) (λ h. d.complete (e.sound h))

-- a test r that was computed, and the test t that it computes
module _ (r t : Bool) (e : r ≡ t) where
  pub passes : not r ≡ false → t ≡ true
  passes h = sym e ∙ not-false r h

  pub fails : not r ≡ true → t ≡ false
  fails h = sym e ∙ not-true r h
