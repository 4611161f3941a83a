-- Tests that decide propositions: the comparisons of numbers, and tests made of tests.
--
-- decides_eq, decides_le, decides_lt  == eqb, leb and ltb decide ≡, ≤ and <
-- decides_true       == a test decides that it holds
-- decides_not        == the negation of a test decides the negation
-- decides_both       == s && t decides the pair
-- decides_all        == a test of each x < n decides "for every x < n"
-- decides_any        == and "for some x < n"
-- decides_as         == a test decides what is equivalent to what it decides
-- decides_refutes    == a test that fails refutes what it decides
-- Assumes nothing.
use mathlib.Core.Path.{◌≡◌, refl}
use mathlib.Core.Bool.{Bool, true, false, not, ◌&&◌}
use Prim.Native.Nat.{ℕ, ◌≤◌, ◌<◌}
use lib.Dec.{eqb, leb, ltb}
use borrow.Author.Tests.{eqb-true, leb-true, ltb-true, eq-eqb, le-leb, lt-ltb}
use Rattle.count.specs.Below.{Decides, all, any}
use Rattle.count.proofs.Logic.{true_not_false, both, both_left, both_right}
use Rattle.count.proofs.Search.{all_has, all_from, any_has, any_from}

pub decides_true : (t : Bool) → Decides t (t ≡ true)
decides_true t = record { sound = λ e. e; complete = λ e. e }

pub decides_eq : (a b : ℕ) → Decides (eqb a b) (a ≡ b)
decides_eq a b = record { sound = eqb-true a b; complete = eq-eqb a b }

pub decides_le : (a b : ℕ) → Decides (leb a b) (a ≤ b)
decides_le a b = record { sound = leb-true a b; complete = le-leb a b }

pub decides_lt : (a b : ℕ) → Decides (ltb a b) (a < b)
decides_lt a b = record { sound = ltb-true a b; complete = lt-ltb a b }

module _ {P : Type 0} where
  pub decides_refutes : {t : Bool} → Decides t P → t ≡ false → P → ⊥
  decides_refutes {t} d e p = true_not_false t (d.complete p) e

  pub decides_not : {t : Bool} → Decides t P → Decides (not t) (P → ⊥)
  decides_not {t = true} d = record { sound = λ e p. true_not_false false e refl; complete = λ f. absurd (f (d.sound refl)) }
  decides_not {t = false} d = record { sound = λ e. decides_refutes d refl; complete = λ f. refl }

  pub decides_as : {Q : Type 0} {t : Bool} → (P → Q) → (Q → P) → Decides t P → Decides t Q
  decides_as f g d = record { sound = λ e. f (d.sound e); complete = λ q. d.complete (g q) }

  pub decides_both : {Q : Type 0} {s t : Bool} → Decides s P → Decides t Q → Decides (s && t) (P × Q)
  decides_both {s = s} {t = t} d e =
      record {
        sound = λ h. (d.sound (both_left s t h), e.sound (both_right s t h));
        complete = λ pq. both s t (d.complete pq.0) (e.complete pq.1);
      }

pub decides_all : (t : ℕ → Bool) (P : ℕ → Type 0) (n : ℕ) → ((x : ℕ) → x < n → Decides (t x) (P x)) → Decides (all t n) ((x : ℕ) → x < n → P x)
decides_all t P n d =
    record {
      sound = λ h x b. (d x b).sound (all_has t n h x b);
      complete = λ f. all_from t n (λ x b. (d x b).complete (f x b));
    }

pub decides_any : (t : ℕ → Bool) (P : ℕ → Type 0) (n : ℕ) → ((x : ℕ) → x < n → Decides (t x) (P x)) → Decides (any t n) ((x : ℕ) × (x < n) × P x)
decides_any t P n d =
    record {
      sound = λ h. let r = any_has t n h in (r.0, r.1, (d r.0 r.1).sound r.2);
      complete = λ f. any_from t n f.0 f.1 ((d f.0 f.1).complete f.2);
    }
