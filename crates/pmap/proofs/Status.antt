-- A status of 0 is success: no call declines with the number 0.
--
-- own-tells  == so of a call's own answer after its checks
-- move_tells, first_tells, size_tells, neighbours_tells, factor_tells, joining_tells, open_tells, session_tells, pack_tells,
-- unpack_tells == so of every call
-- Assumes nothing.
use mathlib.Core.Path.{◌≡◌, refl}
use mathlib.Core.Bool.{true}
use mathlib.Core.List.{List, ◌++◌}
use Prim.Native.Nat.{ℕ, pred}
use native.Mathlib.Omega.{arith}
use lib.Ieee.{Float}
use Rattle.answers.specs.Checks.{Check, after, numbered}
use Rattle.answers.proofs.Steps.{by_checks}
use Rattle.answers.specs.Answer.{answer, refused_with, number_of, Tells, Kind}
use Rattle.words.specs.Brackets.{first}
use Rattle.words.specs.declared.family.Family.TheVariants.{Round as round}
use Rattle.words.specs.Word.{seen}
use Rattle.drawing.specs.Drawing.{Drawing}
use Rattle.drawing.specs.Session.{Call}
use Rattle.format.specs.Bytes.{size_in, word_in}
use Rattle.format.specs.Open.{open_checks, open_of}
use Rattle.format.specs.Calls.{reply_in, place_checks, map_answer, map_session, cells_in, cell_checks, first_in, first_of, places_in, size_of, neighbours_in, neighbours_of, join_in, join_checks, joining_of}
use Rattle.format.specs.Sessions.{calls_of, run_checks, ran_of}
use Rattle.tariff.specs.Maps.{factor_of, factor_checks, factor_in}
use Rattle.format.specs.Pack.{packed_bytes, pack_checks, pack_of, drawing_of, unpack_checks, unpack_of}

refused_tells : {A : Type 0} (k : ℕ) (xs : List ℕ) → (k ≡ 0 → ⊥) → Tells {A = A} (refused_with k xs)
unfolding number_of
refused_tells k xs m = record { answered = λ e. absurd (m e) }

answer_tells : {A : Type 0} (x : A) → Tells (answer x)
answer_tells x = record { answered = λ e. (x, refl) }

-- a call's answer, after its checks
after_tells : {A : Type 0} (cs : List Check) (x : A) → numbered cs ≡ true → Tells (after cs x)
after_tells cs x n = by_checks Tells cs (answer x) n (λ _. answer_tells x) (λ k xs l. refused_tells k xs (λ e. omega arith))

numbered_cell : (s : List ℕ) (c : Kind) (k : ℕ) → numbered (cell_checks s c k) ≡ true
numbered_cell s Kind.point k = refl
numbered_cell s Kind.area k = refl

module _ (s : List ℕ) where
  pub open_tells : Tells (open_of s)
  unfolding open_of
  open_tells = after_tells (open_checks s) (size_in s) refl

  pub move_tells : (c : Call) (i : ℕ) → Tells (map_answer s c i)
  unfolding map_answer
  move_tells c i = after_tells (place_checks s i) (reply_in (word_in s) c (pred i)) refl

  pub first_tells : (c : Kind) (k : ℕ) → Tells (first_of s c k)
  unfolding first_of
  first_tells c k = after_tells (cell_checks s c k) (first_in (word_in s) c k) (numbered_cell s c k)

  pub size_tells : (c : Kind) (k : ℕ) → Tells (size_of s c k)
  unfolding size_of
  size_tells c k = after_tells (cell_checks s c k) (places_in (word_in s) c k) (numbered_cell s c k)

  pub neighbours_tells : (k : ℕ) → Tells (neighbours_of s k)
  unfolding neighbours_of
  neighbours_tells k = after_tells (cell_checks s Kind.area k) (neighbours_in (word_in s) (cells_in (size_in s) Kind.area) k) refl

  pub joining_tells : (u v : ℕ) → Tells (joining_of s u v)
  unfolding joining_of
  joining_tells u v =
      after_tells (join_checks s u v)
      (join_in (word_in s) v (places_in (word_in s) Kind.point u) (first (seen round (word_in s)) (word_in s).size u)) refl

  pub factor_tells : (k : ℕ) (kinds : List ℕ) (values : List Float) → Tells (factor_of s k kinds values)
  unfolding factor_of factor_in
  factor_tells k kinds values = after_tells (factor_checks s k kinds values) (factor_in s k kinds values) refl

  pub session_tells : (i : ℕ) (ks : List ℕ) (k l : ℕ) → Tells (ran_of s i ks k l)
  unfolding ran_of
  session_tells i ks k l = after_tells (open_checks s ++ run_checks ks k l) (map_session s i (calls_of ks)) refl

  pub unpack_tells : (t k : ℕ) → Tells (unpack_of s t k)
  unfolding unpack_of
  unpack_tells t k =
      after_tells (unpack_checks s t k) (drawing_of (word_in s)) refl

pub pack_tells : (D : Drawing) (w o : ℕ) → Tells (pack_of D w o)
unfolding pack_of
pack_tells D w o = after_tells (pack_checks D w o) (packed_bytes D) refl
