-- Opening's checks: the tests decide their propositions, and opening gives the number of the first that fails.
--
-- decides_header, decides_size == the test of check 8 decides its proposition, of a header of any length and of the header
-- Passes s       == what the six checks say of the bytes s, in one record
-- open_decided   == the six tests decide the checks
-- opens_passes, passes_opens == no refusal applies exactly if they hold
-- opened s a     == a call's own answer a, after opening's checks
-- opened_opens, opened_declines == a call on map bytes gives its own answer, or opening's refusal
-- after_opens, after_declines == the same of a call with no checks of its own
-- open_refusals  == opening gives the number of the first check that fails, or m and n
-- Assumes nothing.
use mathlib.Core.Path.{◌≡◌, refl}
use mathlib.Core.Logic.{◌↔◌}
use mathlib.Core.Bool.{true}
use mathlib.Core.List.{List, []}
use Prim.Native.Nat.{ℕ, ◌+◌, ◌≤◌}
use native.Mathlib.Omega.{arith}
use lib.ListN.{length}
use Rattle.count.specs.Below.{Decides}
use Rattle.count.proofs.Decides.{decides_eq, decides_le, decides_both, decides_as}
use Rattle.answers.specs.Checks.{checked, after, Hold, InOrder, Decided}
use Rattle.answers.specs.Answer.{Answer, answer, refused}
use Rattle.answers.proofs.Steps.{checked_none, checked_some}
use Rattle.answers.proofs.Order.{each_hold, none_refuses, in_order}
use Rattle.words.specs.Brackets.{Balanced, balanced}
use Rattle.words.specs.declared.family.Family.{Family}
use Rattle.words.specs.declared.family.Family.TheVariants.{Round as round, Square as square}
use Rattle.words.proofs.Mate.{balanced_decides}
use Rattle.bits.specs.Strings.{rank, brackets, unused_zero}
use Rattle.bits.proofs.Laws.{unused_zero_from, unused_zero_has}
use Rattle.drawing.specs.Drawing.{most_borders}
use Rattle.format.specs.Bytes.{header, areas_of, size_in, written_areas, bits_a, bits_b, map_length, part_a, part_b}
use Rattle.format.specs.Open.{HeaderFits, header_fits, SizeFits, size_fits, AreasFit, areas_fit, LengthFits, length_fits, UnusedZero, UnusedFits, unused_fits, OnesFit, ones_fit}
use Rattle.format.specs.Open.{BracketsFit, brackets_fit, open_checks, open_refusal, open_of}

pub record Passes (s : List ℕ) : Type 0 where
  pub header_fits : header ≤ length s
  pub m_most : (size_in s).m ≤ most_borders
  pub n_least : 1 ≤ (size_in s).n
  pub n_most : (size_in s).n ≤ (size_in s).m + 1
  pub written : written_areas s ≡ areas_of (size_in s)
  pub long : length s ≡ map_length (size_in s)
  pub unused_a : unused_zero (part_a s) (bits_a (size_in s)) ≡ true
  pub unused_b : (K : Family) → unused_zero (part_b K s) (bits_b K (size_in s)) ≡ true
  pub ones : rank 1 (part_a s) (bits_a (size_in s)) ≡ bits_b round (size_in s)
  pub nested : (K : Family) → Balanced (brackets (part_b K s)) (bits_b K (size_in s))

by_family : (P : Family → Type 0) → P round → P square → (K : Family) → P K
by_family P r q round = r
by_family P r q square = q

unused_decides : (t : List ℕ) (k : ℕ) → Decides (unused_zero t k) (UnusedZero t k)
unused_decides t k = record { sound = λ e i l h. unused_zero_has t k i e l; complete = λ z. unused_zero_from t k z }

brackets_decides : (s : List ℕ) (K : Family)
    → Decides (balanced (brackets (part_b K s)) (bits_b K (size_in s))) (Balanced (brackets (part_b K s)) (bits_b K (size_in s)))
brackets_decides s K =
    let d = balanced_decides (brackets (part_b K s)) (bits_b K (size_in s)) in
    record { sound = d.0; complete = d.1 }

module _ (s : List ℕ) where
  pub decides_header : (h : ℕ) → Decides (header_fits h s) (HeaderFits h s)
  decides_header h =
      decides_as (λ t. record { header_fits = t.0.0.0; m_most = t.0.0.1; n_least = t.0.1; n_most = t.1 })
      (λ r. (((r.header_fits, r.m_most), r.n_least), r.n_most))
      (decides_both
      (decides_both (decides_both (decides_le h (length s)) (decides_le (size_in s).m most_borders)) (decides_le 1 (size_in s).n))
      (decides_le (size_in s).n ((size_in s).m + 1)))

  pub decides_size : Decides (size_fits s) (SizeFits s)
  unfolding size_fits
  decides_size = decides_header header

  decides_areas : Decides (areas_fit s) (AreasFit s)
  unfolding areas_fit
  decides_areas = decides_as (λ e. record { written = e }) (λ r. r.written) (decides_eq (written_areas s) (areas_of (size_in s)))

  decides_length : Decides (length_fits s) (LengthFits s)
  unfolding length_fits
  decides_length = decides_as (λ e. record { long = e }) (λ r. r.long) (decides_eq (length s) (map_length (size_in s)))

  decides_unused : Decides (unused_fits s) (UnusedFits s)
  unfolding unused_fits
  decides_unused =
      decides_as
      (λ t. record { unused_a = t.0.0; unused_b = by_family (λ K. UnusedZero (part_b K s) (bits_b K (size_in s))) t.0.1 t.1 })
      (λ r. ((r.unused_a, r.unused_b round), r.unused_b square))
      (decides_both
      (decides_both (unused_decides (part_a s) (bits_a (size_in s))) (unused_decides (part_b round s) (bits_b round (size_in s))))
      (unused_decides (part_b square s) (bits_b square (size_in s))))

  decides_ones : Decides (ones_fit s) (OnesFit s)
  unfolding ones_fit
  decides_ones =
      decides_as (λ e. record { ones = e }) (λ r. r.ones) (decides_eq (rank 1 (part_a s) (bits_a (size_in s))) (bits_b round (size_in s)))

  decides_brackets : Decides (brackets_fit s) (BracketsFit s)
  unfolding brackets_fit
  decides_brackets =
      decides_as (λ t. record { nested = by_family (λ K. Balanced (brackets (part_b K s)) (bits_b K (size_in s))) t.0 t.1 })
      (λ r. (r.nested round, r.nested square))
      (decides_both (brackets_decides s round) (brackets_decides s square))

  pub open_decided : Decided (open_checks s)
  open_decided = (decides_size, λ _. (decides_areas, λ _. (decides_length, λ _. (decides_unused, λ _. (decides_ones, λ _. (decides_brackets, λ _. tt))))))

  pub opens_hold : (open_refusal s ≡ 0) ↔ Hold (open_checks s) 6
  unfolding open_refusal
  opens_hold = none_refuses (open_checks s) open_decided refl

  pub opens_passes : open_refusal s ≡ 0 → Passes s
  opens_passes e =
      let all = opens_hold.0 e in
      let size : SizeFits s = all 0 (omega arith) in
      let areas : AreasFit s = all 1 (omega arith) in
      let length : LengthFits s = all 2 (omega arith) in
      let unused : UnusedFits s = all 3 (omega arith) in
      let ones : OnesFit s = all 4 (omega arith) in
      let brackets : BracketsFit s = all 5 (omega arith) in
      record {
        header_fits = size.header_fits;
        m_most = size.m_most;
        n_least = size.n_least;
        n_most = size.n_most;
        written = areas.written;
        long = length.long;
        unused_a = unused_zero_from (part_a s) (bits_a (size_in s)) unused.unused_a;
        unused_b = λ K. unused_zero_from (part_b K s) (bits_b K (size_in s)) (unused.unused_b K);
        ones = ones.ones;
        nested = brackets.nested;
      }

  pub passes_opens : Passes s → open_refusal s ≡ 0
  passes_opens h =
      let size : SizeFits s = record { header_fits = h.header_fits; m_most = h.m_most; n_least = h.n_least; n_most = h.n_most } in
      let unused : UnusedFits s = record {
        unused_a = (unused_decides (part_a s) (bits_a (size_in s))).sound h.unused_a;
        unused_b = λ K. (unused_decides (part_b K s) (bits_b K (size_in s))).sound (h.unused_b K);
      } in
      opens_hold.1
      (each_hold (open_checks s) []
      (size, (record { written = h.written }, (record { long = h.long }, (unused, (record { ones = h.ones }, (record { nested = h.nested }, tt)))))))

  pub open_refusals : InOrder (open_checks s) (size_in s) (open_of s)
  unfolding open_of
  open_refusals = in_order (open_checks s) (size_in s) open_decided

-- ---- a call on map bytes, by opening's number
-- 01: "Every call on map bytes runs 8 to 12, then its own", and with them 20
unfoldable pub opened : {A : Type 0} → List ℕ → Answer A → Answer A
unfolding size_fits areas_fit length_fits unused_fits ones_fit brackets_fit
opened s a = checked (open_checks s) a

module _ {A : Type 0} (s : List ℕ) (a : Answer A) where
  pub opened_opens : open_refusal s ≡ 0 → opened s a ≡ a
  unfolding opened open_refusal
  opened_opens o = checked_none (open_checks s) a refl o

  pub opened_declines : (open_refusal s ≡ 0 → ⊥) → opened s a ≡ refused (open_refusal s)
  unfolding opened open_refusal
  opened_declines m = checked_some (open_checks s) a refl m

module _ {A : Type 0} (s : List ℕ) (x : A) where
  pub after_opens : open_refusal s ≡ 0 → after (open_checks s) x ≡ answer x
  unfolding opened
  after_opens o = opened_opens s (answer x) o

  pub after_declines : (open_refusal s ≡ 0 → ⊥) → after (open_checks s) x ≡ refused (open_refusal s)
  unfolding opened
  after_declines m = opened_declines s (answer x) m
