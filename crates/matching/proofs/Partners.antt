-- The answers of the public functions, from the scans that they make: for their proofs.
--
-- balanced_past, balanced_not, balanced_so == is_balanced: the string is too short; the scan stops, or passes all
-- ahead_none, ahead_at_once, ahead_rest == ahead: over nothing, over a few brackets at once, over all others
-- ahead_stops, ahead_goes           == a scan to m stops, or goes on
-- left_most, depth_most             == what a scan leaves is at most n
-- closing_is                        == closing: where the scan from it stops
-- enclosing_past, enclosing_first, enclosing_on, enclosing_room == enclosing: past the end; and the same, backwards
-- partner_far, partner_ahead, partner_behind == partner: no closing can come, the closing, the opening
-- Assumes nothing.
use mathlib.Core.Path.{◌≡◌, sym, ap, ◌∙◌}
use mathlib.Core.Bool.{false}
use mathlib.Core.List.{List}
use Prim.Native.Nat.{ℕ, pred, ◌+◌, ◌-◌, ◌*◌, ◌/◌, ◌<◌, ◌≤◌, min}
use native.Mathlib.Numerals.{add-one}
use native.Mathlib.Omega.{arith}
use borrow.Author.Tests.{ne_eqb}
use lib.Dec.{eqb}
use lib.ListN.{length}
use Rattle.words.specs.Brackets.{inner, balanced, closer, mate}
use Rattle.words.proofs.Stack.{inner_le, inner_opens}
use Rattle.words.proofs.Mate.{mate_of_opens, mate_of_closes}
use Rattle.bits.specs.Strings.{bit, among, widest, brackets}
use Rattle.bits.proofs.Laws.{bit_past, bracket_0, bracket_not_0}
use Rattle.matching.specs.Scans.{ahead, behind}
use Rattle.matching.specs.declared.scans.Scan.{Scan}
use Rattle.matching.proofs.Depth.{inside_far}
use Rattle.matching.proofs.Scanning.{whole, stuck}
use Rattle.matching.proofs.Meaning.{balanced_scan, closer_scan, inner_scan}
use Rattle.matching.proofs.Laws.{ahead_end, ahead_few, ahead_on, ahead_off, ahead_left, ahead_depth, behind_on, behind_off, behind_left, behind_depth}

-- past the end of the string the last bracket opens
inner_past : (s : List ℕ) (i : ℕ) → length s < i / 8 → inner (brackets s) i ≡ i
inner_past s i l =
    let p : i - 1 + 1 ≡ i = omega arith in
    rw p at (inner_opens (brackets s) (i - 1) (bracket_0 s (i - 1) (bit_past s (i - 1) (omega arith))))

-- ---- is_balanced
pub balanced_past : (s : List ℕ) (n : ℕ) → length s < n / 8 → false ≡ balanced (brackets s) n
unfolding balanced
balanced_past s n l = rw (inner_past s n l, ne_eqb n 0 (λ z. omega arith))

pub balanced_not : (s : List ℕ) (n : ℕ) (w : Scan) → w ≡ ahead s n 0 0 → (w.left ≡ 0 → ⊥) → false ≡ balanced (brackets s) n
balanced_not s n w h z = rw (ne_eqb w.left 0 z) at (rw (← h) at (balanced_scan s n))

pub balanced_so : (s : List ℕ) (n : ℕ) (w : Scan) → w ≡ ahead s n 0 0 → w.left ≡ 0 → eqb w.depth 0 ≡ balanced (brackets s) n
balanced_so s n w h z = rw z at (rw (← h) at (balanced_scan s n))

-- ---- ahead
pub left_most : (s : List ℕ) (n p d : ℕ) (w : Scan) → w ≡ ahead s n p d → w.left ≤ n
left_most s n p d w h = rw h (omega (arith, ahead_left s n p d))

pub depth_most : (s : List ℕ) (n p d : ℕ) (w : Scan) → w ≡ ahead s n p d → p ≤ n → d ≤ p → w.depth ≤ n
depth_most s n p d w h l k = rw h (omega (arith, ahead_depth s n p d))

module _ (s : List ℕ) (n p d e : ℕ) (h : e ≡ min d p) where
  pub ahead_none : n ≤ p → whole e ≡ ahead s n p (min d p)
  ahead_none l = rw h (sym (ahead_end s n p (min d p) l))

  -- c of the brackets close
  pub ahead_at_once : (l c : ℕ) → l ≡ min e widest → n - p ≤ l → c ≡ among 1 s p (min (n - p) widest) → c ≤ min (n - p) widest
      → whole (e + (n - p) - 2 * c) ≡ ahead s n p (min d p)
  ahead_at_once l c f g r k =
      let q : min (n - p) widest ≡ n - p = omega arith in
      rw (← h) (sym (ahead_few s n p e c (omega arith) (rw q at r) (omega arith)))

  pub ahead_rest : (w : Scan) → w ≡ ahead s n p e → w ≡ ahead s n p (min d p)
  ahead_rest w r = rw (← h) r

-- one scan to m, and one from there on
module _ (s : List ℕ) (n m p d : ℕ) (l : p ≤ m) (h : m ≤ n) (w : Scan) (r : w ≡ ahead s m p d) where
  pub ahead_stops : (w.left ≡ 0 → ⊥) → stuck (w.left + (n - m)) ≡ ahead s n p d
  ahead_stops z =
      let x : 0 < w.left = omega arith in
      rw r (sym (ahead_off s n m p d l h (rw r at x)))

  pub ahead_goes : (v : Scan) → w.left ≡ 0 → v ≡ ahead s n m w.depth → v ≡ ahead s n p d
  ahead_goes v z g = g ∙ rw r (sym (ahead_on s n m p d l h (rw r at z)))

-- ---- closing
pub closing_is : (s : List ℕ) (n i : ℕ) (w : Scan) → i < n → bit s i ≡ 0 → w ≡ ahead s n (i + 1) (min 0 (i + 1)) → n - w.left ≡ closer (brackets s) n i
closing_is s n i w l o h =
    let z : min 0 (i + 1) ≡ 0 = omega arith in
    rw (h, z, add-one i) (closer_scan s n i l o)

-- ---- enclosing
pub enclosing_past : (s : List ℕ) (i : ℕ) → length s < i / 8 → (i ≡ inner (brackets s) i) × (i ≤ i)
enclosing_past s i l = (sym (inner_past s i l), omega arith)

module _ (s : List ℕ) (i m : ℕ) (w : Scan) (l : m ≤ i) (h : w ≡ behind s m i 0) where
  pub enclosing_first : (w.left ≡ 0 → ⊥) → (m + w.left ≡ inner (brackets s) i) × (m + w.left ≤ i)
  enclosing_first z =
      let x : 0 < w.left = omega arith in
      let e = ap (λ v. v.left) (behind_off s 0 m i 0 (omega arith) l (rw h at x)) in
      let f : w.left ≤ i - m = rw h (behind_left s m i 0) in
      let g : m + w.left ≡ inner (brackets s) i = rw h (omega (arith, inner_scan s i)) in
      (g, omega arith)

  pub enclosing_on : (v : Scan) → w.left ≡ 0 → v ≡ behind s 0 m w.depth → (v.left ≡ inner (brackets s) i) × (v.left ≤ i)
  enclosing_on v z g =
      let e = behind_on s 0 m i 0 (omega arith) l (rw h at z) in
      let f : v.left ≡ inner (brackets s) i = rw (g, h, ← e) (inner_scan s i) in
      (f, omega (arith, inner_le (brackets s) i))

  pub enclosing_room : m + w.depth ≤ i
  enclosing_room = rw h (omega (arith, behind_depth s m i 0))

-- ---- partner
module _ (s : List ℕ) (n i r : ℕ) (h : r ≡ bit s i) where
  pub partner_far : r ≡ 0 → n ≤ i → n ≡ mate (brackets s) n i
  partner_far e l = inside_far (brackets s) n i l ∙ sym (mate_of_opens (brackets s) n i (bracket_0 s i (sym h ∙ e)))

  pub partner_ahead : (x : ℕ) → r ≡ 0 → x ≡ closer (brackets s) n i → x ≡ mate (brackets s) n i
  partner_ahead x e q = q ∙ sym (mate_of_opens (brackets s) n i (bracket_0 s i (sym h ∙ e)))

  pub partner_behind : (x y : ℕ) → (r ≡ 0 → ⊥) → y ≡ inner (brackets s) i → x ≡ pred y → x ≡ mate (brackets s) n i
  partner_behind x y z q p = p ∙ ap pred q ∙ sym (mate_of_closes (brackets s) n i (bracket_not_0 s i (λ e. z (h ∙ e))))
