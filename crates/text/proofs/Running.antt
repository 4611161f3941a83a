-- The running count of ones while a map is listed.
--
-- counts_next, rank_next == a count is got from the one before and this place's bit, and so is the rank in A
-- counts_rank  == they are the same
-- counts_le    == so no more than the places before
-- running_rank == for every map listed: each line's rank in A is the count, and its bracket is found by it
-- kind_read    == so is the kind that its line has
-- Assumes nothing.
use mathlib.Core.Path.{◌≡◌, refl, sym, ap, ◌∙◌}
use mathlib.Core.List.{List, [], ◌∷◌}
use Prim.Native.Nat.{ℕ, zero, suc, ◌+◌, ◌-◌, ◌≤◌}
use native.Mathlib.Omega.{arith}
use native.Mathlib.Numerals.{add-one}
use Rattle.words.specs.declared.family.Family.TheVariants.{Round as round, Square as square}
use Rattle.text.specs.Running.{counts, letter_from, RunningRank}
use Rattle.bits.specs.Strings.{bit, rank}
use Rattle.bits.proofs.Laws.{bit_cases, rank_zero, rank_here, rank_other, rank_le, rank_both}
use Rattle.format.specs.Bytes.{part_a, part_b, word_in}
use Rattle.text.specs.Listing.{kind}

module _ (A : List ℕ) where
  counts_next : (p : ℕ) → counts A (p + 1) ≡ counts A p + bit A p
  unfolding counts
  counts_next p = ap (counts A) (add-one p)

  rank_next : (p : ℕ) → rank 1 A (p + 1) ≡ rank 1 A p + bit A p
  rank_next p =
      bit_cases A p
      (λ e. omega (arith, e, rank_other 1 A p (λ f. absurd (omega (arith, e, f)))))
      (λ e. omega (arith, e, rank_here 1 A p e))

  counts_rank : (p : ℕ) → rank 1 A p ≡ counts A p
  unfolding counts
  counts_rank zero = rank_zero 1 A
  counts_rank (suc p) = ap (rank 1 A) (sym (add-one p)) ∙ omega (arith, rank_next p, counts_rank p)

pub running_rank : (s : List ℕ) → RunningRank s
unfolding counts word_in
running_rank s =
    let A : List ℕ = part_a s in
    let zeros : (p : ℕ) → rank 0 A p ≡ p - counts A p = λ p. omega (arith, rank_both A p, counts_rank A p) in
    record {
      first = refl;
      next = counts_next A;
      marked = counts_rank A;
      unmarked = zeros;
      letter = λ p.
          bit_cases A p
          (λ e. rw (e, sym (zeros p)) refl)
          (λ e. rw (e, sym (counts_rank A p)) refl);
    }

module _ (s : List ℕ) (p ones : ℕ) (h : ones ≡ counts (part_a s) p) where
  pub counts_le : ones ≤ p
  counts_le = omega (arith, h, (running_rank s).marked p, rank_le 1 (part_a s) p)

  pub kind_read : (a b c : List ℕ) (x y z r : ℕ) → a ≡ part_a s → b ≡ part_b round s → c ≡ part_b square s
      → x ≡ bit a p → y ≡ bit b ones → z ≡ bit c (p - ones) → kind (letter_from x y z) ≡ r ∷ [] → kind ((word_in s).letter p) ≡ r ∷ []
  kind_read a b c x y z r ea eb ec ex ey ez e =
      let fx : x ≡ bit (part_a s) p = cc in
      let fy : y ≡ bit (part_b round s) (counts (part_a s) p) = cc in
      let fz : z ≡ bit (part_b square s) (p - counts (part_a s) p) = cc in
      ap kind ((running_rank s).letter p) ∙ rw (sym fx, sym fy, sym fz) e
