-- A drawing that passes 1 to 7: its tour, its word, and that its bytes are a map.
--
-- passes_toured    == its tour meets all ends, and borders of one kind nest
-- passes_fits      == its word fits m and n
-- packed_opens, packed_map, packed_size == its bytes pass opening's checks, are a byte string that opens, and have m and n
-- Assumes nothing.
use mathlib.Core.Path.{◌≡◌, refl, sym, ◌∙◌}
use mathlib.Core.Logic.{inl, inr}
use Prim.Native.Nat.{ℕ, ◌+◌, ◌-◌, ◌*◌, ◌≤◌, ◌<◌}
use native.Mathlib.Omega.{arith}
use Rattle.count.proofs.Logic.{true_or_false}
use Rattle.count.proofs.Counts.{count_le}
use Rattle.answers.specs.Answer.{Kind}
use Rattle.drawing.specs.Drawing.{Drawing, borders, ends, is_marked, cells, end_at}
use Rattle.drawing.specs.Checks.{PassesSix, PassesSeven, Alternate, mark_count}
use Rattle.drawing.proofs.Ends.{turn_permutes, border_below}
use Rattle.tours.specs.Tour.{MeetsAll}
use Rattle.tours.proofs.Theorems.{passes_meets, tree_nests}
use Rattle.format.specs.Bytes.{size_in}
use Rattle.format.specs.Fits.{Fits}
use Rattle.format.specs.Open.{open_refusal, Opens}
use Rattle.format.specs.Pack.{word_of, size_for, packed_bytes}
use Rattle.format.proofs.Encode.{encode_opens, map_bytes_small}
use Rattle.format.proofs.Parts.{size_of_bytes}
use Rattle.agreement.specs.Toured.{Toured}
use Rattle.agreement.proofs.Nesting.{word_balanced}
use Rattle.agreement.proofs.Counts.{points_count, letters_round}

-- the borders that alternate are borders of the drawing
alternate_below : (D : Drawing) (a b : ℕ) → MeetsAll D → Alternate D a b → (a < borders D) × (b < borders D)
unfolding ends
alternate_below D a b meets x =
    let p = border_below (borders D) (end_at D x.p) (meets.end_below x.p (omega arith)) in
    let q = border_below (borders D) (end_at D x.q) (meets.end_below x.q (omega arith)) in
    (rw x.at_p at p, rw x.at_q at q)

marks_most : (D : Drawing) → mark_count D ≤ borders D
unfolding mark_count
marks_most D = count_le (is_marked D) (borders D)

module _ (D : Drawing) (seven : PassesSeven D) where
  pub passes_toured : Toured D
  passes_toured =
      let six : PassesSix D = seven.six in
      let meets : MeetsAll D = passes_meets D six in
      record {
        permutes = turn_permutes D six.range six.entries;
        meets = meets;
        nests = λ a b two alike x.
            elim (true_or_false (is_marked D a)) [
              | inl t ↦ (tree_nests D six).never a b t (sym alike ∙ t) x
              | inr f ↦
                  let below = alternate_below D a b meets x in
                  seven.flat a b (record {
                    first_border = below.0;
                    second_border = below.1;
                    two = two;
                    first_unmarked = f;
                    second_unmarked = sym alike ∙ f;
                    alternate = x;
                  })
            ];
      }

  -- the word has as many letters as the drawing has ends
  pub passes_fits : Fits (size_for D) (word_of D)
  unfolding word_of ends borders
  passes_fits =
      let T : Toured D = passes_toured in
      let points : cells D Kind.point ≡ 1 + mark_count D = points_count T in
      let letters = letters_round T in
      let half = seven.six.lengths.half in
      let most = seven.six.lengths.most in
      let few : mark_count D ≤ borders D = marks_most D in
      record {
        m_most = omega arith;
        n_least = omega arith;
        n_most = omega arith;
        size = refl;
        rounds = letters ∙ (let e : 2 * mark_count D ≡ 2 * cells D Kind.point - 2 = omega arith in e);
        nested = λ K. word_balanced T K;
      }

  pub packed_opens : open_refusal (packed_bytes D) ≡ 0
  unfolding packed_bytes
  packed_opens = encode_opens (size_for D) (word_of D) passes_fits

  pub packed_map : Opens (packed_bytes D)
  unfolding packed_bytes
  packed_map = record { bytes = map_bytes_small (size_for D) (word_of D); passes = packed_opens }

  pub packed_size : size_in (packed_bytes D) ≡ size_for D
  unfolding packed_bytes
  packed_size =
      let f : Fits (size_for D) (word_of D) = passes_fits in
      size_of_bytes (size_for D) (word_of D) (omega (arith, f.m_most)) (omega (arith, f.m_most, f.n_most))
