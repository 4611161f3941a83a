-- Neighbours and sides (document 02, 3/14), as theorems: of every byte string, and of the book of every drawing that packing accepts.
--
-- neighbours_mutual == area j is across a side of k exactly if k is across a side of j
-- neighbours_sides  == the neighbour count is that of the other areas across a side; at most the sides; 0 exactly if all borders of
--                      the area part nothing, and on the empty map
-- Assumes nothing.
use mathlib.Core.Path.{◌≡◌, refl, sym, ap, ◌∙◌}
use mathlib.Core.Logic.{◌↔◌}
use mathlib.Core.Bool.{Bool, true, false, not, ◌&&◌}
use mathlib.Core.List.{List}
use Prim.Native.Nat.{ℕ, suc, pred, ◌*◌, ◌≤◌, ◌<◌}
use native.Mathlib.Omega.{arith}
use lib.Dec.{eqb}
use Rattle.count.specs.Below.{Decides, pick, count}
use Rattle.count.proofs.Logic.{bool_same, pick_yes}
use Rattle.count.proofs.Decides.{decides_lt, decides_le, decides_both}
use Rattle.count.proofs.Counts.{count_same}
use Rattle.answers.specs.Answer.{Answer, answer, refused, number_of, Kind}
use Rattle.drawing.specs.Neighbours.{Across, is_across, neighbours}
use Rattle.drawing.proofs.Neighbours.{across_is, across_mutual, neighbours_most, neighbours_none}
use Rattle.drawing.specs.Drawing.{Drawing, borders, ends, other, cells}
use Rattle.drawing.specs.Session.{Call}
use Rattle.drawing.specs.Book.{number_at, has_number, ends_on, book_size, book_neighbours}
use Rattle.drawing.proofs.Ends.{other_other, other_end}
use Rattle.words.specs.Brackets.{number, size}
use Rattle.words.specs.declared.family.Family.TheVariants.{Square as square}
use Rattle.words.specs.Word.{seen, mate_in}
use Rattle.words.proofs.Mates.{mate_in_below, mate_in_involutive}
use Rattle.format.specs.Bytes.{size_in, word_in}
use Rattle.format.specs.Open.{open_refusal}
use Rattle.format.specs.Calls.{move_in, cross_of, area_of, cells_in, is_number, places_in, size_of, neighbours_in, neighbours_of}
use Rattle.format.proofs.Openings.{cells_numbers, number_cells}
use Rattle.format.proofs.Passes.{opened}
use Rattle.agreement.specs.Toured.{Toured}
use Rattle.agreement.proofs.Counts.{cells_agree}
use Rattle.agreement.proofs.Passed.{passes_toured}
use Rattle.demands.proofs.Answers.{opens_opened}
use Rattle.demands.proofs.Asked.{nested, plain_at, asked_plain}
use Rattle.demands.proofs.Cells.{number_range_is, known_numbers}
use Rattle.demands.proofs.Demands.{demand_2_pack}
use Rattle.demands.specs.Neighbours.{MapAcross, BookAcross, NeighboursMutual, NeighbourCounts, NeighboursSides}

-- ---- any account of a map
module _ (area cross : ℕ → ℕ) (n m v : ℕ) (range : (p : ℕ) → p < n → (1 ≤ area (cross p)) × (area (cross p) ≤ v))
    (across : ℕ → ℕ → Type 0) (same : (k j : ℕ) → across k j ↔ Across area cross n k j)
    (counts sides : ℕ → Answer ℕ) (known : ℕ → Bool)
    (counts_are : (k : ℕ) → counts k ≡ pick (known k) (answer (neighbours area cross n v k)) (refused 15))
    (sides_are : (k : ℕ) → sides k ≡ pick (known k) (answer (count (λ p. eqb (area p) k) n)) (refused 15))
    (one : known 1 ≡ true) (ends_are : n ≡ 2 * m) where
  picked : (t : Bool) (x c : ℕ) → pick t (answer x) (refused 15) ≡ answer c → x ≡ c
  picked true x c e = cc
  picked false x c e = let z : ◌≡◌ {A = ℕ} 0 1 = cc in absurd (omega arith)

  count_is : (k c : ℕ) → counts k ≡ answer c → neighbours area cross n v k ≡ c
  count_is k c e = picked (known k) (neighbours area cross n v k) c (sym (counts_are k) ∙ e)

  sides_is : (k d : ℕ) → sides k ≡ answer d → count (λ p. eqb (area p) k) n ≡ d
  sides_is k d e = picked (known k) (count (λ p. eqb (area p) k) n) d (sym (sides_are k) ∙ e)

  by_any_test : (k : ℕ) (t : ℕ → Bool) → ((j : ℕ) → Decides (t j) (across k j))
      → neighbours area cross n v k ≡ count (λ i. not (eqb (suc i) k) && t (suc i)) v
  unfolding neighbours
  by_any_test k t d =
      count_same (λ i. not (eqb (suc i) k) && is_across area cross n k (suc i)) (λ i. not (eqb (suc i) k) && t (suc i)) v
      (λ i l.
      let A = across_is area cross n k (suc i) in
      ap (λ y. not (eqb (suc i) k) && y)
      (bool_same (is_across area cross n k (suc i)) (t (suc i))
      (λ y. (d (suc i)).complete ((same k (suc i)).1 (A.sound y))) (λ y. A.complete ((same k (suc i)).0 ((d (suc i)).sound y)))))

  picked_number : (t : Bool) (x y : ℕ) → number_of (pick t (answer x) (refused 15)) ≡ number_of (pick t (answer y) (refused 15))
  unfolding number_of
  picked_number true x y = refl
  picked_number false x y = refl

  neighbour_counts : NeighbourCounts m v across counts sides
  neighbour_counts =
      record {
        counted = λ k c e t d. sym (count_is k c e) ∙ by_any_test k t d;
        refused = λ k.
            ap number_of (counts_are k) ∙ picked_number (known k) (neighbours area cross n v k) (count (λ p. eqb (area p) k) n)
            ∙ sym (ap number_of (sides_are k));
        most = λ k c d e f. omega (arith, neighbours_most area cross n v k, count_is k c e, sides_is k d f);
        none = λ k c e.
            let N = neighbours_none area cross n v k range in (
              λ z j x. N.0 (count_is k c e ∙ z) j ((same k j).0 x),
              λ own. sym (count_is k c e) ∙ N.1 (λ j x. own j ((same k j).1 x)),
            );
        empty = λ z.
            let N = neighbours_none area cross n v 1 range in
            counts_are 1 ∙ pick_yes (known 1) (answer (neighbours area cross n v 1)) (refused 15) one
            ∙ ap answer (N.1 (λ j x. absurd (omega (arith, x.below))));
      }

-- ---- the map
module _ (s : List ℕ) where
  abbrev area : ℕ → ℕ
  area = number (seen square (word_in s))

  abbrev crosses : ℕ → ℕ
  crosses = mate_in (word_in s)

  area_opens : (i k : ℕ) → area_of s i ≡ answer k → open_refusal s ≡ 0
  unfolding area_of
  area_opens i k e = (asked_plain s Call.area i k e).0.opens

  area_asked : (i k : ℕ) → area_of s i ≡ answer k → (pred i < (word_in s).size) × (area (pred i) ≡ k)
  unfolding area_of move_in
  area_asked i k e = let a = asked_plain s Call.area i k e in (a.0.below, a.1)

  cross_asked : (i q : ℕ) → cross_of s i ≡ answer q → suc (crosses (pred i)) ≡ q
  unfolding cross_of move_in
  cross_asked i q e = (asked_plain s Call.cross i q e).1

  module _ (o : open_refusal s ≡ 0) where
    area_answers : (p : ℕ) → p < (word_in s).size → area_of s (suc p) ≡ answer (area p)
    unfolding area_of move_in
    area_answers p l = plain_at s o Call.area p l

    cross_answers : (p : ℕ) → p < (word_in s).size → cross_of s (suc p) ≡ answer (suc (crosses p))
    unfolding cross_of move_in
    cross_answers p l = plain_at s o Call.cross p l

    crosses_back : (p : ℕ) → p < (word_in s).size → (crosses p < (word_in s).size) × (crosses (crosses p) ≡ p)
    crosses_back p l = (mate_in_below (word_in s) (nested s o) p l, mate_in_involutive (word_in s) (nested s o) p l)

    map_across : (k j : ℕ) → MapAcross s k j ↔ Across area crosses (word_in s).size k j
    map_across k j = (
      λ x.
          let h = area_asked x.place k x.here in
          let t = area_asked x.beyond j x.there in
          let c = cross_asked x.place x.beyond x.crosses in
          record { side = pred x.place; below = h.0; here = h.1; there = ap area (ap pred c) ∙ t.1 },
      λ x.
          let b = crosses_back x.side x.below in
          record {
            place = suc x.side;
            beyond = suc (crosses x.side);
            here = area_answers x.side x.below ∙ ap answer x.here;
            crosses = cross_answers x.side x.below;
            there = area_answers (crosses x.side) b.0 ∙ ap answer x.there;
          },
    )

    map_known : (k : ℕ) → (is_number (size_in s) Kind.area k ≡ true) ↔ ((1 ≤ k) × (k ≤ cells_in (size_in s) Kind.area))
    map_known k = let d = decides_both (decides_lt 0 k) (decides_le k (cells_in (size_in s) Kind.area)) in (d.sound, d.complete)

    map_counts : NeighbourCounts (size_in s).m (cells_in (size_in s) Kind.area) (MapAcross s) (neighbours_of s) (size_of s Kind.area)
    unfolding word_in neighbours_of neighbours_in size_of places_in size opened
    map_counts =
        let v : ℕ = cells_in (size_in s) Kind.area in
        neighbour_counts area crosses (word_in s).size (size_in s).m v
        (λ p l. number_cells s o Kind.area (crosses p) (crosses_back p l).0)
        (MapAcross s) map_across (neighbours_of s) (size_of s Kind.area) (is_number (size_in s) Kind.area)
        (λ k. opens_opened s (pick (is_number (size_in s) Kind.area k) (answer (neighbours_in (word_in s) v k)) (refused 15)) o)
        (λ k. opens_opened s (pick (is_number (size_in s) Kind.area k) (answer (places_in (word_in s) Kind.area k)) (refused 15)) o)
        ((map_known 1).1 (omega arith, omega (arith, cells_numbers s Kind.area o))) (omega arith)

-- ---- the book
module _ (D : Drawing) where
  book_back : (h : ℕ) → h < ends D → (other h < ends D) × (other (other h) ≡ h)
  book_back h l = (other_end D h l, other_other h)

  module _ (T : Toured D) where
    book_range : (h : ℕ) → h < ends D → (1 ≤ number_at D Kind.area (other h)) × (number_at D Kind.area (other h) ≤ cells D Kind.area)
    unfolding ends
    book_range h l =
        let k : ℕ = number_at D Kind.area (other h) in
        let r = (number_range_is T Kind.area k).0 (((known_numbers T Kind.area).ended (omega arith) k).1 (other h, (book_back h l).0, refl)) in
        (r.0, omega (arith, r.1, cells_agree T Kind.area))

    book_counts : NeighbourCounts (borders D) (cells D Kind.area) (BookAcross D) (book_neighbours D) (book_size D Kind.area)
    unfolding ends book_neighbours book_size ends_on
    book_counts =
        neighbour_counts (number_at D Kind.area) other (ends D) (borders D) (cells D Kind.area) book_range
        (BookAcross D) (λ k j. (λ x. x, λ x. x)) (book_neighbours D) (book_size D Kind.area) (has_number D Kind.area)
        (λ k. refl) (λ k. refl) ((number_range_is T Kind.area 1).1 (omega arith, omega arith)) refl

-- ---- both
over_map : (s : List ℕ) (k j : ℕ) → MapAcross s k j → MapAcross s j k
over_map s k j x =
    let o = area_opens s x.place k x.here in
    (map_across s o j k).1 ((across_mutual (area s) (crosses s) (word_in s).size (crosses_back s o) k j).0 ((map_across s o k j).0 x))

pub neighbours_mutual : NeighboursMutual
neighbours_mutual =
    record {
      map = λ s k j. (over_map s k j, over_map s j k);
      book = λ D. across_mutual (number_at D Kind.area) other (ends D) (book_back D);
    }

pub neighbours_sides : NeighboursSides
neighbours_sides =
    record {
      map = λ s opens. map_counts s opens.passes;
      book = λ D work out s e. book_counts D (passes_toured D (((demand_2_pack D work out).writes s).0 e).1);
    }
