-- The pass over a word: what its loop keeps, and what the lists hold at the end.
--
-- Filling   == the positions before p are passed: both families are known just before p, and the lists hold what belongs there
-- filling_start == before the first position
-- mates_end, squares_end, rounds_end == after the last: what the lists then hold
-- square_room, round_room == the position has its entries
-- read_few  == the place of the next bit that is read
-- filling_passable, filling_more == the bracket at p can be passed, and is
-- Assumes nothing.
use mathlib.Core.Path.{◌≡◌, refl, sym, ap, ◌∙◌}
use mathlib.Core.List.{List}
use Prim.Native.Nat.{ℕ, ◌+◌, ◌^◌, ◌<◌, ◌≤◌}
use native.Mathlib.Omega.{arith}
use lib.ListN.{length, get_or, set}
use Rattle.answers.specs.Lent.{laid}
use Rattle.words.specs.Brackets.{number}
use Rattle.words.specs.declared.family.Family.{Family}
use Rattle.words.specs.declared.family.Family.TheVariants.{Round as round, Square as square}
use Rattle.words.specs.Word.{Word, seen}
use Rattle.lending.proofs.Laying.{Filled, filled_start, filled_more, filled_end}
use Rattle.bits.specs.Strings.{bit}
use Rattle.bits.specs.Letters.{family_bit}
use Rattle.bits.proofs.Laws.{bit_below_2}
use Rattle.bits.proofs.Letters.{family_has}
use Rattle.pairing.specs.Paired.{word_at, Pairable, mates_of, numbers_of}
use Rattle.pairing.specs.declared.pass.Stacks.{Stacks}
use Rattle.pairing.specs.Passing.{lists, Begun, Passable, Passes}
use Rattle.pairing.proofs.Pairs.{paired_end}
use Rattle.pairing.proofs.Passed.{Told, Known, known_start, known_passable, known_more}
use Rattle.pairing.proofs.Unread.{Unread, unread_start, unread_few, unread_more, unread_told}

abbrev pub Listed : Family → Word → List ℕ → ℕ → List ℕ → Type 0
Listed K w old p l = Filled (number (seen K w)) w.size old p l

module _ (a : List ℕ) (n : ℕ) (t us₀ ms₀ ss₀ rs₀ : List ℕ) where
  abbrev w : Word
  w = word_at a n t us₀

  sized : (word_at a n t us₀).size ≡ n
  unfolding word_at
  sized = refl

  pub record Filling (S : Stacks) (us ms ss rs : List ℕ) (p : ℕ) : Type 0 where
    pub asked : Pairable (word_at a n t us₀) us₀
    pub few : n ≤ 4096
    pub within : p ≤ n
    pub known : Known (word_at a n t us₀) ms₀ p (lists S ms)
    pub unread : Unread a us₀ p us
    pub squares : Listed square (word_at a n t us₀) ss₀ p ss
    pub rounds : Listed round (word_at a n t us₀) rs₀ p rs

  pub filling_start : (S : Stacks) → Pairable (word_at a n t us₀) us₀ → Begun (word_at a n t us₀) (lists S ms₀)
      → 2 ≤ length us₀ → 4096 ≤ length ss₀ → 4096 ≤ length rs₀ → Filling S us₀ ms₀ ss₀ rs₀ 0
  filling_start S A B lu ls' lr =
      record {
        asked = A;
        few = omega (arith, sized, A.few);
        within = omega arith;
        known = known_start w A.few A.nested (lists S ms₀) B;
        unread = unread_start a us₀ lu;
        squares = filled_start (number (seen square w)) w.size ss₀ (omega (arith, A.few));
        rounds = filled_start (number (seen round w)) w.size rs₀ (omega (arith, A.few));
      }

  module _ (S : Stacks) (us ms ss rs : List ℕ) (p : ℕ) (I : Filling S us ms ss rs p) where
    ended : n ≤ p → w.size ≡ p
    ended l = omega (arith, sized, I.within)

    pub mates_end : n ≤ p → ms ≡ laid (mates_of (word_at a n t us₀)) ms₀
    unfolding mates_of
    mates_end l = paired_end w ms₀ p ms I.asked.nested I.known.mates (ended l)

    pub squares_end : n ≤ p → ss ≡ laid (numbers_of square (word_at a n t us₀)) ss₀
    unfolding numbers_of
    squares_end l = filled_end (number (seen square w)) w.size ss₀ p ss I.squares (ended l)

    pub rounds_end : n ≤ p → rs ≡ laid (numbers_of round (word_at a n t us₀)) rs₀
    unfolding numbers_of
    rounds_end l = filled_end (number (seen round w)) w.size rs₀ p rs I.rounds (ended l)

    pub square_room : p < n → p < length ss
    square_room l = omega (arith, sized, I.squares.room, I.squares.long)

    pub round_room : p < n → p < length rs
    round_room l = omega (arith, sized, I.rounds.room, I.rounds.long)

    in_word : p < n → p < w.size
    in_word l = omega (arith, sized)

    -- the family of the bracket at p, by the bit of A
    module _ (x : ℕ) (l : p < n) (hx : x ≡ bit a p) where
      family : (K : Family) × (x ≡ family_bit K)
      family = family_has x (omega (arith, bit_below_2 a p))

      pub read_few : get_or us x 0 + 1 < 2 ^ 64
      read_few =
          let K = family.0 in
          let e : x ≡ family_bit K = family.1 in
          rw e (unread_few a us₀ us p I.unread K w.size (in_word l) (I.asked.fits K))

      module _ (v : ℕ) (hv : v ≡ bit t (get_or us x 0)) where
        read : Told (word_at a n t us₀) family.0 p v
        read =
            let K = family.0 in
            let e : x ≡ family_bit K = family.1 in
            unread_told a us₀ us p I.unread K (sym hx ∙ e) n v t (hv ∙ ap (λ y. bit t (get_or us y 0)) e)

        pub filling_passable : Passable x v p (lists S ms)
        filling_passable =
            let K = family.0 in
            let e : x ≡ family_bit K = family.1 in
            rw e (known_passable w I.asked.few I.asked.nested ms₀ p (lists S ms) I.known (in_word l) K v read)

        pub filling_more : (S' : Stacks) (ms' : List ℕ) → Passes x v p (lists S ms) (lists S' ms')
            → Filling S' (set us x (get_or us x 0 + 1)) ms' (set ss p (get_or S.number 0 0)) (set rs p (get_or S.number 1 0)) (p + 1)
        filling_more S' ms' T =
            let K = family.0 in
            let e : x ≡ family_bit K = family.1 in
            let here : p < w.size = in_word l in
            record {
              asked = I.asked;
              few = I.few;
              within = omega arith;
              known =
                  known_more w I.asked.few I.asked.nested ms₀ p (lists S ms) I.known here K v read (lists S' ms') (rw e at T);
              unread = rw e (unread_more a us₀ us p I.unread K (sym hx ∙ e));
              squares = filled_more (number (seen square w)) w.size ss₀ p ss I.squares (get_or S.number 0 0) here (I.known.numbered square);
              rounds = filled_more (number (seen round w)) w.size rs₀ p rs I.rounds (get_or S.number 1 0) here (I.known.numbered round);
            }
