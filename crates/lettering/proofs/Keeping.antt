-- The first letters of a word in the bytes of its map: none at the beginning, then one more after another.
--
-- fits_counted     == a word that fits m and n has their counts
-- word_lengths     == the strings of the word have the lengths that m and n say
-- short            == the map is no longer than the longest
-- starts_are, begun_made == the places of the strings from their lengths, and zeros with a header
-- letter_put       == two bits set are a letter
-- lettered_begun   == a map that is begun holds no letter yet
-- lettered_asks    == what putting a letter asks
-- lettered_fresh, lettered_then == from where a loop begins, and from there on
-- lettered_more    == one letter more
-- Assumes nothing.
use mathlib.Core.Path.{◌≡◌, refl, sym, ap, ◌∙◌}
use mathlib.Core.Logic.{◌≢◌, inl, inr}
use mathlib.Core.Bool.{Bool, true, false}
use mathlib.Core.List.{List}
use Prim.Native.Nat.{ℕ, ◌+◌, ◌-◌, ◌*◌, ◌/◌, ◌<◌, ◌≤◌}
use native.Mathlib.Omega.{arith}
use lib.ListN.{length, get_or, drop, get_or-append}
use Rattle.lending.proofs.Clearing.{cleared_length, cleared_first, cleared_rest}
use Rattle.count.specs.Below.{pick, count}
use Rattle.count.proofs.Logic.{true_or_false, true_not_false}
use Rattle.count.proofs.Below.{count_zero, count_yes, count_no, count_before, count_le}
use Rattle.answers.specs.Lent.{cleared, laid}
use Rattle.answers.specs.declared.given.Size.{Size}
use Rattle.words.specs.declared.family.Family.{Family}
use Rattle.words.specs.declared.family.Family.TheVariants.{Round as round, Square as square}
use Rattle.words.specs.Word.{same_family, Word}
use Rattle.bits.specs.Strings.{bytes_for}
use Rattle.bits.specs.Letters.{family_bit, closing_bit}
use Rattle.bits.specs.Writes.{set_bit}
use Rattle.bits.proofs.Stores.{set_bit_length}
use Rattle.bits.proofs.Letters.{family_itself, family_is}
use Rattle.drawing.specs.Drawing.{most_ends}
use Rattle.format.specs.Bytes.{longest, header, header_of, bits_b, start_b, map_length, string_a, string_b}
use Rattle.format.specs.Fits.{Fits}
use Rattle.format.proofs.Strings.{in_family, families_all, string_a_length, string_a_at, string_b_length, string_b_at}
use Rattle.format.proofs.Parts.{Lengths}
use Rattle.lettering.specs.Lettering.{begun, with_letter, letters, Counted, Holds, Lettered}
use Rattle.lettering.proofs.Holding.{laid_length, laid_after, blank_holds, bits_room, set_elsewhere, holds_more, holds_beside}

-- the bit that A has for a family
round_bit : (K : Family) → pick (same_family round K) 1 0 ≡ family_bit K
round_bit round = refl
round_bit square = refl

closing_test : (t : Bool) → pick t 1 0 ≡ closing_bit t
closing_test true = refl
closing_test false = refl

pub letter_put : (s : List ℕ) (b c p k : ℕ) (r v : Bool) (u : List ℕ) → u ≡ set_bit s (8 * header + p) r
    → (j : ℕ) → j ≡ pick r (8 * b + k) (8 * c + (p - k)) → (x : List ℕ) → x ≡ set_bit u j v → x ≡ with_letter s b c p k r v
unfolding with_letter
letter_put s b c p k r v u e j f x g = g ∙ ap (λ t. set_bit t j v) e ∙ ap (λ i. set_bit (set_bit s (8 * header + p) r) i v) f

pub fits_counted : (z : Size) (w : Word) → Fits z w → Counted z w
fits_counted z w F =
    record { m_most = F.m_most; n_least = F.n_least; n_most = F.n_most; size = F.size; rounds = F.rounds }

-- a, b and c: the bytes of A, B and B*
module _ (m n a b c : ℕ) (ea : a ≡ bytes_for (2 * m)) (eb : b ≡ bytes_for (2 * n - 2)) (ec : c ≡ bytes_for (2 * (m + 1 - n))) where
  pub starts_are : (header + a ≡ start_b round (record { m = m; n = n })) × (header + a + b ≡ start_b square (record { m = m; n = n }))
      × (header + a + b + c ≡ map_length (record { m = m; n = n }))
  unfolding map_length start_b
  starts_are = rw (ea, eb, ec) (refl, refl, refl)

  pub begun_made : (s u x : List ℕ) → u ≡ cleared (header + a + b + c) s → x ≡ laid (header_of (record { m = m; n = n })) u
      → x ≡ begun (record { m = m; n = n }) s
  unfolding begun
  begun_made s u x e f =
      f ∙ ap (laid (header_of (record { m = m; n = n }))) (e ∙ ap (λ k. cleared k s) starts_are.2)

module _ (z : Size) (w : Word) (N : Counted z w) where
  b_long : (K : Family) → length (string_b K w) ≡ bits_b K z
  b_long round = string_b_length w round ∙ N.rounds
  b_long square =
      omega (arith, string_b_length w square, families_all w w.size, N.size, N.rounds, N.n_least, N.n_most)

  pub word_lengths : Lengths z w
  word_lengths =
      record {
        m_small = omega (arith, N.m_most);
        n_small = omega (arith, N.m_most, N.n_most);
        a = string_a_length w ∙ N.size;
        b = b_long;
      }

  -- one string after another
  pub a_end : header + bytes_for (length (string_a w)) ≡ start_b round z
  unfolding start_b
  a_end = ap (λ x. header + bytes_for x) word_lengths.a

  pub round_end : start_b round z + bytes_for (length (string_b round w)) ≡ start_b square z
  unfolding start_b
  round_end = ap (λ x. start_b round z + bytes_for x) (b_long round)

  pub square_end : start_b square z + bytes_for (length (string_b square w)) ≡ map_length z
  unfolding map_length
  square_end = ap (λ x. start_b square z + bytes_for x) (b_long square)

  pub short : map_length z ≤ longest
  unfolding map_length start_b bytes_for
  short = omega (arith, N.m_most, N.n_least, N.n_most)

  from_a : (K : Family) → start_b round z ≤ start_b K z
  from_a round = omega arith
  from_a square = omega (arith, round_end)

  pub b_end : (K : Family) → start_b K z + bytes_for (length (string_b K w)) ≤ map_length z
  b_end round = omega (arith, round_end, square_end)
  b_end square = omega (arith, square_end)

  -- a byte of one string is none of the other's
  apart : (K G : Family) → same_family K G ≡ false → (i x : ℕ) → start_b K z ≤ i → i < start_b K z + bytes_for (length (string_b K w))
      → start_b G z ≤ x → x < start_b G z + bytes_for (length (string_b G w)) → i ≢ x
  apart round round n i x a b c d = absurd (true_not_false true refl n)
  apart square square n i x a b c d = absurd (true_not_false true refl n)
  apart round square n i x a b c d = omega (arith, round_end)
  apart square round n i x a b c d = omega (arith, round_end)

  -- ---- begin_map
  module _ (s : List ℕ) (room : longest ≤ length s) (u : List ℕ) (e : u ≡ begun z s) where
    begun_is : u ≡ laid (header_of z) (cleared (map_length z) s)
    unfolding begun
    begun_is = e

    begun_long : length u ≡ length s
    begun_long =
        ap length begun_is
        ∙ laid_length z (cleared (map_length z) s) (omega (arith, cleared_length (map_length z) s))
        ∙ cleared_length (map_length z) s

    begun_head : (i : ℕ) → i < header → get_or u i 0 ≡ get_or (header_of z) i 0
    begun_head i l =
        ap (λ x. get_or x i 0) begun_is ∙ get_or-append (header_of z) (drop header (cleared (map_length z) s)) 0 i l

    begun_after : (i : ℕ) → header ≤ i → get_or u i 0 ≡ get_or (cleared (map_length z) s) i 0
    begun_after i l = ap (λ x. get_or x i 0) begun_is ∙ laid_after z (cleared (map_length z) s) i l

    begun_blank : (i : ℕ) → header ≤ i → i < map_length z → get_or u i 0 ≡ 0
    begun_blank i l h = begun_after i l ∙ cleared_first (map_length z) s i h

    pub lettered_begun : Lettered z w s 0 0 u
    lettered_begun =
        let none : (K : Family) → count (in_family K w) 0 ≡ 0 = λ K. count_zero (in_family K w) in
        record {
          counted = N;
          within = omega arith;
          rounds = sym (none round);
          long = begun_long;
          head = begun_head;
          a_held =
              blank_holds u header (string_a w) (omega (arith, a_end, b_end round, short, begun_long))
              (λ i l h. begun_blank i l (omega (arith, a_end, b_end round)));
          b_held = λ K.
              rw (none K)
              (blank_holds u (start_b K z) (string_b K w) (omega (arith, b_end K, short, begun_long))
              (λ i l h. begun_blank i (omega (arith, a_end, from_a K)) (omega (arith, b_end K))));
          beyond = λ i l. begun_after i (omega (arith, a_end, b_end round)) ∙ cleared_rest (map_length z) s i l;
        }

module _ (z : Size) (w : Word) (old : List ℕ) (p k : ℕ) (s : List ℕ) (L : Lettered z w old p k s) where
  abbrev N : Counted z w
  N = L.counted

  pub lettered_asks : p < 2 * z.m → (b c : ℕ) → b ≡ start_b round z → c ≡ start_b square z
      → (b ≤ longest) × (c ≤ longest) × (p < most_ends) × (k ≤ p)
  lettered_asks l b c eb ec = (
    omega (arith, b_end z w N round, short z w N),
    omega (arith, b_end z w N square, short z w N),
    omega (arith, N.m_most),
    omega (arith, L.rounds, count_le (in_family round w) p),
  )

  -- what was written so far is what a loop, or a function, begins with
  pub lettered_fresh : Lettered z w s p k s
  lettered_fresh =
      record {
        counted = L.counted;
        within = L.within;
        rounds = L.rounds;
        long = refl;
        head = L.head;
        a_held = L.a_held;
        b_held = L.b_held;
        beyond = λ i l. refl;
      }

  pub lettered_then : (q j : ℕ) (u : List ℕ) → Lettered z w s q j u → Lettered z w old q j u
  lettered_then q j u M =
      record {
        counted = L.counted;
        within = M.within;
        rounds = M.rounds;
        long = M.long ∙ L.long;
        head = M.head;
        a_held = M.a_held;
        b_held = M.b_held;
        beyond = λ i l. M.beyond i l ∙ L.beyond i l;
      }

  -- ---- put_letter
  module _ (l : p < 2 * z.m) (b c : ℕ) (eb : b ≡ start_b round z) (ec : c ≡ start_b square z) (r v : Bool) (er : r ≡ in_family round w p)
      (ev : v ≡ (w.letter p).closing) where
    abbrev G : Family
    G = (w.letter p).family

    -- the next bit of family K
    abbrev next : Family → ℕ
    next K = 8 * start_b K z + letters K w p

    abbrev i : ℕ
    i = 8 * header + p

    at : (K : Family) (t : Bool) → t ≡ same_family round K → pick t (8 * b + k) (8 * c + (p - k)) ≡ next K
    at round true e = omega (arith, eb, L.rounds)
    at square false e = omega (arith, ec, L.rounds, families_all w p)
    at round false e = absurd (true_not_false true refl (sym e))
    at square true e = absurd (true_not_false true refl e)

    inside : p < w.size
    inside = omega (arith, N.size)

    a_more : p < length (string_a w)
    a_more = omega (arith, string_a_length w, N.size)

    b_more : (K : Family) → in_family K w p ≡ true → letters K w p < length (string_b K w)
    b_more K t = rw (string_b_length w K) (count_before (in_family K w) p w.size inside t)

    -- in which bytes the two bits are
    a_byte : i / 8 < start_b round z
    a_byte = omega (arith, bits_room (string_a w) p a_more, a_end z w N)

    b_byte : start_b G z ≤ next G / 8 × next G / 8 < start_b G z + bytes_for (length (string_b G w))
    b_byte =
        let h = bits_room (string_b G w) (letters G w p) (b_more G (family_itself G)) in
        (omega arith, omega (arith, h))

    abbrev half : List ℕ
    half = set_bit s i r

    abbrev whole : List ℕ
    whole = set_bit (set_bit s i r) (next G) v

    a_now : Holds whole header (string_a w) (p + 1)
    a_now =
        holds_beside half header (string_a w) (p + 1)
        (holds_more s header (string_a w) p L.a_held a_more r
        (ap (λ t. pick t 1 0) er ∙ round_bit G ∙ sym (string_a_at w p inside)))
        (next G) v
        (λ j g h. omega (arith, a_end z w N, from_a z w N G, b_byte.0))

    b_half : (K : Family) → Holds half (start_b K z) (string_b K w) (letters K w p)
    b_half K =
        holds_beside s (start_b K z) (string_b K w) (letters K w p) (L.b_held K) i r
        (λ j g h. omega (arith, a_byte, from_a z w N K))

    b_own : (K : Family) → in_family K w p ≡ true → (j : ℕ) → j ≡ next K → Holds (set_bit half j v) (start_b K z) (string_b K w) (letters K w (p + 1))
    b_own K t j e =
        rw (e, count_yes (in_family K w) p t)
        (holds_more half (start_b K z) (string_b K w) (letters K w p) (b_half K) (b_more K t) v
        (closing_test v ∙ ap closing_bit ev ∙ sym (string_b_at w K p inside t)))

    b_other : (K : Family) → in_family K w p ≡ false → Holds whole (start_b K z) (string_b K w) (letters K w (p + 1))
    b_other K t =
        rw (count_no (in_family K w) p t)
        (holds_beside half (start_b K z) (string_b K w) (letters K w p) (b_half K) (next G) v
        (λ j g h. apart z w N K G t j (next G / 8) g h b_byte.0 b_byte.1))

    b_now : (K : Family) → Holds whole (start_b K z) (string_b K w) (letters K w (p + 1))
    b_now K =
        elim (true_or_false (in_family K w p)) [
          | inl t ↦ b_own K t (next G) (ap next (family_is K G t))
          | inr t ↦ b_other K t
        ]

    elsewhere : (j : ℕ) → j ≢ i / 8 → j ≢ next G / 8 → get_or whole j 0 ≡ get_or s j 0
    elsewhere j a d = set_elsewhere half (next G) v j d ∙ set_elsewhere s i r j a

    counts : (t : Bool) → t ≡ in_family round w p → pick t (k + 1) k ≡ letters round w (p + 1)
    counts true e = omega (arith, L.rounds, count_yes (in_family round w) p (sym e))
    counts false e = omega (arith, L.rounds, count_no (in_family round w) p (sym e))

    whole_is : (u : List ℕ) → u ≡ with_letter s b c p k r v → u ≡ whole
    unfolding with_letter
    whole_is u q = q ∙ ap (λ j. set_bit half j v) (at G r er)

    pub lettered_more : (u : List ℕ) → u ≡ with_letter s b c p k r v → (n : ℕ) → n ≡ pick r (k + 1) k → Lettered z w old (p + 1) n u
    lettered_more u q n f =
        rw (whole_is u q)
        (record {
          counted = N;
          within = omega arith;
          rounds = f ∙ counts r er;
          long = set_bit_length half (next G) v ∙ set_bit_length s i r ∙ L.long;
          head = λ j g. elsewhere j (omega arith) (omega (arith, a_end z w N, from_a z w N G, b_byte.0)) ∙ L.head j g;
          a_held = a_now;
          b_held = b_now;
          beyond = λ j g.
              elsewhere j (omega (arith, a_byte, from_a z w N G, b_end z w N G)) (omega (arith, b_byte.1, b_end z w N G)) ∙ L.beyond j g;
        })
