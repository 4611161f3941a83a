-- Numbers that a text begins with: what its digits decide.
--
-- digit_short, digit_under, digit_over, digit_is == the first byte is missing, too small, too large or a digit
-- Digit s r, stands              == s begins with the digit r
-- Reading s most x rest value == the digits of s before `rest` made `value` of x, and the rest decides the same
-- reading_start, reading_more    == from one digit to the next
-- reading_stops, reading_over    == no digit follows; the value is above `most`, and no digit brings it back
-- number_missing, number_goes_on, number_alone == what the first digit decides: none, one above 0, a 0
-- prefix_differs, prefix_same    == a text begins with other bytes than those of a list, or with them
-- field_missing, field_differs, field_ends == a number and the byte after it: no number, another byte, that byte
-- Assumes nothing.
use mathlib.Core.Path.{◌≡◌, refl, sym, ◌∙◌, ap}
use mathlib.Core.Logic.{inl, inr, ◌≢◌}
use mathlib.Core.Bool.{Bool, true, false}
use mathlib.Core.List.{List, [], ◌∷◌}
use mathlib.Core.Option.{Option, none, some, some-injective, none-ne-some}
use Prim.Native.Nat.{ℕ, ◌+◌, ◌-◌, ◌*◌, ◌<◌, ◌≤◌}
use native.Mathlib.Omega.{arith}
use borrow.Author.Tests.{le-leb, lt-leb, eq-eqb, ne_eqb}
use lib.Dec.{leb, eqb}
use lib.ListN.{length, get_or, take, drop}
use lib.Seq.{take_all}
use Rattle.std.specs.Cmp.Lexicographic.{pointwise}
use Rattle.count.specs.Below.{pick}
use Rattle.count.proofs.Logic.{true_or_false, same_or_not, not_both, pick_yes}
use Rattle.text.specs.Decimal.{zero_byte, is_digit, Read, read_digits, read_number}
use Rattle.text.specs.Input.{after_prefix, with, read_field}
use Rattle.text.proofs.Decimal.{decides_digit, digit_first, digits_on, digits_stop, number_zero, number_none, number_on}
use Rattle.reading.specs.Found.{read_digit, within, read_within}

-- ---- one digit

no_digit : (c : ℕ) (s : List ℕ) → ((zero_byte ≤ c) × (c ≤ zero_byte + 9) → ⊥) → none ≡ read_digit (c ∷ s)
unfolding read_digit
no_digit c s n =
    let h : is_digit c ≡ false = not_both (leb zero_byte c) (leb c (zero_byte + 9)) (λ a b. n ((decides_digit c).sound (rw (a, b)))) in
    sym (rw h)

pub digit_short : (s : List ℕ) → length s < 1 → none ≡ read_digit s
unfolding read_digit
digit_short [] h = refl
digit_short (c ∷ s) h = absurd (omega arith)

pub digit_under : (s : List ℕ) → get_or s 0 0 < 48 → none ≡ read_digit s
unfolding read_digit
digit_under [] h = refl
digit_under (c ∷ s) h = no_digit c s (λ b. omega arith)

pub digit_over : (s : List ℕ) → 58 ≤ get_or s 0 0 → none ≡ read_digit s
digit_over [] h = absurd (omega arith)
digit_over (c ∷ s) h = no_digit c s (λ b. omega arith)

pub digit_is : (s : List ℕ) (d : ℕ) → 1 ≤ length s → 48 ≤ get_or s 0 0 → get_or s 0 0 < 58 → d ≡ get_or s 0 0 - 48
    → some (record { value = d; rest = take (length s - 1) (drop 1 s) }) ≡ read_digit s
unfolding read_digit
digit_is [] d h a b e = absurd (omega arith)
digit_is (c ∷ s) d h a b e =
    let g : is_digit c ≡ true = (decides_digit c).complete (omega arith) in
    let r : take (length (c ∷ s) - 1) (drop 1 (c ∷ s)) ≡ s = take_all (length (c ∷ s) - 1) s (omega arith) in
    rw (g, r, e)

pub record Digit (s : List ℕ) (r : Read) : Type 0 where
  pub byte : ℕ
  pub is : is_digit byte ≡ true
  pub value : r.value ≡ byte - zero_byte
  pub low : r.value ≤ 9
  pub split : s ≡ byte ∷ r.rest

pub stands : (s : List ℕ) (r : Read) → some r ≡ read_digit s → Digit s r
unfolding read_digit
stands [] r e = absurd (none-ne-some r (sym e))
stands (c ∷ s) r e =
    elim (true_or_false (is_digit c)) [
      | inl h ↦
          let q : r ≡ record { value = c - zero_byte; rest = s } = some-injective r (record { value = c - zero_byte; rest = s }) (e ∙ rw h) in
          let v : r.value ≡ c - zero_byte = ap (λ (x : Read). x.value) q in
          let b = (decides_digit c).sound h in
          record { byte = c; is = h; value = v; low = omega arith; split = ap (λ (x : Read). c ∷ x.rest) (sym q) }
      | inr h ↦ absurd (none-ne-some r (sym (e ∙ rw h)))
    ]

-- none stands there
ends : (s : List ℕ) → none ≡ read_digit s → digit_first s ≡ false
unfolding read_digit
ends [] e = refl
ends (c ∷ s) e =
    elim (true_or_false (is_digit c)) [
      | inl h ↦ absurd (none-ne-some (record { value = c - zero_byte; rest = s }) (e ∙ rw h))
      | inr h ↦ h
    ]

-- ---- the digits from a place of the text on

pub record Reading (s : List ℕ) (most x : ℕ) (rest : List ℕ) (value : ℕ) : Type 0 where
  pub few : most ≤ 65535
  pub small : value ≤ 655359
  pub same : within most (read_digits rest value) ≡ within most (read_digits s x)

-- a digit more never makes the number smaller
digits_grow : (s : List ℕ) (x : ℕ) → x ≤ (read_digits s x).value
unfolding read_digits
digits_grow [] x = omega arith
digits_grow (c ∷ s) x =
    elim (true_or_false (is_digit c)) [
      | inl h ↦ rw (digits_on c x s h) (let g = digits_grow s (10 * x + (c - zero_byte)) in omega arith)
      | inr h ↦ rw (digits_stop x (c ∷ s) h) (omega arith)
    ]

module _ (s : List ℕ) (most x : ℕ) where
  pub reading_start : most ≤ 65535 → x ≤ 9 → Reading s most x s x
  reading_start m b = record { few = m; small = omega arith; same = refl }

  module _ (rest : List ℕ) (value : ℕ) (R : Reading s most x rest value) where
    pub reading_more : (d : Read) → some d ≡ read_digit rest → value ≤ most
        → (length d.rest < length rest) × Reading s most x d.rest (10 * value + d.value)
    reading_more d e v =
        let D = stands rest d e in
        let on : read_digits rest value ≡ read_digits d.rest (10 * value + d.value)
        = ap (λ l. read_digits l value) D.split
        ∙ digits_on D.byte value d.rest D.is
        ∙ ap (λ z. read_digits d.rest (10 * value + z)) (sym D.value) in
        (omega (arith, ap length D.split), record { few = R.few; small = omega (arith, R.few, D.low); same = ap (within most) (sym on) ∙ R.same })

    pub reading_stops : none ≡ read_digit rest → value ≤ most → some (record { value = value; rest = rest }) ≡ within most (read_digits s x)
    reading_stops e v =
        sym (sym R.same ∙ ap (within most) (digits_stop value rest (ends rest e)) ∙ rw (le-leb value most v))

    pub reading_over : most < value → none ≡ within most (read_digits s x)
    reading_over v =
        let g = digits_grow rest value in
        sym (sym R.same ∙ rw (lt-leb (read_digits rest value).value most (omega arith)))

-- ---- a number

none_first : (l : List ℕ) → digit_first l ≡ false → read_number l ≡ none
unfolding read_number
none_first [] h = refl
none_first (c ∷ l) h = number_none c l h

module _ (s : List ℕ) (most : ℕ) where
  -- what the number decides
  reads : (o : Option Read) → read_number s ≡ o → with o (within most) ≡ read_within most s
  unfolding read_within
  reads o q = sym (ap (λ p. with p (within most)) q)

  pub number_missing : none ≡ read_digit s → none ≡ read_within most s
  number_missing e = reads none (none_first s (ends s e))

  module _ (d : Read) (e : some d ≡ read_digit s) where
    pub number_goes_on : 0 < d.value → within most (read_digits d.rest d.value) ≡ read_within most s
    number_goes_on z =
        let D = stands s d e in
        let c : D.byte ≢ zero_byte = λ q. let v = D.value in absurd (omega arith) in
        ap (λ v. within most (read_digits d.rest v)) D.value
        ∙ reads (some (read_digits d.rest (D.byte - zero_byte)))
        (ap read_number D.split ∙ number_on D.byte d.rest D.is c)

    pub number_alone : d.value ≤ 0 → some d ≡ read_within most s
    number_alone z =
        let D = stands s d e in
        let c : D.byte ≡ zero_byte = let b = (decides_digit D.byte).sound D.is in let v = D.value in omega arith in
        let o : 0 ≡ d.value = omega arith in
        let same : record { value = 0; rest = d.rest } ≡ d = λ i. record { value = o i; rest = d.rest } in
        sym (pick_yes (leb d.value most) (some d) none (le-leb d.value most (omega arith)))
        ∙ reads (some d) (ap read_number D.split ∙ number_zero D.byte d.rest c ∙ ap some same)

-- ---- the bytes that a text begins with

pub prefix_differs : (p s : List ℕ) → pointwise eqb (take (length p) s) p ≡ false → after_prefix p s ≡ none
unfolding after_prefix
prefix_differs [] s h = let z : true ≡ false = h in absurd cc
prefix_differs (x ∷ p) [] h = refl
prefix_differs (x ∷ p) (c ∷ s) h =
    elim (same_or_not c x) [
      | inl e ↦ rw (eq-eqb x c (sym e), after_prefix) (prefix_differs p s (rw (eq-eqb c x e) at h))
      | inr n ↦ rw (ne_eqb x c (λ q. n (sym q)), after_prefix)
    ]

pub prefix_same : (p s t : List ℕ) → pointwise eqb (take (length p) s) p ≡ true → t ≡ drop (length p) s → after_prefix p s ≡ some t
unfolding after_prefix
prefix_same [] s t h e = ap some (sym e)
prefix_same (x ∷ p) [] t h e = let z : false ≡ true = h in absurd cc
prefix_same (x ∷ p) (c ∷ s) t h e =
    elim (same_or_not c x) [
      | inl q ↦ rw (eq-eqb x c (sym q), after_prefix) (prefix_same p s t (rw (eq-eqb c x q) at h) e)
      | inr n ↦ let z : false ≡ true = rw (ne_eqb c x n) at h in absurd cc
    ]

-- ---- a number and the byte after it

ended : ℕ → Read → Option Read
ended end x = with (after_prefix (end ∷ []) x.rest) (λ t. some (record { value = x.value; rest = t }))

field_within : (most end : ℕ) (s : List ℕ) → read_field most end s ≡ with (read_within most s) (ended end)
unfolding read_field read_within ended
field_within most end s = of_number (read_number s)
  where
    of_test : (t : Bool) (x : Read) → pick t (ended end x) none ≡ with (pick t (some x) none) (ended end)
    of_test true x = refl
    of_test false x = refl

    of_number : (o : Option Read) → with o (λ x. pick (leb x.value most) (ended end x) none) ≡ with (with o (within most)) (ended end)
    of_number none = refl
    of_number (some x) = of_test (leb x.value most) x

module _ (s : List ℕ) (most end : ℕ) where
  pub field_missing : none ≡ read_within most s → none ≡ read_field most end s
  field_missing e = sym (field_within most end s ∙ ap (λ o. with o (ended end)) (sym e))

  module _ (x : Read) (e : some x ≡ read_within most s) where
    read : read_field most end s ≡ ended end x
    read = field_within most end s ∙ ap (λ o. with o (ended end)) (sym e)

    pub field_differs : pointwise eqb (take 1 x.rest) (end ∷ []) ≡ false → none ≡ read_field most end s
    unfolding ended
    field_differs h = sym (read ∙ ap (λ o. with o (λ t. some (record { value = x.value; rest = t }))) (prefix_differs (end ∷ []) x.rest h))

    pub field_ends : (t : List ℕ) → pointwise eqb (take 1 x.rest) (end ∷ []) ≡ true → t ≡ drop 1 x.rest
        → some (record { value = x.value; rest = t }) ≡ read_field most end s
    unfolding ended
    field_ends t h q =
        sym (read ∙ ap (λ o. with o (λ t. some (record { value = x.value; rest = t }))) (prefix_same (end ∷ []) x.rest t h q))
