-- A line of a drawing's text: what is written is read, and what is read is what was written.
--
-- some_with, some_pick     == where a reading went on to the end, each step of it gave something
-- read_prefix, prefix_read == the bytes of a list are taken off exactly if the text begins with them
-- IsField most end s r     == s is a number of at most `most`, the byte `end`, and the rest
-- read_field_lem, field_read   == a field is read exactly if it is one
-- line_then e a b v t       == the line of border e with the entries a and b and the mark v, then t
-- IsLine e s l             == s is such a line, within the limits, and the rest
-- read_line_lem, line_read     == a line is read exactly if it is one
-- Assumes nothing.
use mathlib.Core.Path.{◌≡◌, refl, ◌∙◌}
use mathlib.Core.Logic.{inl, inr}
use mathlib.Core.Bool.{Bool, true, false}
use mathlib.Core.List.{List, [], ◌∷◌, ◌++◌}
use mathlib.Core.Option.{Option, none, some, some-injective, none-ne-some}
use Prim.Native.Nat.{ℕ, ◌≤◌}
use native.Mathlib.Omega.{arith}
use lib.Dec.{eqb, leb}
use borrow.Author.Tests.{eqb-true, leb-true, eq-eqb, le-leb, ne_eqb}
use Rattle.count.specs.Below.{pick}
use Rattle.count.proofs.Logic.{same_or_not}
use Rattle.text.specs.Decimal.{space, line_feed, decimal, is_digit, Read, read_number}
use Rattle.text.specs.Input.{after_prefix, with, read_field, Line, read_line}
use Rattle.text.proofs.Decimal.{read_decimal, number_decimal}

module _ {X C : Type 0} where
  pub some_with : {Y : Type 0} (o : Option Y) (f : Y → Option X) (x : X) → with o f ≡ some x → ((y : Y) → o ≡ some y → f y ≡ some x → C) → C
  some_with none f x e k = absurd (none-ne-some x e)
  some_with (some y) f x e k = k y refl e

  pub some_pick : (t : Bool) (o : Option X) (x : X) → pick t o none ≡ some x → (t ≡ true → o ≡ some x → C) → C
  some_pick true o x e k = k refl e
  some_pick false o x e k = absurd (none-ne-some x e)

pub read_prefix : (p t : List ℕ) → after_prefix p (p ++ t) ≡ some t
unfolding after_prefix
read_prefix [] t = refl
read_prefix (x ∷ p) t = rw (eq-eqb x x refl, after_prefix) (read_prefix p t)

pub prefix_read : (p s t : List ℕ) → after_prefix p s ≡ some t → s ≡ p ++ t
unfolding after_prefix
prefix_read [] s t e = some-injective s t e
prefix_read (x ∷ p) [] t e = absurd (none-ne-some t e)
prefix_read (x ∷ p) (c ∷ s) t e =
    elim (same_or_not x c) [
      | inl q ↦ rw (← q, prefix_read p s t (rw (eq-eqb x c q, after_prefix) at e))
      | inr n ↦ absurd (none-ne-some t (rw (ne_eqb x c n, after_prefix) at e))
    ]

pub record IsField (most end : ℕ) (s : List ℕ) (r : Read) : Type 0 where
  pub text : s ≡ decimal r.value ++ (end ∷ r.rest)
  pub small : r.value ≤ most

pub read_field_lem : (most end : ℕ) (s : List ℕ) (r : Read) → is_digit end ≡ false → IsField most end s r → read_field most end s ≡ some r
unfolding read_field
read_field_lem most end s r d F = rw (F.text, read_decimal r.value (end ∷ r.rest) d, le-leb r.value most F.small, read_prefix (end ∷ []) r.rest)

pub field_read : (most end : ℕ) (s : List ℕ) (r : Read) → read_field most end s ≡ some r → IsField most end s r
unfolding read_field
field_read most end s r e =
    some_with (read_number s) _ r e
    (λ n number picked.
    some_pick (leb n.value most) _ r picked
    (λ small rested.
    some_with (after_prefix (end ∷ []) n.rest) _ r rested
    (λ t ended made.
    rw (← some-injective (record { value = n.value; rest = t }) r made)
    (record {
      text = number_decimal s n number ∙ rw (prefix_read (end ∷ []) n.rest t ended);
      small = leb-true n.value most small;
    }))))

abbrev pub line_then : ℕ → ℕ → ℕ → ℕ → List ℕ → List ℕ
line_then e a b v t = decimal e ++ (space ∷ decimal a ++ (space ∷ decimal b ++ (space ∷ decimal v ++ (line_feed ∷ t))))

pub record IsLine (e : ℕ) (s : List ℕ) (l : Line) : Type 0 where
  pub text : s ≡ line_then e l.first l.second l.mark l.rest
  pub number_small : e ≤ 65535
  pub first_small : l.first ≤ 65535
  pub second_small : l.second ≤ 65535
  pub mark_small : l.mark ≤ 255

pub read_line_lem : (e : ℕ) (s : List ℕ) (l : Line) → IsLine e s l → read_line e s ≡ some l
unfolding read_line
read_line_lem e s l L =
    let v : List ℕ = decimal l.mark ++ (line_feed ∷ l.rest) in
    let b : List ℕ = decimal l.second ++ (space ∷ v) in
    let a : List ℕ = decimal l.first ++ (space ∷ b) in
    rw (
      read_field_lem 65535 space s (record { value = e; rest = a }) refl (record { text = L.text; small = L.number_small }),
      eq-eqb e e refl,
      read_field_lem 65535 space a (record { value = l.first; rest = b }) refl (record { text = refl; small = L.first_small }),
      read_field_lem 65535 space b (record { value = l.second; rest = v }) refl (record { text = refl; small = L.second_small }),
      read_field_lem 255 line_feed v (record { value = l.mark; rest = l.rest }) refl (record { text = refl; small = L.mark_small }),
    )

pub line_read : (e : ℕ) (s : List ℕ) (l : Line) → read_line e s ≡ some l → IsLine e s l
unfolding read_line
line_read e s l q =
    some_with (read_field 65535 space s) _ l q
    (λ n number picked.
    some_pick (eqb n.value e) _ l picked
    (λ same more.
    some_with (read_field 65535 space n.rest) _ l more
    (λ a first more.
    some_with (read_field 65535 space a.rest) _ l more
    (λ b second more.
    some_with (read_field 255 line_feed b.rest) _ l more
    (λ v mark made.
    let N = field_read 65535 space s n number in
    let A = field_read 65535 space n.rest a first in
    let B = field_read 65535 space a.rest b second in
    let M = field_read 255 line_feed b.rest v mark in
    let is : n.value ≡ e = eqb-true n.value e same in
    rw (← some-injective (record { first = a.value; second = b.value; mark = v.value; rest = v.rest }) l made)
    (record {
      text = rw (N.text, is, A.text, B.text, M.text);
      number_small = omega arith;
      first_small = A.small;
      second_small = B.small;
      mark_small = M.small;
    }))))))
