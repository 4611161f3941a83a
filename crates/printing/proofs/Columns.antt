-- A number in its columns: spaces, then the digits over the last of them.
--
-- wrote_before    == a byte put before a text
-- wrote_over      == a text put over the end of another
-- Digits          == what the loop of `put_digits` keeps: the digits from byte i on stand, those of `rest` are still to come
-- digits_start, digits_room, digits_more, digits_end == no digit, one digit more, all digits
-- column_puts     == a whole column
-- Assumes nothing.
use mathlib.Core.Path.{◌≡◌, refl, sym, ap, ◌∙◌, subst}
use mathlib.Core.List.{List, [], ◌∷◌, ◌++◌, append_assoc, append-nil}
use Prim.Native.Nat.{ℕ, ◌+◌, ◌-◌, ◌/◌, ◌%◌, ◌≤◌, ◌<◌}
use native.Mathlib.Omega.{arith}
use native.Mathlib.Numerals.{add-one}
use lib.ListN.{length, get_or, take, drop, set, replicate, length-append, length-set, length-replicate, replicate-append-replicate}
use lib.Seq.{set_at, take-suc, length-take-le, take_at, drop-drop, drop_at}
use borrow.Author.Rules.{rules}
use Rattle.text.specs.Decimal.{space, zero_byte, decimal, aligned}
use Rattle.text.proofs.Decimal.{decimal_small, decimal_more}
use Rattle.printing.specs.Writing.{Wrote, Puts}
use Rattle.printing.specs.declared.page.Page.{Page}
use Rattle.std.proofs.Common.{MutBor}
use Rattle.printing.proofs.Writes.{wrote_none, wrote_as, more_digits}

-- ---- texts before and over others
wrote_before : (old t : List ℕ) (i r b : ℕ) (new : List ℕ) → i < length old → Wrote old (i + 1) t r new → Wrote old i (b ∷ t) r (set new i b)
wrote_before old t i r b new l W =
    let e : i + 1 + length t ≡ i + length (b ∷ t) = omega arith in
    let k : length (take i old) ≡ i = length-take-le i old (omega arith) in
    record {
      next = W.next ∙ e;
      text =
          ap (λ x. set x i b)
          (W.text
          ∙ ap (λ x. x ++ (t ++ drop (i + 1 + length t) old)) (ap (λ j. take j old) (add-one i) ∙ take-suc old i 0 l)
          ∙ append_assoc (take i old) (get_or old i 0 ∷ []) (t ++ drop (i + 1 + length t) old))
          ∙ set_at (take i old) (get_or old i 0) (t ++ drop (i + 1 + length t) old) b i k
          ∙ ap (λ j. take i old ++ (b ∷ (t ++ drop j old))) e;
    }

module _ (old s t u : List ℕ) (at a r : ℕ) (mid new : List ℕ) (l : length u ≡ length t) (h : at ≤ length old) (e : a ≡ at + length s) where
  wrote_over : Wrote old at (s ++ t) r mid → Wrote mid a u r new → Wrote old at (s ++ u) r new
  wrote_over W Y =
      let n = length-append s t in
      let m = length-append s u in
      let k = length-append (take at old) s in
      let f = length-take-le at old h in
      let rest : List ℕ = drop (at + length (s ++ t)) old in
      let split : mid ≡ (take at old ++ s) ++ (t ++ rest) = W.text ∙ simp append_assoc in
      let front : take a mid ≡ take at old ++ s = ap (take a) split ∙ take_at (take at old ++ s) (t ++ rest) a (omega arith) in
      let back : drop (a + length u) mid ≡ drop (at + length (s ++ u)) old =
      sym (drop-drop (length u) a mid)
      ∙ ap (drop (length u)) (ap (drop a) split ∙ drop_at (take at old ++ s) (t ++ rest) a (omega arith))
      ∙ drop_at t rest (length u) (sym l)
      ∙ ap (λ i. drop i old) same_end in
      record {
        next = Y.next ∙ omega arith;
        text = Y.text ∙ ap (λ x. x ++ (u ++ drop (a + length u) mid)) front ∙ ap (λ x. (take at old ++ s) ++ (u ++ x)) back ∙ simp append_assoc;
      }
    where
      same_end : at + length (s ++ t) ≡ at + length (s ++ u)
      same_end = let n = length-append s t in let m = length-append s u in omega arith

-- ---- the digits, from right to left
pub record Digits (old : List ℕ) (end x i rest : ℕ) (out : List ℕ) : Type 0 where
  pub text : List ℕ
  pub stands : Wrote old i text end out
  pub whole : decimal x ≡ decimal rest ++ text
  pub begins : length (decimal rest) ≤ i
  pub last : i ≤ end
  pub room : end ≤ length old
  pub same : length out ≡ length old

module _ (old : List ℕ) (end x : ℕ) where
  pub digits_start : length (decimal x) ≤ end → end ≤ length old → Digits old end x end x old
  digits_start b room =
      record { text = []; stands = wrote_none old end; whole = sym (append-nil (decimal x)); begins = b; last = omega arith; room = room; same = refl }

  module _ (i rest : ℕ) (out : List ℕ) (D : Digits old end x i rest out) where
    pub digits_left : 10 ≤ rest → 0 < i
    digits_left g = omega (arith, D.begins, more_digits rest g)

    pub digits_room : 10 ≤ rest → i - 1 < length out
    digits_room g = omega (arith, D.last, D.room, D.same, digits_left g)

    pub digits_more : (b : ℕ) → 10 ≤ rest → b ≡ zero_byte + rest % 10 → Digits old end x (i - 1) (rest / 10) (set out (i - 1) b)
    digits_more b g e =
        let j : ℕ = i - 1 in
        let a : i ≡ j + 1 = omega (arith, digits_left g) in
        record {
          text = b ∷ D.text;
          stands = wrote_before old D.text j end b out (omega (arith, D.last, D.room)) (rw a at D.stands);
          whole =
              D.whole
              ∙ ap (λ t. t ++ D.text) (decimal_more rest g ∙ ap (λ y. decimal (rest / 10) ++ (y ∷ [])) (sym e))
              ∙ append_assoc (decimal (rest / 10)) (b ∷ []) D.text;
          begins = omega (arith, D.begins, more_digits rest g);
          last = omega (arith, D.last);
          room = D.room;
          same = length-set out j b ∙ D.same;
        }

    module _ (l : rest < 10) where
      pub first_left : 0 < i
      first_left = omega (arith, D.begins, ap length (decimal_small rest l))

      pub first_room : i - 1 < length out
      first_room = omega (arith, D.last, D.room, D.same, first_left)

      pub digits_end : (b : ℕ) → b ≡ zero_byte + rest → Wrote old (end - length (decimal x)) (decimal x) end (set out (i - 1) b)
      digits_end b e =
          let j : ℕ = i - 1 in
          let a : i ≡ j + 1 = omega (arith, first_left) in
          let W = wrote_before old D.text j end b out (omega (arith, D.last, D.room)) (rw a at D.stands) in
          let w : b ∷ D.text ≡ decimal x = sym (D.whole ∙ ap (λ t. t ++ D.text) (decimal_small rest l ∙ ap (λ y. y ∷ []) (sym e))) in
          let k : j ≡ end - length (decimal x) = omega (arith, W.next, ap length w) in
          subst (λ m. Wrote old m (decimal x) end (set out j b)) k (wrote_as old (b ∷ D.text) (decimal x) j end (set out j b) w W)

pub ruleset digits_all = (digits_start, digits_left, digits_room, digits_more, first_left, first_room, digits_end, rules)

-- ---- a whole column
pub column_wrote : (old mid new : List ℕ) (at w x end : ℕ) → length (decimal x) ≤ w → at + w ≤ length old → Wrote old at (replicate w space) end mid
    → Wrote mid (end - length (decimal x)) (decimal x) end new → Wrote old at (aligned w x) end new × (end ≡ at + w)
unfolding aligned
column_wrote old mid new at w x end fits room S D =
    let n : ℕ = length (decimal x) in
    let k : w - n + n ≡ w = omega arith in
    let l : end ≡ at + w = S.next ∙ ap (λ j. at + j) (length-replicate w space) in
    let W : Wrote old at (replicate (w - n) space ++ replicate n space) end mid =
    wrote_as old (replicate w space) (replicate (w - n) space ++ replicate n space) at end mid (sym (replicate-append-replicate (w - n) n space ∙ ap (λ j. replicate j space) k)) S in (
      wrote_over old (replicate (w - n) space) (replicate n space) (decimal x) at (end - n) end mid new
          (sym (length-replicate n space)) (omega arith) (omega (arith, length-replicate (w - n) space)) W D,
      l,
    )

pub column_puts : (p m : Page) (out : MutBor (List ℕ)) (w x : ℕ) → length (decimal x) ≤ w → p.at + w ≤ length p.out.now → Puts p (replicate w space) m
    → out.ghost_name ≡ m.out.ghost_name → length out.now ≡ length m.out.now → Wrote m.out.now (m.at - length (decimal x)) (decimal x) m.at out.now
    → Puts p (aligned w x) (record { out = out; at = m.at }) × (m.at ≡ p.at + w)
column_puts p m out w x fits room S g l D =
    let c = column_wrote p.out.now m.out.now out.now p.at w x m.at fits room S.wrote D in
    (record { same_memory = g ∙ S.same_memory; same_length = l ∙ S.same_length; wrote = c.0 }, c.1)
