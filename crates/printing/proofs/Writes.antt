-- Texts put one after the other into lent bytes.
--
-- wrote_none, wrote_byte == nothing, one byte
-- wrote_then       == a text and another after it
-- wrote_as         == an equal text
-- puts_none, puts_as, puts_then == the same on a page
-- one_digit, more_digits == a number below 10 has one digit, another has one more than its tenth
-- two_digits, three_digits, four_digits == how many digits a number has between two powers of ten
-- number_puts      == a number of at most four digits, and the byte after it
-- Assumes nothing.
use mathlib.Core.Path.{◌≡◌, refl, sym, ap, ◌∙◌}
use mathlib.Core.List.{List, [], ◌∷◌, ◌++◌, append_assoc}
use Prim.Native.Nat.{ℕ, zero, suc, ◌+◌, ◌-◌, ◌*◌, ◌/◌, ◌%◌, ◌^◌, ◌<◌, ◌≤◌}
use native.Mathlib.Nat.{pow-succ'}
use native.Mathlib.Omega.{arith}
use native.Mathlib.Numerals.{add-one}
use lib.ListN.{length, take, drop, set, length-append, take-append-drop}
use lib.Seq.{set_split, length-take-le, drop-append-add, take-append_seam, drop-drop}
use Rattle.text.specs.Decimal.{decimal, zero_byte}
use Rattle.text.proofs.Decimal.{decimal_small, decimal_more}
use Rattle.text.proofs.Short.{decimal_length}
use Rattle.printing.specs.Writing.{Wrote, Puts}
use Rattle.printing.specs.declared.page.Page.{Page}

-- ---- any texts
pub wrote_none : (old : List ℕ) (at : ℕ) → Wrote old at [] at old
wrote_none old at =
    let e : at + 0 ≡ at = omega arith in
    record { next = omega arith; text = sym (ap (λ k. take at old ++ drop k old) e ∙ take-append-drop at old) }

pub wrote_byte : (old : List ℕ) (at b : ℕ) → at < length old → Wrote old at (b ∷ []) (at + 1) (set old at b)
wrote_byte old at b h = record { next = refl; text = set_split old at b h ∙ rw add-one }

-- what stands before and after a text that was put
module _ (old t : List ℕ) (at a : ℕ) (mid : List ℕ) (h : at ≤ length old) (W : Wrote old at t a mid) where
  ahead : length (take at old ++ t) ≡ a
  ahead = length-append (take at old) t ∙ omega (arith, length-take-le at old h, W.next)

  joined : mid ≡ (take at old ++ t) ++ drop (at + length t) old
  joined = W.text ∙ sym (append_assoc (take at old) t (drop (at + length t) old))

  take_mid : take a mid ≡ take at old ++ t
  take_mid = rw (joined, ← ahead) (take-append_seam (take at old ++ t) (drop (at + length t) old))

  drop_mid : (k : ℕ) → drop (a + k) mid ≡ drop (at + length t + k) old
  drop_mid k =
      rw (joined, ← ahead)
      (drop-append-add (take at old ++ t) (drop (at + length t) old) k ∙ drop-drop k (at + length t) old)

  pub wrote_then : (u : List ℕ) (r : ℕ) (new : List ℕ) → Wrote mid a u r new → Wrote old at (t ++ u) r new
  wrote_then u r new Y =
      let l : length (t ++ u) ≡ length t + length u = length-append t u in
      let e : at + length t + length u ≡ at + length (t ++ u) = omega arith in
      let f : drop (a + length u) mid ≡ drop (at + length (t ++ u)) old = drop_mid (length u) ∙ ap (λ k. drop k old) e in
      record {
        next = omega (arith, Y.next, W.next);
        text =
            Y.text
            ∙ ap (λ x. x ++ (u ++ drop (a + length u) mid)) take_mid
            ∙ ap (λ x. (take at old ++ t) ++ (u ++ x)) f
            ∙ simp append_assoc;
      }

pub wrote_as : (old t u : List ℕ) (at r : ℕ) (new : List ℕ) → t ≡ u → Wrote old at t r new → Wrote old at u r new
wrote_as old t u at r new e W = rw e at W

-- ---- texts put on a page
pub puts_none : (p : Page) → Puts p [] p
puts_none p = record { same_memory = refl; same_length = refl; wrote = wrote_none p.out.now p.at }

module _ (p q : Page) (t : List ℕ) where
  pub puts_as : (u : List ℕ) → t ≡ u → Puts p t q → Puts p u q
  puts_as u e P = rw e at P

  pub puts_then : p.at ≤ length p.out.now → Puts p t q → (u : List ℕ) (r : Page) → Puts q u r → Puts p (t ++ u) r
  puts_then h P u r Q =
      record {
        same_memory = Q.same_memory ∙ P.same_memory;
        same_length = Q.same_length ∙ P.same_length;
        wrote = wrote_then p.out.now t p.at q.at q.out.now h P.wrote u r.at r.out.now Q.wrote;
      }

-- ---- decimal numbers
pub one_digit : (x : ℕ) → x < 10 → 1 ≡ length (decimal x)
one_digit x h = sym (ap length (decimal_small x h))

pub more_digits : (x : ℕ) → 10 ≤ x → length (decimal x) ≡ length (decimal (x / 10)) + 1
more_digits x h = ap length (decimal_more x h) ∙ length-append (decimal (x / 10)) ((zero_byte + x % 10) ∷ [])

pub digits_are : (n x : ℕ) → 10 ^ suc n ≤ x → x < 10 ^ suc (suc n) → suc (suc n) ≡ length (decimal x)
digits_are zero x g l = omega (arith, more_digits x g, one_digit (x / 10) (omega arith))
digits_are (suc n) x g l =
    let p : 10 ^ suc (suc n) ≡ 10 * 10 ^ suc n = pow-succ' 10 (suc n) in
    let q : 10 ^ suc (suc (suc n)) ≡ 10 * 10 ^ suc (suc n) = pow-succ' 10 (suc (suc n)) in
    omega (arith, more_digits x (omega arith), digits_are n (x / 10) (omega arith) (omega arith))

module _ (x : ℕ) where
  pub two_digits : 10 ≤ x → x < 100 → 2 ≡ length (decimal x)
  two_digits g l = digits_are 0 x g l

  pub three_digits : 100 ≤ x → x < 1000 → 3 ≡ length (decimal x)
  three_digits g l = digits_are 1 x g l

  pub four_digits : 1000 ≤ x → x < 10000 → 4 ≡ length (decimal x)
  four_digits g l = digits_are 2 x g l

-- ---- a number, and the byte after it
module _ (p m q : Page) (x d end : ℕ) (few : x < 10000) (room : p.at + 5 ≤ length p.out.now) (e : d ≡ length (decimal x)) (i : m.at ≡ p.at + d) where
  pub number_puts : m.out.ghost_name ≡ p.out.ghost_name → length m.out.now ≡ length p.out.now
      → Wrote p.out.now (m.at - length (decimal x)) (decimal x) m.at m.out.now → Puts m (end ∷ []) q
      → Puts p (decimal x ++ (end ∷ [])) q × (q.at ≤ p.at + 5)
  number_puts g l W Y =
      let k : m.at - length (decimal x) ≡ p.at = omega arith in
      let D : Wrote p.out.now p.at (decimal x) m.at m.out.now = rw k at W in
      let P : Puts p (decimal x) m = record { same_memory = g; same_length = l; wrote = D } in
      (puts_then p m (decimal x) (omega arith) P (end ∷ []) q Y, omega (arith, Y.wrote.next, decimal_length 3 x few))
