-- Passing one bracket: what the code does, and what that means in a word that is balanced in both families.
--
-- entry_room, label_room == the entries that `pass` reads are there, whatever was stored above the stack
-- passes_is       == what it leaves
-- begun_is        == so the lists that `pair` makes are begun
-- opened_few      == no more brackets open than there are letters
-- Told w K p v    == the letter at p is of family K, and v is the bit that tells whether it closes
-- Known w old p l == just before position p all lists hold what belongs there
-- known_start     == before the first position
-- known_passable  == what is asked to pass the bracket at p
-- known_more      == it is passed
-- Assumes nothing.
use mathlib.Core.Path.{◌≡◌, refl, sym, ap, ◌∙◌}
use mathlib.Core.Logic.{◌≢◌, inl, inr}
use mathlib.Core.List.{List, [], ◌∷◌}
use Prim.Native.Nat.{ℕ, ◌+◌, ◌-◌, ◌<◌, ◌≤◌}
use native.Mathlib.Omega.{arith}
use lib.ListN.{length, get_or, set, replicate, length-set, length-replicate, get_or-replicate}
use lib.Seq.{get_or-set_same, get_or-set_other}
use Rattle.count.proofs.Logic.{same_or_not}
use Rattle.count.proofs.Below.{count_mono}
use Rattle.count.proofs.Counts.{count_le}
use Rattle.words.specs.Brackets.{Balanced, opens, closes, neither, is_opens, inner, number}
use Rattle.words.specs.declared.family.Family.{Family}
use Rattle.words.specs.declared.family.Family.TheVariants.{Round as round, Square as square}
use Rattle.words.specs.Word.{Word, seen}
use Rattle.words.proofs.Stack.{inner_le, inner_neither}
use Rattle.words.proofs.Numbers.{openings, inner_number, number_zero}
use Rattle.words.proofs.Halves.{openings_both}
use Rattle.bits.specs.Letters.{family_bit}
use Rattle.bits.proofs.Letters.{family_small, family_told}
use Rattle.pairing.specs.Paired.{most_letters, opened_in, Pairable}
use Rattle.pairing.specs.declared.pass.Stacks.{Stacks}
use Rattle.pairing.specs.Passing.{Lists, lists, bottom, stack_room, Ones, Begun, partner, Passable, Passes}
use Rattle.pairing.proofs.Stacks.{Stacked, stacked_start, stacked_number, stacked_inner, stacked_aside, stacked_stays, stacked_passes}
use Rattle.pairing.proofs.Pairs.{Paired, paired_start, paired_opens, paired_closes}

-- ---- the code
module _ (x v p : ℕ) (S : Stacks) (ms : List ℕ) where
  pub entry_room : (y : ℕ) → Passable x v p (lists S ms)
      → get_or S.top x 0 + 1 - v < length (set S.opened (get_or S.top x 0 + 1) y)
  entry_room y P = omega (arith, P.opened, length-set S.opened (get_or S.top x 0 + 1) y)

  pub label_room : (y : ℕ) → Passable x v p (lists S ms)
      → get_or S.top x 0 + 1 - v - v < length (set S.labels (get_or S.top x 0 + 1) y)
  label_room y P = omega (arith, P.labelled, length-set S.labels (get_or S.top x 0 + 1) y)

  pub passes_is : (q : ℕ) → q ≡ get_or (set S.opened (get_or S.top x 0 + 1) p) (get_or S.top x 0 + 1 - v) 0
      → Passes x v p (lists S ms)
      (record {
        top = set S.top x (get_or S.top x 0 + 1 - v - v);
        number = set S.number x (get_or (set S.labels (get_or S.top x 0 + 1) (get_or S.reached x 0 + 1)) (get_or S.top x 0 + 1 - v - v) 0);
        reached = set S.reached x (get_or S.reached x 0 + 1 - v);
        opened = set S.opened (get_or S.top x 0 + 1) p;
        labels = set S.labels (get_or S.top x 0 + 1) (get_or S.reached x 0 + 1);
        mates = set (set ms q p) p q;
      })
  passes_is q h = rw h (record { top = refl; number = refl; reached = refl; opened = refl; labels = refl; mates = refl })

pub begun_is : (w : Word) (a : ℕ) (ms : List ℕ) → a ≡ bottom round w → most_letters ≤ length ms
    → Begun w
    (record {
      top = 0 ∷ a ∷ [];
      number = replicate 2 1;
      reached = replicate 2 1;
      opened = replicate 2052 0;
      labels = replicate 2052 1;
      mates = ms;
    })
begun_is w a ms h long =
    let ones : Ones (replicate 2 1) = record { long = omega arith; zero = refl; one = refl } in
    record {
      top_long = omega arith;
      top_square = refl;
      top_round = h;
      number = ones;
      reached = ones;
      opened_long = omega (arith, length-replicate {A = ℕ} 2052 0);
      labels_long = omega (arith, length-replicate {A = ℕ} 2052 1);
      labels = λ i l. get_or-replicate 2052 i 1 0 l;
      mates_long = long;
    }

pub opened_few : (w : Word) (us : List ℕ) (K : Family) → Pairable w us → opened_in K w ≤ most_letters
opened_few w us K P = omega (arith, count_le (λ q. is_opens (seen K w q)) w.size, P.few)

-- ---- in the word
pub record Told (w : Word) (K : Family) (p v : ℕ) : Type 0 where
  pub bit : v < 2
  pub opening : v ≡ 0 → seen K w p ≡ opens
  pub closing : (v ≡ 0 → ⊥) → seen K w p ≡ closes
  pub other : (X : Family) → family_bit X ≢ family_bit K → seen X w p ≡ neither

pub record Known (w : Word) (old : List ℕ) (p : ℕ) (l : Lists) : Type 0 where
  pub top_long : 2 ≤ length l.top
  pub number_long : 2 ≤ length l.number
  pub reached_long : 2 ≤ length l.reached
  pub opened_long : stack_room ≤ length l.opened
  pub labels_long : stack_room ≤ length l.labels
  pub stacked : (K : Family) → Stacked K w (bottom K w) p (get_or l.top (family_bit K) 0) (get_or l.reached (family_bit K) 0) l.opened l.labels
  pub numbered : (K : Family) → get_or l.number (family_bit K) 0 ≡ number (seen K w) p
  pub mates : Paired w old p l.mates

-- two stacks, and an entry above each, do not meet
apart : (K X : Family) (w : Word) (c d : ℕ) → family_bit X ≢ family_bit K → c ≤ opened_in K w → d ≤ opened_in X w → bottom K w + c + 1 ≢ bottom X w + d
apart round round w c d n h g e = n refl
apart round square w c d n h g e = omega arith
apart square round w c d n h g e = omega arith
apart square square w c d n h g e = n refl

module _ (w : Word) (most : w.size ≤ most_letters) (nested : (K : Family) → Balanced (seen K w) w.size) where
  few_open : (K : Family) (p : ℕ) → p ≤ w.size → openings (seen K w) p ≤ opened_in K w
  few_open K p l = count_mono (λ q. is_opens (seen K w q)) p w.size l

  in_room : (K : Family) (d : ℕ) → d ≤ opened_in K w → bottom K w + d + 1 < stack_room
  in_room round d h = omega (arith, openings_both w nested)
  in_room square d h = omega (arith, openings_both w nested)

  ones : (K : Family) (l : List ℕ) → Ones l → get_or l (family_bit K) 0 ≡ 1
  ones round l T = T.one
  ones square l T = T.zero

  pub known_start : (l : Lists) → Begun w l → Known w l.mates 0 l
  known_start l B =
      record {
        top_long = B.top_long;
        number_long = B.number.long;
        reached_long = B.reached.long;
        opened_long = B.opened_long;
        labels_long = B.labels_long;
        stacked = λ K.
            stacked_start K w (bottom K w) (get_or l.top (family_bit K) 0) (get_or l.reached (family_bit K) 0) l.opened l.labels (top K) (ones K l.reached B.reached)
            (B.labels (bottom K w) (omega (arith, in_room K 0 (omega arith))));
        numbered = λ K. ones K l.number B.number ∙ sym (number_zero (seen K w));
        mates = paired_start w l.mates (omega (arith, B.mates_long));
      }
    where
      top : (K : Family) → get_or l.top (family_bit K) 0 ≡ bottom K w
      top round = B.top_round
      top square = B.top_square

  module _ (old : List ℕ) (p : ℕ) (l : Lists) (N : Known w old p l) where
    deep_few : (K : Family) → p ≤ w.size → (N.stacked K).deep ≤ opened_in K w
    deep_few K i = omega (arith, (N.stacked K).few, few_open K p i)

    known_ends : (K : Family) → p ≤ w.size → get_or l.top (family_bit K) 0 + 1 < stack_room
    known_ends K i = omega (arith, (N.stacked K).ends, in_room K (N.stacked K).deep (deep_few K i))

    module _ (i : p < w.size) (K : Family) (v : ℕ) (T : Told w K p v) where
      abbrev t : ℕ
      t = get_or l.top (family_bit K) 0

      abbrev r : ℕ
      r = get_or l.reached (family_bit K) 0

      one : v < 2
      one = T.bit

      open_before : (v ≡ 0 → ⊥) → (bottom K w < t) × (inner (seen K w) p ≡ get_or l.opened t 0 + 1)
      open_before n =
          stacked_inner K w (bottom K w) p t r l.opened l.labels (N.stacked K) ((nested K).closing p i (T.closing n))

      opened_room : t + 1 < length l.opened
      opened_room = omega (arith, known_ends K (omega arith), N.opened_long)

      labels_room : t + 1 < length l.labels
      labels_room = omega (arith, known_ends K (omega arith), N.labels_long)

      partner_opens : v ≡ 0 → partner (family_bit K) v p l ≡ p
      partner_opens z =
          ap (λ k. get_or (set l.opened (t + 1) p) k 0) (omega arith) ∙ get_or-set_same l.opened (t + 1) p 0 opened_room

      partner_closes : (v ≡ 0 → ⊥) → inner (seen K w) p ≡ partner (family_bit K) v p l + 1
      partner_closes n =
          let w = one in
          (open_before n).1
          ∙ ap (λ y. y + 1)
          (sym (ap (λ k. get_or (set l.opened (t + 1) p) k 0) (omega arith) ∙ get_or-set_other l.opened (t + 1) t p 0 (λ e. omega arith)))

      pub known_passable : Passable (family_bit K) v p l
      known_passable =
          let b = seen K w in
          let here : p < length l.mates = omega (arith, N.mates.room, N.mates.long) in
          record {
            bit = family_small K;
            opening = one;
            few = omega arith;
            here = here;
            more = omega (arith, (N.stacked K).reached, count_le (λ q. is_opens (b q)) p);
            some = omega (arith, (N.stacked K).reached);
            pending =
                elim (same_or_not v 0) [ inl z ↦ omega arith | inr n ↦ omega (arith, one, (open_before n).0) ];
            opened = opened_room;
            labelled = labels_room;
            paired =
                elim (same_or_not v 0) [
                  | inl z ↦ omega (arith, partner_opens z, here)
                  | inr n ↦ omega (arith, partner_closes n, inner_le b p, here)
                ];
          }

      other_stays : (X : Family) → family_bit X ≢ family_bit K
          → Stacked X w (bottom X w) (p + 1) (get_or l.top (family_bit X) 0) (get_or l.reached (family_bit X) 0)
          (set l.opened (t + 1) p) (set l.labels (t + 1) (r + 1))
      other_stays X d =
          let a : ℕ = bottom X w in
          let t₀ : ℕ = get_or l.top (family_bit X) 0 in
          let r₀ : ℕ = get_or l.reached (family_bit X) 0 in
          stacked_stays X w a p t₀ r₀ (set l.opened (t + 1) p) (set l.labels (t + 1) (r + 1))
          (stacked_aside X w a p t₀ r₀ l.opened l.labels (N.stacked X) (t + 1) p (r + 1)
          (λ c h e.
          apart K X w (N.stacked K).deep c d (deep_few K (omega arith)) (omega (arith, deep_few X (omega arith))) (omega (arith, (N.stacked K).ends))))
          (T.other X d)

      -- in each family, where its stack ends after the bracket; and the number there, by the label or, in the other family, as it was
      after : (X : Family) → Stacked X w (bottom X w) (p + 1) (get_or (set l.top (family_bit K) (t + 1 - v - v)) (family_bit X) 0)
          (get_or (set l.reached (family_bit K) (r + 1 - v)) (family_bit X) 0) (set l.opened (t + 1) p) (set l.labels (t + 1) (r + 1))
      after X =
          let x : ℕ = family_bit K in
          let b2 = family_small K in
          elim (family_told K X) [
            | inl e ↦
                rw (
                  e,
                  get_or-set_same l.top x (t + 1 - v - v) 0 (omega (arith, N.top_long)),
                  get_or-set_same l.reached x (r + 1 - v) 0 (omega (arith, N.reached_long)),
                )
                (stacked_passes K w (bottom K w) p t r l.opened l.labels (N.stacked K) v one opened_room labels_room T.opening T.closing
                ((nested K).closing p i))
            | inr d ↦
                rw (
                  get_or-set_other l.top x (family_bit X) (t + 1 - v - v) 0 d,
                  get_or-set_other l.reached x (family_bit X) (r + 1 - v) 0 d,
                )
                (other_stays X d)
          ]

      number_after : (X : Family)
          → get_or (set l.number (family_bit K) (get_or (set l.labels (t + 1) (r + 1)) (t + 1 - v - v) 0)) (family_bit X) 0 ≡ number (seen X w) (p + 1)
      number_after X =
          let x : ℕ = family_bit K in
          let b2 = family_small K in
          let b = seen X w in
          let ls : List ℕ = set l.labels (t + 1) (r + 1) in
          let y : ℕ = get_or ls (t + 1 - v - v) 0 in
          elim (family_told K X) [
            | inl e ↦
                ap (λ Y. get_or (set l.number x y) (family_bit Y) 0) e ∙ get_or-set_same l.number x y 0 (omega (arith, N.number_long))
                ∙ ap (λ k. get_or ls k 0)
                (sym (ap (λ Y. get_or (set l.top x (t + 1 - v - v)) (family_bit Y) 0) e ∙ get_or-set_same l.top x (t + 1 - v - v) 0 (omega (arith, N.top_long))))
                ∙ stacked_number X w (bottom X w) (p + 1) (get_or (set l.top x (t + 1 - v - v)) (family_bit X) 0)
                (get_or (set l.reached x (r + 1 - v)) (family_bit X) 0) (set l.opened (t + 1) p) ls (after X)
            | inr d ↦
                get_or-set_other l.number x (family_bit X) y 0 d ∙ N.numbered X
                ∙ sym (inner_number b (p + 1) p (inner_neither b p (T.other X d)))
          ]

      pub known_more : (k : Lists) → Passes (family_bit K) v p l k → Known w old (p + 1) k
      known_more k P =
          let x : ℕ = family_bit K in
          let b2 = family_small K in
          rw (P.top, P.number, P.reached, P.opened, P.labels, P.mates)
          (record {
            top_long = omega (arith, length-set l.top x (t + 1 - v - v), N.top_long);
            number_long = omega (arith, length-set l.number x (get_or (set l.labels (t + 1) (r + 1)) (t + 1 - v - v) 0), N.number_long);
            reached_long = omega (arith, length-set l.reached x (r + 1 - v), N.reached_long);
            opened_long = omega (arith, length-set l.opened (t + 1) p, N.opened_long);
            labels_long = omega (arith, length-set l.labels (t + 1) (r + 1), N.labels_long);
            stacked = after;
            numbered = number_after;
            mates =
                elim (same_or_not v 0) [
                  | inl z ↦
                      rw (partner_opens z) (paired_opens w old nested K p i l.mates N.mates (T.opening z))
                  | inr n ↦
                      paired_closes w old nested K p i l.mates N.mates (partner (family_bit K) v p l) (T.closing n) (partner_closes n)
                ];
          })
