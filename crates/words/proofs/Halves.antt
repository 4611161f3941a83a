-- How many brackets open: half of them.
--
-- is_bracket x     == the letter is of the family: it opens or it closes
-- openings_level  == what is open at p, and the brackets before p, are twice the openings before p
-- openings_half   == in a balanced word half of the brackets open
-- openings_half_all == and half of all letters, where each is a bracket
-- openings_both   == in a word that is balanced in both families half of the letters open
-- Assumes nothing.
use mathlib.Core.Path.{◌≡◌, refl, ap, ◌∙◌}
use mathlib.Core.Logic.{◌⊎◌, ⊎_elim}
use mathlib.Core.Bool.{Bool, true, false, not}
use mathlib.Core.List.{tail}
use Prim.Native.Nat.{ℕ, zero, suc, ◌+◌, ◌*◌, ◌≤◌}
use native.Mathlib.Numerals.{add-one}
use native.Mathlib.Omega.{arith}
use lib.ListN.{length}
use Rattle.count.specs.Below.{count}
use Rattle.count.proofs.Below.{count_zero, count_yes, count_no, count_all, count_same, count_not}
use Rattle.words.specs.Brackets.{Bracket, opens, closes, neither, is_opens, stack, inner, Balanced}
use Rattle.words.specs.declared.family.Family.{Family}
use Rattle.words.specs.declared.family.Family.TheVariants.{Round as round, Square as square}
use Rattle.words.specs.Word.{Word, view, seen}
use Rattle.words.proofs.Letters.{by_bracket}
use Rattle.words.proofs.Stack.{zero_or_more, stack_zero, stack_opens, stack_closes, stack_neither, inner_top, inner_none}
use Rattle.words.proofs.Numbers.{openings, openings_more}

abbrev pub is_bracket : Bracket → Bool
is_bracket opens = true
is_bracket closes = true
is_bracket neither = false

module _ (b : ℕ → Bracket) (n : ℕ) (bal : Balanced b n) where
  abbrev met : ℕ → Bool
  met q = is_bracket (b q)

  pub openings_level : (p : ℕ) → p ≤ n → length (stack b p) + count met p ≡ 2 * openings b p
  openings_level zero l = omega (arith, ap length (stack_zero b), count_zero met, count_zero (λ q. is_opens (b q)))
  openings_level (suc p) l =
      let before : length (stack b p) + count met p ≡ 2 * openings b p = openings_level p (omega arith) in
      rw (← add-one p)
      (by_bracket (b p)
      (λ o. omega (arith, ap length (stack_opens b p o), openings_more b p o, count_yes met p (ap is_bracket o)))
      (λ k. ⊎_elim
      (λ e. absurd (bal.closing p (omega arith) k e))
      (λ t.
      let f = (inner_top b p t.0 t.1).shape in
      omega (
        arith,
        ap length f,
        ap length (stack_closes b p k ∙ ap tail f),
        count_no (λ q. is_opens (b q)) p (ap is_opens k),
        count_yes met p (ap is_bracket k),
      ))
      (zero_or_more (inner b p)))
      (λ e. omega (
        arith,
        ap length (stack_neither b p e),
        count_no (λ q. is_opens (b q)) p (ap is_opens e),
        count_no met p (ap is_bracket e),
      )))

  pub openings_half : 2 * openings b n ≡ count (λ q. is_bracket (b q)) n
  openings_half = omega (arith, openings_level n (omega arith), ap length (inner_none b n bal.end))

  pub openings_half_all : ((p : ℕ) → (b p ≡ opens) ⊎ (b p ≡ closes)) → 2 * openings b n ≡ n
  openings_half_all all = openings_half ∙ count_all met n (λ p l. ⊎_elim (ap is_bracket) (ap is_bracket) (all p))

-- a letter is a bracket of one family and not of the other
one_family : (F : Family) (t : Bool) → is_bracket (view square (record { family = F; closing = t })) ≡ not (is_bracket (view round (record { family = F; closing = t })))
one_family round true = refl
one_family round false = refl
one_family square true = refl
one_family square false = refl

pub openings_both : (w : Word) → ((K : Family) → Balanced (seen K w) w.size)
    → 2 * (openings (seen round w) w.size + openings (seen square w) w.size) ≡ w.size
unfolding seen
openings_both w bal =
    let n = w.size in
    let r : ℕ → Bool = λ q. is_bracket (seen round w q) in
    let s : ℕ → Bool = λ q. is_bracket (seen square w q) in
    let e = count_same s (λ q. not (r q)) n (λ q l. one_family (w.letter q).family (w.letter q).closing) in
    omega (arith, e, count_not r n, openings_half (seen round w) n (bal round), openings_half (seen square w) n (bal square))
