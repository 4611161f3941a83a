-- A part of the working list that is made 0.
--
-- zeroed_part == the part from a up to e is lent, cleared and put back
-- third_zeroed == so the last third of a chart is 0
-- Assumes nothing.
use mathlib.Core.Path.{◌≡◌, ap, ◌∙◌}
use mathlib.Core.List.{List, ◌++◌}
use Prim.Native.Nat.{ℕ, ◌+◌, ◌-◌, ◌*◌, ◌<◌, ◌≤◌}
use native.Mathlib.Omega.{arith}
use lib.ListN.{length, get_or, take, drop, length-append, length-drop, get_or-append}
use lib.Seq.{get_or-take, get_or-drop, get_or-append-add, length-take-le}
use Rattle.lending.proofs.Clearing.{cleared_length, cleared_first}
use Rattle.answers.specs.Lent.{cleared}
use Rattle.lending.specs.Lists.{Outside, Zeroed}
use Rattle.touring.specs.Working.{Charted}

module _ (xs ys : List ℕ) where
  at_left : (i : ℕ) → i < length xs → get_or (xs ++ ys) i 0 ≡ get_or xs i 0
  at_left i l = get_or-append xs ys 0 i l

  at_right : (i j : ℕ) → i ≡ length xs + j → get_or (xs ++ ys) i 0 ≡ get_or ys j 0
  at_right i j e = ap (λ x. get_or (xs ++ ys) x 0) e ∙ get_or-append-add xs ys j 0

zeroed_part : (a e d k : ℕ) (old w ys : List ℕ) → Outside a e old w → a + d ≡ e → e ≤ length w → d ≤ k
    → ys ≡ cleared k (take d (drop a w)) → Zeroed a e old (take a w ++ (ys ++ drop d (drop a w)))
zeroed_part a e d k old w ys O s l g c =
    let first : length (take a w) ≡ a = length-take-le a w (omega arith) in
    let rest : length (drop a w) ≡ length w - a = length-drop a w in
    let part : length (take d (drop a w)) ≡ d = length-take-le d (drop a w) (omega arith) in
    let long : length ys ≡ d = ap length c ∙ cleared_length k (take d (drop a w)) ∙ part in
    let tail : List ℕ = drop d (drop a w) in
    record {
      zero = λ i h b.
          at_right (take a w) (ys ++ tail) i (i - a) (omega arith)
          ∙ at_left ys tail (i - a) (omega arith)
          ∙ ap (λ z. get_or z (i - a) 0) c
          ∙ cleared_first k (take d (drop a w)) (i - a) (omega arith);
      outside =
          record {
            same_length =
                let t : length tail ≡ length w - a - d = length-drop d (drop a w) ∙ ap (λ x. x - d) rest in
                omega (arith, length-append (take a w) (ys ++ tail), length-append ys tail, O.same_length);
            before = λ i h. at_left (take a w) (ys ++ tail) i (omega arith) ∙ get_or-take a w i 0 h ∙ O.before i h;
            after = λ i h.
                let place : a + (d + (i - e)) ≡ i = omega arith in
                at_right (take a w) (ys ++ tail) i (d + (i - e)) (omega arith)
                ∙ at_right ys tail (d + (i - e)) (i - e) (omega arith)
                ∙ get_or-drop d (drop a w) (i - e) 0
                ∙ get_or-drop a w (d + (i - e)) 0
                ∙ ap (λ x. get_or w x 0) place
                ∙ O.after i h;
          };
    }

pub third_zeroed : (places : ℕ) (old w ys : List ℕ) → Charted places old → Outside (2 * places) (3 * places) old w
    → ys ≡ cleared places (take (3 * places - 2 * places) (drop (2 * places) w))
    → Zeroed (2 * places) (3 * places) old (take (2 * places) w ++ (ys ++ drop (3 * places - 2 * places) (drop (2 * places) w)))
third_zeroed places old w ys C O e =
    zeroed_part (2 * places) (3 * places) (3 * places - 2 * places) places old w ys O (omega arith) (omega (arith, C.room, O.same_length))
    (omega arith) e
