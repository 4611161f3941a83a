-- Checks 1 to 7: packing gives the number of the first that fails.
--
-- pack_refusals   == packing gives the refusal of the first check that fails, with what it carries, or the drawing's bytes
-- pack_accepts    == no refusal exactly if there is room and the drawing passes 1 to 7
-- pack_crosses    == refusal 7 with xs exactly if there is room, the drawing passes 1 to 6, and xs is its first crossing
-- Assumes nothing.
use mathlib.Core.Path.{◌≡◌, refl}
use mathlib.Core.Logic.{inl, inr, ◌↔◌}
use mathlib.Core.Bool.{true, not}
use mathlib.Core.List.{List, [], ◌++◌}
use Prim.Native.Nat.{ℕ, ◌*◌}
use native.Mathlib.Omega.{arith}
use lib.ListN.{take, drop}
use Rattle.count.specs.Below.{Decides}
use Rattle.count.proofs.Logic.{true_or_false}
use Rattle.count.proofs.Decides.{decides_le, decides_both, decides_not, decides_refutes, decides_as}
use Rattle.answers.specs.Answer.{refused_with}
use Rattle.answers.specs.Checks.{Check, Hold, InOrder, Decided}
use Rattle.answers.proofs.Order.{Each, each_hold, none_refuses, in_order, once, refused_at}
use Rattle.drawing.specs.Drawing.{Drawing, borders}
use Rattle.drawing.specs.Checks.{Flat, crosses, FirstCrossing}
use Rattle.drawing.specs.Checks.{PassesSix, PassesSeven}
use Rattle.drawing.proofs.Checks.{lengths_decides, range_decides, distinct_decides, few_decides}
use Rattle.drawing.proofs.Labels.{joined_decides}
use Rattle.drawing.proofs.Crossing.{crosses_decides, first_crossing_lem}
use Rattle.drawing.proofs.Ends.{turn_permutes}
use Rattle.format.specs.Bytes.{longest}
use Rattle.format.specs.Pack.{packed_bytes, Room, room_fits, pack_checks, pack_refusal, pack_of}

room_decides : (D : Drawing) (work out : ℕ) → Decides (room_fits D work out) (Room D work out)
room_decides D work out =
    decides_as (λ t. record { working = t.0; output = t.1 }) (λ r. (r.working, r.output))
    (decides_both (decides_le (6 * borders D) work) (decides_le longest out))

flat_decides : (D : Drawing) → Decides (not (crosses D)) (Flat D)
flat_decides D = decides_as (λ n a b c. n (a, b, c)) (λ f c. f c.0 c.1 c.2) (decides_not (crosses_decides D))

module _ (D : Drawing) (work out : ℕ) where
  -- that marked borders join all points is tested where entries are in range and distinct
  pub pack_decided : Decided (pack_checks D work out)
  pack_decided = (
    lengths_decides D,
    λ _. (
      room_decides D work out,
      λ _. (
        range_decides D,
        λ r. (
          distinct_decides D,
          λ d. (joined_decides D (turn_permutes D r d), λ _. (few_decides D, λ _. (flat_decides D, λ _. tt))),
        ),
      ),
    ),
  )

  pub pack_refusals : InOrder (pack_checks D work out) (packed_bytes D) (pack_of D work out)
  unfolding pack_of
  pack_refusals = in_order (pack_checks D work out) (packed_bytes D) pack_decided

  -- checks 1 to 6, as one record
  six_hold : Hold (pack_checks D work out) 6 → Room D work out × PassesSix D
  six_hold h = (
    h 1 (omega arith),
    record {
      lengths = h 0 (omega arith);
      range = h 2 (omega arith);
      entries = h 3 (omega arith);
      joins = h 4 (omega arith);
      few = h 5 (omega arith);
    },
  )

  hold_six : (cs : List Check) → Room D work out → PassesSix D → Each cs → Each (take 6 (pack_checks D work out) ++ cs)
  hold_six cs room six rest =
      (six.lengths, (room, (six.range, (six.entries, (six.joins, (six.few, rest))))))

  pub pack_accepts : (pack_refusal D work out ≡ 0) ↔ (Room D work out × PassesSeven D)
  unfolding pack_refusal
  pack_accepts =
      let cs : List Check = pack_checks D work out in
      let none = none_refuses cs pack_decided refl in (
        λ e.
            let all = none.0 e in
            let six = six_hold (λ i l. all i (omega arith)) in
            (six.0, record { six = six.1; flat = all 6 (omega arith) }),
        λ p. none.1 (each_hold cs [] (hold_six (drop 6 cs) p.0 p.1.six (p.1.flat, tt))),
      )

  pub pack_crosses : (xs : List ℕ) → (pack_of D work out ≡ refused_with 7 xs) ↔ (Room D work out × PassesSix D × FirstCrossing D xs)
  unfolding pack_of once
  pack_crosses xs =
      let cs : List Check = pack_checks D work out in
      let seven = refused_at cs (packed_bytes D) 6 xs pack_decided refl (omega arith) in (
        λ e.
            let h = seven.0 e in
            let six = six_hold h.0 in
            let t : crosses D ≡ true =
            elim (true_or_false (crosses D)) [
              | inl t ↦ t
              | inr f ↦ absurd (h.1 (λ a b c. decides_refutes (crosses_decides D) f (a, b, c)))
            ] in
            (six.0, six.1, ((first_crossing_lem D).first xs).1 (t, h.2)),
        λ c.
            let X : FirstCrossing D xs = c.2 in
            seven.1 (
              each_hold (take 6 cs) (drop 6 cs) (hold_six [] c.0 c.1 tt),
              λ flat. flat X.a X.b X.crossing,
              (((first_crossing_lem D).first xs).0 X).1,
            ),
      )
