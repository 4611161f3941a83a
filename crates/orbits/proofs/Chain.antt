-- Exchanges one after another: each moves the number of cycles by one.
--
-- Chain n F E X Y d == F 0, F 1, .., F d: F 0 permutes, and F (i + 1) is F i, with its values at X i and Y i exchanged where E i holds
-- chain_shorter  == a part of a chain, from its start, is one
-- chain_permutes == each F i permutes
-- chain_induct   == what each exchange keeps, of the number of cycles and the number of exchanges so far, holds at the end
-- chain_moves    == the number of cycles moves by at most the number of exchanges
-- chain_joins    == it falls by that number if each exchange is between two cycles
-- chain_parts    == it grows by that number if each exchange is within one cycle
-- Assumes nothing.
use mathlib.Core.Path.{◌≡◌}
use mathlib.Core.Logic.{inl, inr}
use mathlib.Core.Bool.{Bool, true, false}
use Prim.Native.Nat.{ℕ, zero, suc, ◌+◌, ◌<◌, ◌≤◌}
use native.Mathlib.Numerals.{add-one}
use native.Mathlib.Omega.{arith}
use Rattle.count.specs.Below.{count}
use Rattle.count.proofs.Logic.{true_or_false}
use Rattle.count.proofs.Below.{count_zero, count_yes, count_no}
use Rattle.orbits.specs.Cycles.{Permutes, SameCycle, cycles}
use Rattle.orbits.proofs.Iter.{permutes_agree}
use Rattle.orbits.proofs.Classes.{cycles_same}
use Rattle.orbits.proofs.Exchange.{Exchanged, exchange_permutes, exchange_joins, exchange_parts, exchange_moves}

pub record Chain (n : ℕ) (F : ℕ → ℕ → ℕ) (E : ℕ → Bool) (X Y : ℕ → ℕ) (d : ℕ) : Type 0 where
  pub starts : Permutes n (F 0)
  pub rests : (i : ℕ) → i < d → E i ≡ false → (x : ℕ) → x < n → F i x ≡ F (i + 1) x
  pub exchanges : (i : ℕ) → i < d → E i ≡ true → Exchanged n (F i) (F (i + 1)) (X i) (Y i)

module _ {n : ℕ} {F : ℕ → ℕ → ℕ} {E : ℕ → Bool} {X Y : ℕ → ℕ} where
  pub chain_shorter : {d : ℕ} → Chain n F E X Y d → (i : ℕ) → i ≤ d → Chain n F E X Y i
  chain_shorter c i h =
      record { starts = c.starts; rests = λ j l. c.rests j (omega arith); exchanges = λ j l. c.exchanges j (omega arith) }

  chain_ends : (d : ℕ) → Chain n F E X Y d → Permutes n (F d)
  chain_ends zero c = c.starts
  chain_ends (suc d) c =
      let p : Permutes n (F d) = chain_ends d (chain_shorter c d (omega arith)) in
      rw (← add-one d) (elim (true_or_false (E d)) [
        | inl t ↦ exchange_permutes p (c.exchanges d (omega arith) t)
        | inr f ↦ permutes_agree p (c.rests d (omega arith) f)
      ])

  pub chain_permutes : {d : ℕ} → Chain n F E X Y d → (i : ℕ) → i ≤ d → Permutes n (F i)
  chain_permutes c i h = chain_ends i (chain_shorter c i h)

  pub chain_induct : (Q : ℕ → ℕ → Type 0) (d : ℕ) → Chain n F E X Y d → Q (cycles n (F 0)) 0
      → ((i k : ℕ) → i < d → Permutes n (F i) → E i ≡ true → Exchanged n (F i) (F (i + 1)) (X i) (Y i) → Q (cycles n (F i)) k → Q (cycles n (F (i + 1))) (k + 1))
      → Q (cycles n (F d)) (count E d)
  chain_induct Q zero c q step = rw (count_zero E) q
  chain_induct Q (suc d) c q step =
      let p : Permutes n (F d) = chain_permutes c d (omega arith) in
      let r : Q (cycles n (F d)) (count E d) = chain_induct Q d (chain_shorter c d (omega arith)) q (λ i k l. step i k (omega arith)) in
      rw (← add-one d) (elim (true_or_false (E d)) [
        | inl t ↦ rw (count_yes E d t) (step d (count E d) (omega arith) p t (c.exchanges d (omega arith) t) r)
        | inr f ↦ rw (count_no E d f, ← cycles_same p (c.rests d (omega arith) f)) r
      ])

  pub chain_moves : (d : ℕ) → Chain n F E X Y d → (cycles n (F d) ≤ cycles n (F 0) + count E d) × (cycles n (F 0) ≤ cycles n (F d) + count E d)
  chain_moves d c =
      chain_induct (λ m k. (m ≤ cycles n (F 0) + k) × (cycles n (F 0) ≤ m + k)) d c (omega arith)
      (λ i k l p t x q. let m = exchange_moves p x in omega arith)

  pub chain_joins : (d : ℕ) → Chain n F E X Y d → ((i : ℕ) → i < d → E i ≡ true → SameCycle (F i) (X i) (Y i) → ⊥)
      → cycles n (F d) + count E d ≡ cycles n (F 0)
  chain_joins d c apart =
      chain_induct (λ m k. m + k ≡ cycles n (F 0)) d c (omega arith)
      (λ i k l p t x q. omega (arith, (exchange_joins p x (apart i l t)).less))

  pub chain_parts : (d : ℕ) → Chain n F E X Y d → ((i : ℕ) → i < d → E i ≡ true → SameCycle (F i) (X i) (Y i))
      → cycles n (F d) ≡ cycles n (F 0) + count E d
  chain_parts d c same =
      chain_induct (λ m k. m ≡ cycles n (F 0) + k) d c (omega arith)
      (λ i k l p t x q. omega (arith, (exchange_parts p x (same i l t)).more))
