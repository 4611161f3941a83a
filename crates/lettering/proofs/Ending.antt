-- All letters are put: the bytes are the map's, and what stood beyond stands there still.
--
-- lettered_length  == the map is as long as the strings' places say
-- lettered_all     == at the end the map's bytes are there
-- Assumes nothing.
use mathlib.Core.Path.{◌≡◌, sym, ap, ap₂, ◌∙◌}
use mathlib.Core.List.{List, ◌++◌, append_assoc}
use Prim.Native.Nat.{ℕ, ◌+◌, ◌-◌, ◌*◌, ◌<◌, ◌≤◌}
use native.Mathlib.Omega.{arith}
use lib.ListN.{length, take, drop, length-take, length-drop, take-append-drop}
use lib.Seq.{get_or-take, get_or-drop, drop-drop, ext_get_or}
use Rattle.count.specs.Below.{count}
use Rattle.answers.specs.Lent.{laid}
use Rattle.answers.specs.declared.given.Size.{Size}
use Rattle.words.specs.declared.family.Family.{Family}
use Rattle.words.specs.declared.family.Family.TheVariants.{Round as round, Square as square}
use Rattle.words.specs.Word.{Word}
use Rattle.bits.specs.Strings.{bytes_for}
use Rattle.format.specs.Bytes.{header, header_of, start_b, map_length, string_a, string_b, bytes_of, map_bytes}
use Rattle.format.proofs.Bits.{EachBelow}
use Rattle.format.proofs.Strings.{in_family, string_a_length, string_a_bits, string_b_length, string_b_bits}
use Rattle.format.proofs.Parts.{map_length_lem}
use Rattle.lettering.specs.Lettering.{letters, Counted, Holds, Lettered}
use Rattle.lettering.proofs.Holding.{holds_part}
use Rattle.lettering.proofs.Keeping.{word_lengths, a_end, round_end, square_end}

split_part : (s : List ℕ) (at : ℕ) (bits : List ℕ) (e : ℕ) → EachBelow 2 bits → Holds s at bits (length bits) → at + bytes_for (length bits) ≡ e
    → drop at s ≡ bytes_of bits ++ drop e s
split_part s at bits e h H q =
    let k = bytes_for (length bits) in
    sym (take-append-drop k (drop at s))
    ∙ ap (λ t. t ++ drop k (drop at s)) (holds_part s at bits h H)
    ∙ ap (λ t. bytes_of bits ++ t) (drop-drop k at s ∙ ap (λ x. drop x s) q)

holds_same : (s : List ℕ) (at : ℕ) (bits : List ℕ) (x y : ℕ) → x ≡ y → Holds s at bits x → Holds s at bits y
holds_same s at bits x y e H = rw (← e) H

pub lettered_length : (z : Size) (w : Word) → Counted z w → map_length z ≡ length (map_bytes z w)
lettered_length z w N = sym (map_length_lem z w (word_lengths z w N))

module _ (z : Size) (w : Word) (old : List ℕ) (p k : ℕ) (s : List ℕ) (L : Lettered z w old p k s) (over : 2 * z.m ≤ p) where
  abbrev N : Counted z w
  N = L.counted

  abbrev A : List ℕ
  A = string_a w

  abbrev B : Family → List ℕ
  B K = string_b K w

  at_end : p ≡ w.size
  at_end = omega (arith, L.within, N.size)

  a_whole : Holds s header A (length A)
  a_whole = holds_same s header A p (length A) (at_end ∙ sym (string_a_length w)) L.a_held

  b_whole : (K : Family) → Holds s (start_b K z) (B K) (length (B K))
  b_whole K =
      holds_same s (start_b K z) (B K) (letters K w p) (length (B K))
      (ap (count (in_family K w)) at_end ∙ sym (string_b_length w K)) (L.b_held K)

  front : take header s ≡ header_of z
  front =
      let far : header ≤ length s = omega (arith, L.a_held.room) in
      ext_get_or 0 (take header s) (header_of z) (omega (arith, length-take header s))
      (λ i l.
      let g : i < header = omega (arith, length-take header s) in
      get_or-take header s i 0 g ∙ L.head i g)

  past : drop (map_length z) s ≡ drop (map_length z) old
  past =
      let e = map_length z in
      ext_get_or 0 (drop e s) (drop e old) (length-drop e s ∙ ap (λ x. x - e) L.long ∙ sym (length-drop e old))
      (λ i l. get_or-drop e s i 0 ∙ L.beyond (e + i) (omega arith) ∙ sym (get_or-drop e old i 0))

  pub lettered_all : s ≡ laid (map_bytes z w) old
  unfolding map_bytes
  lettered_all =
      let e = map_length z in
      let rest : drop header s ≡ bytes_of A ++ (bytes_of (B round) ++ (bytes_of (B square) ++ drop e old))
      = split_part s header A (start_b round z) (string_a_bits w) a_whole (a_end z w N)
      ∙ ap (λ t. bytes_of A ++ t)
      (split_part s (start_b round z) (B round) (start_b square z) (string_b_bits w round) (b_whole round) (round_end z w N)
      ∙ ap (λ t. bytes_of (B round) ++ t)
      (split_part s (start_b square z) (B square) e (string_b_bits w square) (b_whole square) (square_end z w N)
      ∙ ap (λ t. bytes_of (B square) ++ t) past)) in
      let grouped : (P Q R d : List ℕ) → P ++ (Q ++ (R ++ d)) ≡ (P ++ (Q ++ R)) ++ d = λ P Q R d. simp append_assoc in
      sym (take-append-drop header s)
      ∙ ap₂ (λ x y. x ++ y) front rest
      ∙ ap (λ t. header_of z ++ t) (grouped (bytes_of A) (bytes_of (B round)) (bytes_of (B square)) (drop e old))
      ∙ ap (λ x. map_bytes z w ++ drop x old) (lettered_length z w N)
