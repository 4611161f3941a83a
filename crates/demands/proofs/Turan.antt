-- The bytes of a drawing's word are the header and Turán's three strings, straight from the drawing.
--
-- turan_packed     == turan_bytes is what packing writes
-- Assumes nothing.
use mathlib.Core.Path.{◌≡◌, refl}
use mathlib.Core.Bool.{Bool, true, false, not}
use mathlib.Core.List.{List, ◌++◌}
use Prim.Native.Nat.{ℕ}
use Rattle.count.specs.Below.{pick}
use Rattle.count.proofs.Lists.{table_same, gather_same}
use Rattle.words.specs.declared.family.Family.TheVariants.{Round as round, Square as square}
use Rattle.words.specs.Word.{same_family}
use Rattle.bits.specs.Letters.{family_bit, closing_bit}
use Rattle.drawing.specs.Drawing.{Drawing, ends, is_second}
use Rattle.format.specs.Bytes.{header_of, bytes_of, map_bytes, string_a, string_b}
use Rattle.format.specs.Pack.{word_of, size_for, packed_bytes}
use Rattle.demands.specs.Statements.{marked_at, turan_bytes}

-- the letter of a marked place is round, that of an unmarked one square
family_bit_lem : (t : Bool) → closing_bit t ≡ family_bit (pick t round square)
family_bit_lem true = refl
family_bit_lem false = refl

round_test : (t : Bool) → t ≡ same_family round (pick t round square)
round_test true = refl
round_test false = refl

square_test : (t : Bool) → not t ≡ same_family square (pick t round square)
square_test true = refl
square_test false = refl

pub turan_packed : (D : Drawing) → turan_bytes D ≡ packed_bytes D
unfolding turan_bytes packed_bytes map_bytes string_a string_b word_of
turan_packed D =
    let second : ℕ → ℕ = λ p. closing_bit (is_second D p) in
    let a : List ℕ → List ℕ → List ℕ → List ℕ = λ x y z. header_of (size_for D) ++ (bytes_of x ++ (bytes_of y ++ bytes_of z)) in
    let A = table_same (λ p. closing_bit (marked_at D p)) (λ p. family_bit (pick (marked_at D p) round square)) (ends D) (λ p l. family_bit_lem (marked_at D p)) in
    let B = gather_same (marked_at D) (λ p. same_family round (pick (marked_at D p) round square)) second second (ends D)
    (λ p l. round_test (marked_at D p)) (λ p l. refl) in
    let S = gather_same (λ p. not (marked_at D p)) (λ p. same_family square (pick (marked_at D p) round square)) second second (ends D)
    (λ p l. square_test (marked_at D p)) (λ p l. refl) in
    λ i. a (A i) (B i) (S i)
