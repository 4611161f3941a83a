-- From a drawing to the text of its map.
--
-- room_enough      == packing with room to spare answers as with all that it asks for
-- packed_opening   == what packing answers opens
-- Mapped D n map   == the first n bytes of `map` are the map of D, and what is printed for them is what is printed for D
-- map_mapped, declined_prints == what is printed for D after each answer of packing
-- Assumes nothing.
use mathlib.Core.Path.{◌≡◌, refl, sym, ap, ◌∙◌}
use mathlib.Core.Bool.{true}
use mathlib.Core.List.{List}
use Prim.Native.Nat.{ℕ, ◌*◌, ◌≤◌}
use native.Mathlib.Omega.{arith}
use lib.Dec.{leb}
use lib.ListN.{length, take, drop}
use borrow.Author.Tests.{le-leb}
use Rattle.count.proofs.Logic.{both}
use Rattle.count.specs.Below.{pick}
use Rattle.answers.specs.Checks.{Check, after}
use Rattle.answers.proofs.Steps.{tests_passed, answered_all, answered_none, checked_same}
use Rattle.answers.specs.Answer.{Answer, answer, refused_with, refused, told}
use Rattle.answers.specs.Means.{number, carried, packed_means}
use Rattle.answers.specs.Lent.{laid, leaves}
use Rattle.std.specs.Prelude.{Result, Ok, Err}
use Rattle.answers.specs.declared.refusal.Refusal.{Refusal}
use Rattle.drawing.specs.Drawing.{Drawing, borders}
use Rattle.drawing.specs.Checks.{lengths_fit}
use Rattle.drawing.proofs.Checks.{lengths_decides}
use Rattle.format.specs.Bytes.{longest}
use Rattle.format.specs.Open.{open_refusal}
use Rattle.format.proofs.Passes.{after_opens}
use Rattle.format.specs.Pack.{room_fits, packed_bytes, pack_checks, pack_refusal, pack_of}
use Rattle.text.specs.Listing.{refused_line, listed, packed, printed}
use Rattle.packing.proofs.Outcomes.{accepted, declined}
use Rattle.agreement.proofs.Passed.{packed_opens}
use Rattle.format.proofs.Refusals.{pack_accepts}

module _ (D : Drawing) (work out : ℕ) (long : 12288 ≤ work) (wide : longest ≤ out) where
  room_fits_lem : (w o : ℕ) → 6 * borders D ≤ w → longest ≤ o → room_fits D w o ≡ true
  room_fits_lem w o h k = both (leb (6 * borders D) w) (leb longest o) (le-leb (6 * borders D) w h) (le-leb longest o k)

  few : lengths_fit D ≡ true → 6 * borders D ≤ work
  unfolding borders
  few e = let l = (lengths_decides D).sound e in omega (arith, l.half, l.most)

  pub room_enough : pack_of D work out ≡ packed (answer D)
  unfolding packed pack_of pack_refusal
  room_enough =
      let rest : Answer (List ℕ) = after (drop 2 (pack_checks D work out)) (packed_bytes D) in
      let first : List Check = take 1 (pack_checks D work out) in
      checked_same first (pick (room_fits D work out) rest (refused 2)) (pick (room_fits D (6 * borders D) longest) rest (refused 2))
      (λ z. let fits = (tests_passed first refl z).0 in
      ap (λ t. pick t rest (refused 2))
      (room_fits_lem work out (few fits) wide ∙ sym (room_fits_lem (6 * borders D) longest (omega arith) (omega arith))))

-- ---- what packing answers opens
packed_opening : (D : Drawing) (work out : ℕ) (s : List ℕ) → pack_of D work out ≡ answer s → open_refusal s ≡ 0
unfolding pack_of pack_refusal
packed_opening D work out s e =
    let cs : List Check = pack_checks D work out in
    ap open_refusal (sym (answered_all cs (packed_bytes D) s e).1)
    ∙ packed_opens D ((pack_accepts D work out).0 (answered_none cs (packed_bytes D) s e)).1

-- ---- what is printed after packing
pub record Mapped (D : Drawing) (n : ℕ) (map : List ℕ) : Type 0 where
  pub within : n ≤ length map
  pub prints : printed (take n map) ≡ listed (packed (answer D))

bytes_print : (s : List ℕ) → open_refusal s ≡ 0 → printed s ≡ listed (answer s)
unfolding printed
bytes_print s o = ap listed (after_opens s s o)

module _ (D : Drawing) (work out : ℕ) (long : 12288 ≤ work) (wide : longest ≤ out) (r : Result ℕ Refusal) (e : packed_means r ≡ told length (pack_of D work out)) where
  pub map_mapped : (n : ℕ) (old map : List ℕ) → r ≡ Ok n → map ≡ leaves laid (pack_of D work out) old → Mapped D n map
  map_mapped n old map h w =
      let A = accepted n old map (pack_of D work out) (sym (ap packed_means h) ∙ e) w in
      record {
        within = A.within;
        prints = ap printed A.bytes ∙ bytes_print A.map (packed_opening D work out A.map A.is)
            ∙ ap listed (sym A.is ∙ room_enough D work out long wide);
      }

  refusal_prints : (k : ℕ) (xs : List ℕ) → refused_with k xs ≡ told length (pack_of D work out) → listed (packed (answer D)) ≡ refused_line k
  unfolding listed
  refusal_prints k xs f = ap listed (sym (room_enough D work out long wide) ∙ declined k xs (pack_of D work out) f)

  pub declined_prints : (x : Refusal) (k : ℕ) → r ≡ Err x → k ≡ number x → listed (packed (answer D)) ≡ refused_line k
  declined_prints x k h n = refusal_prints (number x) (carried x) (sym (ap packed_means h) ∙ e) ∙ ap refused_line (sym n)
