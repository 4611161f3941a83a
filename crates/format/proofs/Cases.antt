-- Two maps and some drawings by computation: in B and B* a 0 opens and a 1 closes, a loop joins its point with itself, which turns go
-- round, 7 carries its pair, in which order finding marks declines, and which cards a box already sold takes. Assumes nothing.
use mathlib.Core.Path.{◌≡◌, refl}
use mathlib.Core.Bool.{true, false}
use mathlib.Core.List.{List, [], ◌∷◌}
use Prim.Native.Nat.{ℕ}
use Rattle.answers.specs.Answer.{answer, refused_with, unsigned}
use Rattle.words.specs.declared.family.Family.TheVariants.{Round as round, Square as square}
use Rattle.drawing.specs.Drawing.{Drawing}
use Rattle.format.specs.Before.{refusal_before}
use Rattle.format.specs.Bytes.{longest, word_in}
use Rattle.format.specs.Calls.{turn_of, turn_back_of, joining_of}
use Rattle.format.specs.Sessions.{entry_of}
use Rattle.format.specs.Pack.{pack_of}
use Rattle.format.specs.Suggest.{marks_refusal}

-- document 01's cases (b) and (c)
abbrev stub_map : List ℕ
stub_map = 0x01 ∷ 0x00 ∷ 0x02 ∷ 0x00 ∷ 0x01 ∷ 0x00 ∷ 0x03 ∷ 0x02 ∷ []

abbrev enclave_map : List ℕ
enclave_map = 0x01 ∷ 0x00 ∷ 0x01 ∷ 0x00 ∷ 0x02 ∷ 0x00 ∷ 0x00 ∷ 0x02 ∷ []

-- (b) without the count of areas
abbrev stub_then : List ℕ
stub_then = 0x01 ∷ 0x00 ∷ 0x02 ∷ 0x00 ∷ 0x03 ∷ 0x02 ∷ []

-- document 01's example of 7
abbrev interlaced : Drawing
interlaced = record { turning = 2 ∷ 3 ∷ 1 ∷ 0 ∷ []; marks = 0 ∷ 0 ∷ []; start = 0 }

-- two borders with these entries, whose marks and start finding marks does not look at
abbrev two : List ℕ → Drawing
two turning = record { turning = turning; marks = 255 ∷ 255 ∷ []; start = 9 }

pub record Cases : Type 0 where
  pub stub_opens : (word_in stub_map).letter 0 ≡ record { family = round; closing = false }
  pub stub_closes : (word_in stub_map).letter 1 ≡ record { family = round; closing = true }
  pub enclave_opens : (word_in enclave_map).letter 0 ≡ record { family = square; closing = false }
  -- the enclave's one border is a loop
  pub enclave_joins : joining_of enclave_map 1 1 ≡ answer 1
  pub enclave_closes : (word_in enclave_map).letter 1 ≡ record { family = square; closing = true }
  -- 02, 8/14: of the enclave's two places the second is the last; the stub's first is the only one about its point
  pub enclave_turn : turn_of enclave_map 1 ≡ answer (unsigned 2)
  pub enclave_round : turn_of enclave_map 2 ≡ answer (record { value = 1; sign = true })
  pub enclave_back : turn_back_of enclave_map 2 ≡ answer (unsigned 1)
  pub enclave_round_back : turn_back_of enclave_map 1 ≡ answer (record { value = 2; sign = true })
  pub stub_round_back : turn_back_of stub_map 1 ≡ answer (record { value = 1; sign = true })
  -- in a session's entries the sign is the mask 0x8000
  pub entry_round : entry_of (record { value = 1; sign = true }) ≡ 0x8001
  pub seven_carries : pack_of interlaced 12 longest ≡ refused_with 7 (0 ∷ 1 ∷ [])
  -- a ring of two borders; two loops on two points; the same with an entry twice, which comes first
  pub ring_found : marks_refusal (two (2 ∷ 3 ∷ 0 ∷ 1 ∷ [])) 12 ≡ 0
  pub loops_apart : marks_refusal (two (1 ∷ 0 ∷ 3 ∷ 2 ∷ [])) 12 ≡ 21
  pub four_first : marks_refusal (two (1 ∷ 1 ∷ 3 ∷ 2 ∷ [])) 12 ≡ 4
  -- a box already sold takes a card of then, and not one of today
  pub stub_then : refusal_before stub_then ≡ 0
  pub stub_now : refusal_before stub_map ≡ 9

pub cases : Cases
unfolding word_in turn_of turn_back_of joining_of pack_of marks_refusal refusal_before
cases =
    record {
      stub_opens = refl;
      stub_closes = refl;
      enclave_opens = refl;
      enclave_joins = refl;
      enclave_closes = refl;
      enclave_turn = refl;
      enclave_round = refl;
      enclave_back = refl;
      enclave_round_back = refl;
      stub_round_back = refl;
      entry_round = refl;
      seven_carries = refl;
      ring_found = refl;
      loops_apart = refl;
      four_first = refl;
      stub_then = refl;
      stub_now = refl;
    }
