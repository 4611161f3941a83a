-- What holds of turning all the way round (document 02, 8/14), beside where a turn has its sign: one record for each theorem of
-- proofs/Round.antt.
--
-- TurnUndone s       == on the map s a turn back undoes a turn, sign for sign, and a turn undoes a turn back
-- signed a           == whether the answer a has the sign
-- signs_in answers    == how many of the answers have the sign
-- Closes s c i d     == the session of d calls c from place i leaves i, and one of its answers has the sign
-- TurnCloses s       == once round a point, in both senses
-- OnTheMap s i cs    == in the session cs from i no call is refused, and the place left is one of the map
-- NeverStops s       == that of every place of the map, whatever the calls; from any other number every call gets 13
-- Assumes nothing.
use Rattle.std.specs.Prelude.{◌≡◌, Bool, false, List, [], ◌∷◌, map, ℕ, ◌*◌, ◌≤◌, replicate}
use Rattle.count.specs.Below.{tick}
use Rattle.answers.specs.Answer.{Answer, answer, refused_with, refused, Reply, Kind}
use Rattle.drawing.specs.Session.{Call}
use Rattle.format.specs.Bytes.{size_in}
use Rattle.format.specs.Calls.{map_session, turn_of, turn_back_of, point_of, size_of}

-- 01, Moves: "Turn back: the reverse." 02, 8/14: of all turns, with those that go round
pub record TurnUndone (s : List ℕ) : Type 0 where
  pub turn : (i j : ℕ) (t : Bool) → turn_of s i ≡ answer (record { value = j; sign = t })
      → turn_back_of s j ≡ answer (record { value = i; sign = t })
  pub turn_back : (i j : ℕ) (t : Bool) → turn_back_of s i ≡ answer (record { value = j; sign = t })
      → turn_of s j ≡ answer (record { value = i; sign = t })

abbrev pub signed : Answer Reply → Bool
signed (answer r) = r.sign
signed (refused_with k xs) = false

unfoldable pub signs_in : List (Answer Reply) → ℕ
signs_in [] = 0
signs_in (a ∷ rest) = tick (signed a) (signs_in rest)

pub record Closes (s : List ℕ) (c : Call) (i d : ℕ) : Type 0 where
  pub back : (map_session s i (replicate d c)).place ≡ i
  pub once : signs_in (map_session s i (replicate d c)).answers ≡ 1

-- 02, 8/14: "Agents step round a corner in both senses"; as many turns as the point has places lead back
pub record TurnCloses (s : List ℕ) : Type 0 where
  pub turn : (i k d : ℕ) → point_of s i ≡ answer k → size_of s Kind.point k ≡ answer d → Closes s Call.turn i d
  pub turn_back : (i k d : ℕ) → point_of s i ≡ answer k → size_of s Kind.point k ≡ answer d → Closes s Call.turn_back i d

pub record OnTheMap (s : List ℕ) (i : ℕ) (cs : List Call) : Type 0 where
  pub replies : List Reply
  pub all : (map_session s i cs).answers ≡ map answer replies
  pub least : 1 ≤ (map_session s i cs).place
  pub most : (map_session s i cs).place ≤ 2 * (size_in s).m

-- 02, 8/14: "A session now has no stopping turns". 01: "If the place is not 1 to 2m, every call gets 13 and the place stays."
pub record NeverStops (s : List ℕ) : Type 0 where
  pub session : (i : ℕ) → 1 ≤ i → i ≤ 2 * (size_in s).m → (cs : List Call) → OnTheMap s i cs
  pub elsewhere : (i : ℕ) → (1 ≤ i → i ≤ 2 * (size_in s).m → ⊥) → (cs : List Call)
      → map_session s i cs ≡ record { answers = map (λ _. refused 13) cs; place = i }
