-- Every call on map bytes gives the refusal of the first of its checks that fails, or its answer: opening's checks, then its own.
--
-- place_decides, number_decides, room_decides, run-decides == the tests of 13, of 14 and 15, of 16, of a session's 2
-- cell_decided     == the checks of a call about a point or an area
-- place_refusals   == of the six calls at a place
-- first_refusals, size_refusals, neighbours_refusals == of a point or an area
-- joining_refusals, unpack_refusals, session_refusals == of a joining border, of unpacking, of a whole session
-- Assumes nothing.
use mathlib.Core.Bool.{◌&&◌}
use mathlib.Core.List.{List, [], ◌∷◌, ◌++◌}
use Prim.Native.Nat.{ℕ, pred, ◌*◌, ◌≤◌}
use lib.Dec.{ltb, leb}
use lib.ListN.{length, drop}
use Rattle.count.specs.Below.{Decides}
use Rattle.count.proofs.Decides.{decides_lt, decides_le, decides_both, decides_true}
use Rattle.answers.specs.Answer.{Kind}
use Rattle.answers.specs.declared.given.Size.{Size}
use Rattle.answers.specs.Checks.{InOrder, Decided}
use Rattle.answers.proofs.Order.{decided_append, in_order}
use Rattle.words.specs.Brackets.{first}
use Rattle.words.specs.declared.family.Family.TheVariants.{Round as round}
use Rattle.words.specs.Word.{seen}
use Rattle.drawing.specs.Session.{Call}
use Rattle.format.specs.Bytes.{size_in, bits_a, word_in}
use Rattle.format.specs.Open.{open_checks}
use Rattle.format.specs.Calls.{reply_in, place_checks, map_answer, map_session, cells_in, is_number, number_check, cell_checks, first_in, first_of, places_in, size_of, neighbours_in, neighbours_of}
use Rattle.format.specs.Calls.{join_in, join_checks, joining_of}
use Rattle.format.specs.Sessions.{calls_of, are_calls, run_checks, ran_of}
use Rattle.format.specs.Pack.{drawing_of, unpack_checks, unpack_of}
use Rattle.format.proofs.Passes.{open_decided}

place_decides : (n i : ℕ) → Decides (ltb 0 i && leb i n) ((1 ≤ i) × (i ≤ n))
place_decides n i = decides_both (decides_lt 0 i) (decides_le i n)

pub number_decides : (z : Size) (c : Kind) (k : ℕ) → Decides (is_number z c k) ((1 ≤ k) × (k ≤ cells_in z c))
number_decides z c k = place_decides (cells_in z c) k

pub run_decided : (ks : List ℕ) (k l : ℕ) → Decided (run_checks ks k l)
run_decided ks k l = (decides_both (decides_le (length ks) k) (decides_le (length ks) l), λ _. (decides_true (are_calls ks), λ _. tt))

module _ (s : List ℕ) where
  place_decided : (i : ℕ) → Decided (place_checks s i)
  place_decided i = decided_append (open_checks s) (drop 6 (place_checks s i)) (open_decided s) (λ _. (place_decides (bits_a (size_in s)) i, λ _. tt))

  pub cell_decided : (c : Kind) (k : ℕ) → Decided (cell_checks s c k)
  cell_decided c k =
      decided_append (open_checks s) (number_check (size_in s) c k ∷ []) (open_decided s) (λ _. (number_decides (size_in s) c k, λ _. tt))

  pub place_refusals : (c : Call) (i : ℕ) → InOrder (place_checks s i) (reply_in (word_in s) c (pred i)) (map_answer s c i)
  unfolding map_answer
  place_refusals c i = in_order (place_checks s i) (reply_in (word_in s) c (pred i)) (place_decided i)

  pub first_refusals : (c : Kind) (k : ℕ) → InOrder (cell_checks s c k) (first_in (word_in s) c k) (first_of s c k)
  unfolding first_of
  first_refusals c k = in_order (cell_checks s c k) (first_in (word_in s) c k) (cell_decided c k)

  pub size_refusals : (c : Kind) (k : ℕ) → InOrder (cell_checks s c k) (places_in (word_in s) c k) (size_of s c k)
  unfolding size_of
  size_refusals c k = in_order (cell_checks s c k) (places_in (word_in s) c k) (cell_decided c k)

  pub neighbours_refusals : (k : ℕ)
      → InOrder (cell_checks s Kind.area k) (neighbours_in (word_in s) (cells_in (size_in s) Kind.area) k) (neighbours_of s k)
  unfolding neighbours_of
  neighbours_refusals k =
      in_order (cell_checks s Kind.area k) (neighbours_in (word_in s) (cells_in (size_in s) Kind.area) k) (cell_decided Kind.area k)

  pub joining_refusals : (u v : ℕ)
      → InOrder (join_checks s u v) (join_in (word_in s) v (places_in (word_in s) Kind.point u) (first (seen round (word_in s)) (word_in s).size u)) (joining_of s u v)
  unfolding joining_of
  joining_refusals u v =
      in_order (join_checks s u v) (join_in (word_in s) v (places_in (word_in s) Kind.point u) (first (seen round (word_in s)) (word_in s).size u))
      (decided_append (cell_checks s Kind.point u) (number_check (size_in s) Kind.point v ∷ []) (cell_decided Kind.point u)
      (λ _. (number_decides (size_in s) Kind.point v, λ _. tt)))

  pub unpack_refusals : (t k : ℕ) → InOrder (unpack_checks s t k) (drawing_of (word_in s)) (unpack_of s t k)
  unfolding unpack_of
  unpack_refusals t k =
      in_order (unpack_checks s t k) (drawing_of (word_in s))
      (decided_append (open_checks s) (drop 6 (unpack_checks s t k)) (open_decided s)
      (λ _. (decides_both (decides_le (2 * (size_in s).m) t) (decides_le (size_in s).m k), λ _. tt)))

  pub session_refusals : (i : ℕ) (ks : List ℕ) (k l : ℕ)
      → InOrder (open_checks s ++ run_checks ks k l) (map_session s i (calls_of ks)) (ran_of s i ks k l)
  unfolding ran_of
  session_refusals i ks k l =
      in_order (open_checks s ++ run_checks ks k l) (map_session s i (calls_of ks))
      (decided_append (open_checks s) (run_checks ks k l) (open_decided s) (λ _. run_decided ks k l))
