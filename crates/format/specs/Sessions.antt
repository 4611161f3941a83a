-- Whole sessions on map bytes, the calls lent as codes, one byte for each (document 01, "The drawing's book").
--
-- call_of k             == the call with the code k
-- is_call k             == whether k is the code of a call
-- calls_of ks           == the calls with the codes ks, in order
-- are_calls ks          == whether each of ks is the code of a call
-- no_call               == the number of the refusal where one is not; document 01's table ends at 17
-- statuses_of o         == the status of each call of the outcome o: 0, or the number of its refusal
-- gone_round_bit         == what the sign adds to the number in an entry: bit 15
-- entry_of r            == the number that stands for the reply r in the list of answers
-- values_of o           == the entry of each call: 0 where it is refused
-- reply_from x          == the reply that the entry x stands for
-- answer_from k x       == the answer that the status k and the entry x stand for
-- answers_from ks xs    == the answers that the statuses ks and the entries xs stand for
-- run_checks ks k l     == a session's own checks, of the codes ks, k statuses and l answers being lent: 2 and `no_call`
-- ran_of s i ks k l     == a session on the map s from the first number i: the outcome, after opening's checks and its own
-- Assumes nothing.
use Rattle.std.specs.Prelude.{◌≡◌, Bool, true, ◌&&◌, List, [], ◌∷◌, ◌++◌, map, ℕ, zero, suc, ◌+◌, ◌-◌, ◌≤◌, eqb, leb, length}
use Rattle.count.specs.Below.{pick}
use Rattle.answers.specs.Answer.{Answer, answer, refused, number_of, value_of, told, Reply}
use Rattle.answers.specs.Checks.{Check, check, after}
use Rattle.drawing.specs.Session.{Call, Outcome}
use Rattle.format.specs.Open.{open_checks, open_of}
use Rattle.format.specs.Calls.{map_session}

-- 01, "The drawing's book": "the names of the calls in order". 5 is area; a number that is no code is read as 5, and `is_call` tells it.
unfoldable pub call_of : ℕ → Call
call_of k =
    pick (eqb k 0) Call.cross
    (pick (eqb k 1) Call.turn (pick (eqb k 2) Call.turn_back (pick (eqb k 3) Call.along (pick (eqb k 4) Call.point Call.area))))

abbrev pub is_call : ℕ → Bool
is_call k = leb k 5

abbrev pub calls_of : List ℕ → List Call
calls_of ks = map call_of ks

unfoldable pub are_calls : List ℕ → Bool
are_calls [] = true
are_calls (k ∷ ks) = is_call k && are_calls ks

abbrev pub no_call : ℕ
no_call = 255

abbrev pub statuses_of : Outcome → List ℕ
statuses_of o = map number_of o.answers

-- 02, 8/14: "a sign that it has gone round". An entry is one number of 16 bits, and every number answered is below 4,098.
abbrev pub gone_round_bit : ℕ
gone_round_bit = 32768

abbrev pub entry_of : Reply → ℕ
entry_of r = pick r.sign (r.value + gone_round_bit) r.value

abbrev pub values_of : Outcome → List ℕ
values_of o = map (λ a. value_of (told entry_of a)) o.answers

-- what a host reads off both lists
abbrev pub reply_from : ℕ → Reply
reply_from x = record { value = pick (leb gone_round_bit x) (x - gone_round_bit) x; sign = leb gone_round_bit x }

abbrev pub answer_from : ℕ → ℕ → Answer Reply
answer_from zero x = answer (reply_from x)
answer_from (suc k) x = refused (suc k)

unfoldable pub answers_from : List ℕ → List ℕ → List (Answer Reply)
answers_from [] xs = []
answers_from (k ∷ ks) [] = []
answers_from (k ∷ ks) (x ∷ xs) = answer_from k x ∷ answers_from ks xs

-- 2 is document 01's number for lent memory that is too short
abbrev pub run_checks : List ℕ → ℕ → ℕ → List Check
run_checks ks k l =
    check 2 (leb (length ks) k && leb (length ks) l) ((length ks ≤ k) × (length ks ≤ l))
    ∷ check no_call (are_calls ks) (are_calls ks ≡ true)
    ∷ []

-- 01: "Every call on map bytes runs 8 to 12, then its own", and with them 20
unfoldable pub ran_of : List ℕ → ℕ → List ℕ → ℕ → ℕ → Answer Outcome
unfolding open_of are_calls map_session call_of
ran_of s i ks k l = after (open_checks s ++ run_checks ks k l) (map_session s i (calls_of ks))
