-- Turning all the way round (document 02, 8/14), as theorems of every byte string.
--
-- turn_undone  == a turn back undoes a turn, sign for sign, and a turn undoes a turn back
-- turn_closes  == as many turns as the point has places lead back, and exactly one of them has the sign; both senses
-- never_stops  == on a map that opens, from one of its places, no call of a session is refused, and the place left is one of the map;
--                 from any other number every call gets 13, and the place stays
-- Assumes nothing.
use mathlib.Core.Path.{◌≡◌, refl, sym, ap, ap₂, ◌∙◌}
use mathlib.Core.Bool.{Bool, true}
use mathlib.Core.List.{List, [], ◌∷◌, map}
use Prim.Native.Nat.{ℕ, zero, suc, pred, ◌*◌, ◌≤◌, ◌<◌}
use native.Mathlib.Omega.{arith}
use lib.ListN.{replicate}
use Rattle.count.specs.Below.{pick, tick}
use Rattle.answers.specs.Answer.{Answer, answer, refused, Reply, Kind}
use Rattle.orbits.specs.Cycles.{iter}
use Rattle.orbits.proofs.Iter.{iter_commute}
use Rattle.words.specs.Brackets.{Bracket, step, back, number, is_first, is_last, size}
use Rattle.words.specs.declared.family.Family.TheVariants.{Round as round, Square as square}
use Rattle.words.specs.Word.{seen, mate_in}
use Rattle.words.proofs.Mates.{mate_in_below}
use Rattle.words.proofs.Step.{step_below, back_below, step_back, back_step}
use Rattle.words.proofs.Round.{first_step, met, step_closes, back_closes}
use Rattle.drawing.specs.Session.{Call, is_move, place_after, Outcome, session}
use Rattle.format.specs.Bytes.{size_in, word_in}
use Rattle.format.specs.Open.{open_refusal, Opens}
use Rattle.format.specs.Calls.{move_in, sign_in, reply_in, map_answer, map_session, turn_of, turn_back_of, point_of, places_in, size_of}
use Rattle.format.proofs.Places.{at_none, call_opens}
use Rattle.demands.proofs.Asked.{nested, answer_at_lem, Asked, asked, asked_plain, asked_size}
use Rattle.demands.specs.Round.{TurnUndone, signs_in, Closes, TurnCloses, OnTheMap, NeverStops}

abbrev reply : ℕ → Bool → Reply
reply x t = record { value = x; sign = t }

-- the round brackets of the map s, and how many places it has
abbrev rounds : List ℕ → ℕ → Bracket
rounds s = seen round (word_in s)

abbrev ends : List ℕ → ℕ
ends s = (word_in s).size

-- a call d that leads back from where the call c leads, with the sign that c has
abbrev Undoes : List ℕ → Call → Call → Type 0
Undoes s c d = (p : ℕ) → p < ends s
    → (q : ℕ) × (q < ends s) × (move_in (word_in s) c p ≡ suc q) × (reply_in (word_in s) d q ≡ reply (suc p) (sign_in (word_in s) c p))

undone : (s : List ℕ) (c d : Call) → (open_refusal s ≡ 0 → Undoes s c d)
    → (i j : ℕ) (t : Bool) → map_answer s c i ≡ answer (reply j t) → map_answer s d j ≡ answer (reply i t)
undone s c d undoes i j t e =
    let a = asked s c i (reply j t) e in
    let A : Asked s i = a.0 in
    let q = undoes A.opens (pred i) A.below in
    ap (map_answer s d) (sym (ap (λ (r : Reply). r.value) a.1) ∙ q.2)
    ∙ answer_at_lem s A.opens d q.0 q.1
    ∙ ap answer (q.3 ∙ ap₂ reply A.place (ap (λ (r : Reply). r.sign) a.1))

module _ (s : List ℕ) (o : open_refusal s ≡ 0) where
  turn_undoes : Undoes s Call.turn Call.turn_back
  unfolding move_in sign_in
  turn_undoes p l =
      let b : ℕ → Bracket = rounds s in
      let n : ℕ = ends s in
      let bal = nested s o round in
      (step b n p, step_below b n bal p l, refl, ap₂ reply (ap suc (back_step b n bal p l)) (first_step b n bal p l))

  back_undoes : Undoes s Call.turn_back Call.turn
  unfolding move_in sign_in
  back_undoes p l =
      let b : ℕ → Bracket = rounds s in
      let n : ℕ = ends s in
      let bal = nested s o round in
      let q : ℕ = back b n p in
      let below : q < n = back_below b n bal p l in
      let again : step b n q ≡ p = step_back b n bal p l in
      (q, below, refl, ap₂ reply (ap suc again) (sym (first_step b n bal q below) ∙ ap (is_first b) again))

pub turn_undone : (s : List ℕ) → TurnUndone s
unfolding turn_of turn_back_of
turn_undone s =
    record { turn = undone s Call.turn Call.turn_back (turn_undoes s); turn_back = undone s Call.turn_back Call.turn (back_undoes s) }

-- one call more at the front of a session
session_more : (ask : Call → ℕ → Answer Reply) (c : Call) (i : ℕ) (cs : List Call) (a : Answer Reply) → ask c i ≡ a
    → session ask i (c ∷ cs)
    ≡ record { answers = a ∷ (session ask (place_after c a i) cs).answers; place = (session ask (place_after c a i) cs).place }
unfolding session
session_more ask c i cs a e =
    ap (λ (x : Answer Reply). record { answers = x ∷ (session ask (place_after c x i) cs).answers; place = (session ask (place_after c x i) cs).place }) e

-- ---- a move again and again
module _ (ask : Call → ℕ → Answer Reply) (c : Call) (moves : is_move c ≡ true) (f : ℕ → ℕ) (t : ℕ → Bool) (n : ℕ)
    (below : (p : ℕ) → p < n → f p < n) (asks : (p : ℕ) → p < n → ask c (suc p) ≡ answer (reply (suc (f p)) (t p))) where
  walked : (k p : ℕ) → p < n
      → ((session ask (suc p) (replicate k c)).place ≡ suc (iter f k p)) × (signs_in (session ask (suc p) (replicate k c)).answers ≡ met f t k p)
  unfolding session signs_in iter met
  walked zero p l = (refl, refl)
  walked (suc k) p l =
      let h = session_more ask c (suc p) (replicate k c) (answer (reply (suc (f p)) (t p))) (asks p l) in
      let q : ℕ = pick (is_move c) (suc (f p)) (suc p) in
      let to : q ≡ suc (f p) = ap (λ y. pick y (suc (f p)) (suc p)) moves in
      let W = walked k (f p) (below p l) in (
        ap (λ (o : Outcome). o.place) h ∙ ap (λ x. (session ask x (replicate k c)).place) to ∙ W.0 ∙ ap suc (iter_commute f k p),
        ap (λ (o : Outcome). signs_in o.answers) h
            ∙ ap (λ x. tick (t p) (signs_in (session ask x (replicate k c)).answers)) to
            ∙ ap (tick (t p)) W.1,
      )

module _ (s : List ℕ) (i k d : ℕ) (here : point_of s i ≡ answer k) (many : size_of s Kind.point k ≡ answer d) where
  abbrev p : ℕ
  p = pred i

  there : Asked s i
  unfolding point_of
  there = (asked_plain s Call.point i k here).0

  about : number (rounds s) p ≡ k
  unfolding point_of move_in
  about = (asked_plain s Call.point i k here).1

  places : size (rounds s) (ends s) k ≡ d
  unfolding places_in
  places = asked_size s Kind.point k d many

  -- once round by the move c, which is f and has the sign where t holds
  closed : (c : Call) → is_move c ≡ true → (f : ℕ → ℕ) (t : ℕ → Bool) → ((q : ℕ) → q < ends s → f q < ends s)
      → ((q : ℕ) → q < ends s → map_answer s c (suc q) ≡ answer (reply (suc (f q)) (t q)))
      → (iter f (size (rounds s) (ends s) k) p ≡ p) × (met f t (size (rounds s) (ends s) k) p ≡ 1) → Closes s c i d
  unfolding map_session
  closed c moves f t below asks around =
      let W = walked (map_answer s) c moves f t (ends s) below asks d p there.below in
      record {
        back = ap (λ x. (map_session s x (replicate d c)).place) (sym there.place)
            ∙ W.0 ∙ ap (λ x. suc (iter f x p)) (sym places) ∙ ap suc around.0 ∙ there.place;
        once = ap (λ x. signs_in (map_session s x (replicate d c)).answers) (sym there.place)
            ∙ W.1 ∙ ap (λ x. met f t x p) (sym places) ∙ around.1;
      }

  turn_closed : Closes s Call.turn i d
  unfolding move_in sign_in
  turn_closed =
      let o = there.opens in
      let bal = nested s o round in
      closed Call.turn refl (step (rounds s) (ends s)) (is_last (rounds s) (ends s)) (step_below (rounds s) (ends s) bal) (answer_at_lem s o Call.turn)
      (step_closes (rounds s) (ends s) bal k p there.below about)

  back_closed : Closes s Call.turn_back i d
  unfolding move_in sign_in
  back_closed =
      let o = there.opens in
      let bal = nested s o round in
      closed Call.turn_back refl (back (rounds s) (ends s)) (is_first (rounds s)) (back_below (rounds s) (ends s) bal) (answer_at_lem s o Call.turn_back)
      (back_closes (rounds s) (ends s) bal k p there.below about)

pub turn_closes : (s : List ℕ) → TurnCloses s
turn_closes s = record { turn = turn_closed s; turn_back = back_closed s }

-- ---- no stopping turns
module _ (s : List ℕ) (o : open_refusal s ≡ 0) where
  -- where a call leads
  lands : (c : Call) (q : ℕ) → q < ends s
      → (r : ℕ) × (r < ends s) × (place_after c (answer (reply_in (word_in s) c q)) (suc q) ≡ suc r)
  unfolding move_in
  lands Call.cross q l = (mate_in (word_in s) q, mate_in_below (word_in s) (nested s o) q l, refl)
  lands Call.turn q l =
      (step (rounds s) (ends s) q, step_below (rounds s) (ends s) (nested s o round) q l, refl)
  lands Call.turn_back q l =
      (back (rounds s) (ends s) q, back_below (rounds s) (ends s) (nested s o round) q l, refl)
  lands Call.along q l =
      (step (seen square (word_in s)) (ends s) q, step_below (seen square (word_in s)) (ends s) (nested s o square) q l, refl)
  lands Call.point q l = (q, l, refl)
  lands Call.area q l = (q, l, refl)

  record Run (q : ℕ) (cs : List Call) : Type 0 where
    replies : List Reply
    all : (session (map_answer s) (suc q) cs).answers ≡ map answer replies
    at : ℕ
    below : at < ends s
    place : (session (map_answer s) (suc q) cs).place ≡ suc at

  run : (cs : List Call) (q : ℕ) → q < ends s → Run q cs
  unfolding session
  run [] q l = record { replies = []; all = refl; at = q; below = l; place = refl }
  run (c ∷ cs) q l =
      let r : Reply = reply_in (word_in s) c q in
      let h = session_more (map_answer s) c (suc q) cs (answer r) (answer_at_lem s o c q l) in
      let x = lands c q l in
      let R : Run x.0 cs = run cs x.0 x.1 in
      record {
        replies = r ∷ R.replies;
        all = ap (λ (u : Outcome). u.answers) h ∙ ap (λ y. answer r ∷ (session (map_answer s) y cs).answers) x.2 ∙ ap (λ ys. answer r ∷ ys) R.all;
        at = R.at;
        below = R.below;
        place = ap (λ (u : Outcome). u.place) h ∙ ap (λ y. (session (map_answer s) y cs).place) x.2 ∙ R.place;
      }

  on_the_map : (i : ℕ) → 1 ≤ i → i ≤ 2 * (size_in s).m → (cs : List Call) → OnTheMap s i cs
  unfolding map_session word_in
  on_the_map zero l m cs = absurd (omega arith)
  on_the_map (suc q) l m cs =
      let R : Run q cs = run cs q (omega arith) in
      record { replies = R.replies; all = R.all; least = omega (arith, R.place); most = omega (arith, R.place, R.below) }

  off_the_map : (i : ℕ) → (1 ≤ i → i ≤ 2 * (size_in s).m → ⊥) → (cs : List Call)
      → map_session s i cs ≡ record { answers = map (λ _. refused 13) cs; place = i }
  unfolding map_session session word_in
  off_the_map i n [] = refl
  off_the_map i n (c ∷ cs) =
      session_more (map_answer s) c i cs (refused 13) (call_opens s o c i ∙ at_none (word_in s) c i n)
      ∙ ap (λ (u : Outcome). record { answers = refused 13 ∷ u.answers; place = u.place }) (off_the_map i n cs)

pub never_stops : (s : List ℕ) → Opens s → NeverStops s
never_stops s opens = record { session = on_the_map s opens.passes; elsewhere = off_the_map s opens.passes }
