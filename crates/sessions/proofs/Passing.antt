-- The calls of a session one after the other: what the loop keeps, and what the lists hold at the end.
--
-- laid_here   == an entry laid at i, and the rest after it, are laid from i on
-- codes_here  == the call at i, and the rest
-- from s f p cs l i == l with f of each answer of the session cs from place p laid from entry i on
-- Partway s first ks st₀ an₀ st an p i == the first i entries are written, p is the place after i calls, and the session of the calls
--                that are left, from p, makes up the whole one
-- partway_start, partway_found, partway_refused, partway_end == the loop: from one call to the next by what it found, and where it is refused
-- Assumes nothing.
use mathlib.Core.Path.{◌≡◌, refl, sym, ap, ◌∙◌}
use mathlib.Core.List.{List, [], ◌∷◌, ◌++◌, map}
use Prim.Native.Nat.{ℕ, suc, ◌+◌, ◌<◌, ◌≤◌}
use native.Mathlib.Numerals.{add-one}
use native.Mathlib.Omega.{arith}
use lib.ListN.{length, get_or, set, take, drop, length-set, drop_of_length-le, take-append-drop}
use lib.Seq.{drop-cons, drop-drop, drop-set-lt, take-suc-set, append_snoc}
use Rattle.answers.specs.Lent.{laid}
use Rattle.answers.specs.Answer.{Answer, number_of, value_of, told, Reply}
use Rattle.drawing.specs.Session.{Call, place_after, session}
use Rattle.format.specs.Calls.{map_answer, map_session}
use Rattle.format.specs.Sessions.{call_of, calls_of, entry_of, statuses_of, values_of}
use Rattle.sessions.specs.Runs.{Room, Leaves}
use Rattle.calling.specs.Told.{found_reply, place_from, Gives}
use Rattle.calling.specs.declared.calls.Found.{Found}
use Rattle.std.specs.Prelude.{Result, Ok, Err}
use Rattle.answers.specs.declared.refusal.Refusal.{Refusal}
use Rattle.answers.specs.Means.{number}

laid_here : (x : ℕ) (xs st : List ℕ) (i : ℕ) → i < length st
    → take (i + 1) (set st i x) ++ laid xs (drop (i + 1) (set st i x)) ≡ take i st ++ laid (x ∷ xs) (drop i st)
laid_here x xs st i l =
    let n : suc i + length xs ≡ i + suc (length xs) = omega arith in
    let d : drop (length xs) (drop (suc i) (set st i x)) ≡ drop (suc (length xs)) (drop i st)
    = ap (drop (length xs)) (drop-set-lt (suc i) st i x (omega arith)) ∙ drop-drop (length xs) (suc i) st ∙ ap (λ k. drop k st) n
    ∙ sym (drop-drop (suc (length xs)) i st) in
    rw (add-one, take-suc-set st i x l, d) (append_snoc (take i st) x (xs ++ drop (suc (length xs)) (drop i st)))

codes_here : (ks : List ℕ) (i : ℕ) → i < length ks → calls_of (drop i ks) ≡ call_of (get_or ks i 0) ∷ calls_of (drop (i + 1) ks)
codes_here ks i l = rw (add-one, drop-cons ks i 0)

-- entry by entry, f of each answer
module _ (s : List ℕ) (f : Answer Reply → ℕ) where
  pub from : ℕ → List Call → List ℕ → ℕ → List ℕ
  from p cs st i = take i st ++ laid (map f (map_session s p cs).answers) (drop i st)

  from_start : (p : ℕ) (cs : List Call) (st : List ℕ) → from p cs st 0 ≡ laid (map f (map_session s p cs).answers) st
  unfolding from
  from_start p cs st = refl

  from_end : (p : ℕ) (st : List ℕ) (i : ℕ) → from p [] st i ≡ st
  unfolding from map_session session
  from_end p st i = take-append-drop i st

  from_more : (p : ℕ) (c : Call) (cs : List Call) (st : List ℕ) (i x q : ℕ) → i < length st → x ≡ f (map_answer s c p) → q ≡ place_after c (map_answer s c p) p
      → from q cs (set st i x) (i + 1) ≡ from p (c ∷ cs) st i
  unfolding from map_session session
  from_more p c cs st i x q l hx hq =
      rw (hx, hq) (laid_here (f (map_answer s c p)) (map f (session (map_answer s) (place_after c (map_answer s c p) p) cs).answers) st i l)

place_more : (s : List ℕ) (p : ℕ) (c : Call) (cs : List Call) (q : ℕ) → q ≡ place_after c (map_answer s c p) p
    → (map_session s q cs).place ≡ (map_session s p (c ∷ cs)).place
unfolding map_session session
place_more s p c cs q h = ap (λ x. (session (map_answer s) x cs).place) h

place_end : (s : List ℕ) (p : ℕ) → (map_session s p []).place ≡ p
unfolding map_session session
place_end s p = refl

abbrev entry : Answer Reply → ℕ
entry a = value_of (told entry_of a)

module _ (s : List ℕ) (first : ℕ) (ks st₀ an₀ : List ℕ) where
  abbrev call_here : ℕ → Call
  call_here i = call_of (get_or ks i 0)

  abbrev answer_here : ℕ → ℕ → Answer Reply
  answer_here p i = map_answer s (call_here i) p

  pub record Partway (st an : List ℕ) (p i : ℕ) : Type 0 where
    pub within : i ≤ length ks
    pub room : Room ks st₀ an₀
    pub statuses_long : length st ≡ length st₀
    pub answers_long : length an ≡ length an₀
    pub place : (map_session s p (calls_of (drop i ks))).place ≡ (map_session s first (calls_of ks)).place
    pub statuses : from s number_of p (calls_of (drop i ks)) st i ≡ laid (statuses_of (map_session s first (calls_of ks))) st₀
    pub answers : from s entry p (calls_of (drop i ks)) an i ≡ laid (values_of (map_session s first (calls_of ks))) an₀

  pub partway_start : Room ks st₀ an₀ → Partway st₀ an₀ first 0
  partway_start R =
      record {
        within = omega arith;
        room = R;
        statuses_long = refl;
        answers_long = refl;
        place = refl;
        statuses = from_start s number_of first (calls_of ks) st₀;
        answers = from_start s entry first (calls_of ks) an₀;
      }

  module _ (st an : List ℕ) (p i : ℕ) (R : Partway st an p i) where
    pub partway_more : (x y q : ℕ) → i < length ks → x ≡ number_of (answer_here p i) → y ≡ entry (answer_here p i) → q ≡ place_after (call_here i) (answer_here p i) p
        → Partway (set st i x) (set an i y) q (i + 1)
    partway_more x y q l hx hy hq =
        let c : Call = call_here i in
        let cs : List Call = calls_of (drop (i + 1) ks) in
        let h : calls_of (drop i ks) ≡ c ∷ cs = codes_here ks i l in
        record {
          within = omega arith;
          room = R.room;
          statuses_long = length-set st i x ∙ R.statuses_long;
          answers_long = length-set an i y ∙ R.answers_long;
          place = place_more s p c cs q hq ∙ ap (λ z. (map_session s p z).place) (sym h) ∙ R.place;
          statuses =
              from_more s number_of p c cs st i x q (omega (arith, R.room.statuses, R.statuses_long)) hx hq
              ∙ ap (λ z. from s number_of p z st i) (sym h) ∙ R.statuses;
          answers =
              from_more s entry p c cs an i y q (omega (arith, R.room.answers, R.answers_long)) hy hq
              ∙ ap (λ z. from s entry p z an i) (sym h) ∙ R.answers;
        }

    module _ (r : Result Found Refusal) (st' an' : List ℕ) (q : ℕ) (l : i < length ks) (G : Gives (call_here i) (answer_here p i) p r) where
      pub partway_found : (f : Found) → r ≡ Ok f → st' ≡ set st i 0 → (y : ℕ) → y ≡ entry_of (found_reply f) → an' ≡ set an i y → q ≡ place_from f p
          → Partway st' an' q (i + 1)
      unfolding number_of value_of
      partway_found f o hs y hy ha hq =
          rw (hs, ha) (partway_more 0 y q l (ap number_of (rw o at G.means)) (hy ∙ ap entry (rw o at G.means)) (hq ∙ rw o at G.place))

      pub partway_refused : (e : Refusal) → r ≡ Err e → (x : ℕ) → x ≡ number e → st' ≡ set st i x → an' ≡ set an i 0 → q ≡ p
          → Partway st' an' q (i + 1)
      unfolding number_of value_of
      partway_refused e o x hx hs ha hq =
          rw (hs, ha) (partway_more x 0 q l (hx ∙ ap number_of (rw o at G.means)) (ap entry (rw o at G.means)) (hq ∙ rw o at G.place))

    none_left : length ks ≤ i → calls_of (drop i ks) ≡ []
    none_left l = ap calls_of (drop_of_length-le ks l)

    pub partway_end : length ks ≤ i → Leaves (map_session s first (calls_of ks)) p st₀ an₀ st an
    partway_end l =
        record {
          place = sym (place_end s p) ∙ ap (λ x. (map_session s p x).place) (sym (none_left l)) ∙ R.place;
          statuses = sym (from_end s number_of p st i) ∙ ap (λ x. from s number_of p x st i) (sym (none_left l)) ∙ R.statuses;
          answers = sym (from_end s entry p an i) ∙ ap (λ x. from s entry p x an i) (sym (none_left l)) ∙ R.answers;
        }
