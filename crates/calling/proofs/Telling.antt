-- What one call of a session gives, on bytes that open.
--
-- call_inside, call_outside == a call at a place answers what the word does, and at another number 13
-- place_at     == a place has a position
-- tells_no_place, tells_past, tells_inside == what `tell` returns: at 0, past the last place, and at a place
-- entry_signed == the entry of a turn that has gone round
-- entry_fits_lem   == an entry fits 16 bits
-- value_fits   == the number that a call answers leaves bit 15 free
-- found_cross, found_turn, found_turn_back, found_along, found_point, found_area == what `found_at` returns for each call
-- Assumes nothing.
use mathlib.Core.Path.{◌≡◌, refl, sym, ap, ◌∙◌}
use mathlib.Core.Bool.{Bool, true, false}
use mathlib.Core.List.{List}
use Prim.Native.Nat.{ℕ, pred, ◌+◌, ◌-◌, ◌<◌, ◌≤◌}
use native.Mathlib.Omega.{arith}
use Rattle.count.specs.Below.{pick}
use Rattle.count.proofs.Logic.{pick_yes}
use Rattle.answers.specs.Answer.{answer, refused, value_of, Reply, unsigned}
use Rattle.answers.specs.declared.numbers.Point.{Point}
use Rattle.answers.specs.declared.numbers.Area.{Area}
use Rattle.words.specs.Brackets.{step, number}
use Rattle.words.specs.declared.family.Family.TheVariants.{Round as round, Square as square}
use Rattle.words.specs.Word.{seen, mate_in}
use Rattle.drawing.specs.Session.{Call, place_after}
use Rattle.format.specs.Bytes.{size_in, bits_a, word_in}
use Rattle.format.specs.Open.{open_refusal}
use Rattle.format.specs.Calls.{move_in, sign_in, reply_in, map_answer}
use Rattle.format.proofs.Small.{move_small}
use Rattle.format.specs.Sessions.{gone_round_bit, entry_of}
use Rattle.format.proofs.Places.{at_place_lem, at_none, call_opens}
use Rattle.walking.specs.Positions.{Position}
use Rattle.answers.specs.Means.{turn_reply}
use Rattle.answers.specs.declared.given.Turn.{Turn}
use Rattle.walking.proofs.Decoded.{places_most}
use Rattle.surveying.specs.Surveyed.{Surveyed}
use Rattle.calling.specs.Codes.{meant}
use Rattle.calling.specs.declared.codes.Call as code
use Rattle.calling.specs.Told.{found_reply, place_from, Sorted, Finds, Gives}
use Rattle.calling.specs.declared.calls.Found.{Found}
use Rattle.std.specs.Prelude.{Ok, Err}
use Rattle.answers.specs.declared.refusal.Refusal.{Refusal}

-- ---- a call at a number
module _ (s : List ℕ) (o : open_refusal s ≡ 0) (c : Call) (i : ℕ) where
  call_inside : 0 < i → i ≤ bits_a (size_in s) → map_answer s c i ≡ answer (reply_in (word_in s) c (i - 1))
  unfolding word_in
  call_inside l h =
      let e : pred i ≡ i - 1 = omega arith in
      call_opens s o c i ∙ at_place_lem (word_in s) c i l h ∙ ap (λ p. answer (reply_in (word_in s) c p)) e

  call_outside : (0 < i → i ≤ bits_a (size_in s) → ⊥) → map_answer s c i ≡ refused 13
  unfolding word_in
  call_outside n = call_opens s o c i ∙ at_none (word_in s) c i n

-- ---- what `tell` returns
pub place_at : (s : List ℕ) (i n : ℕ) → open_refusal s ≡ 0 → (i ≡ 0 → ⊥) → n ≡ bits_a (size_in s) → i ≤ n → Position s (i - 1)
place_at s i n o m hn l =
    let k : 0 < i = omega arith in
    record { opens = o; below = omega arith; few = omega (arith, places_most s o) }

module _ (s ms rs ps : List ℕ) (S : Surveyed s ms rs ps) (c : Call) (i : ℕ) where
  refused_here : (0 < i → i ≤ bits_a (size_in s) → ⊥) → Gives c (map_answer s c i) i (Err Refusal.NoPlace)
  refused_here n = rw (call_outside s S.opens c i n) (record { means = refl; place = refl; sort = tt; fits = tt })

  pub tells_no_place : i ≡ 0 → Gives c (map_answer s c i) i (Err Refusal.NoPlace)
  tells_no_place e = refused_here (λ l h. omega arith)

  pub tells_past : (n : ℕ) → n ≡ bits_a (size_in s) → n < i → Gives c (map_answer s c i) i (Err Refusal.NoPlace)
  tells_past n hn l = refused_here (λ g h. omega arith)

  pub tells_inside : (n : ℕ) (f : Found) → (i ≡ 0 → ⊥) → n ≡ bits_a (size_in s) → i ≤ n → Finds (word_in s) c (i - 1) f
      → Gives c (map_answer s c i) i (Ok f)
  tells_inside n f m hn l F =
      let e : map_answer s c i ≡ answer (found_reply f) = call_inside s S.opens c i (omega arith) (omega arith) ∙ ap answer (sym F.is) in
      rw e (record { means = refl; place = F.leads i; sort = F.sort; fits = F.fits })

-- ---- the entry of a turn
pub entry_signed : (t : Turn) → t.round ≡ true → t.place.0 + gone_round_bit ≡ entry_of (turn_reply t)
entry_signed t e = sym (pick_yes t.round (t.place.0 + gone_round_bit) t.place.0 e)

pub entry_fits_lem : (r : Reply) (x : ℕ) → x ≡ entry_of r → r.value < gone_round_bit → x < 65536
entry_fits_lem r x e h = rw e (go r.sign)
  where
    go : (t : Bool) → pick t (r.value + gone_round_bit) r.value < 65536
    go true = omega arith
    go false = omega arith

-- ---- what `found_at` returns
value_fits : (s : List ℕ) (c : Call) (p : ℕ) (r : Reply) → Position s p → r ≡ reply_in (word_in s) c p → r.value < gone_round_bit
unfolding value_of
value_fits s c p r P e =
    let m : p + 1 - 1 ≡ p = omega arith in
    let h : map_answer s c (p + 1) ≡ answer r
    = call_inside s P.opens c (p + 1) (omega arith) (omega (arith, P.below)) ∙ ap (λ q. answer (reply_in (word_in s) c q)) m ∙ ap answer (sym e) in
    rw h at (move_small s c (p + 1))

module _ (s : List ℕ) (p : ℕ) (P : Position s p) where
  found_of : (c : Call) (f : Found) → found_reply f ≡ reply_in (word_in s) c p → ((q : ℕ) → place_from f q ≡ place_after c (answer (found_reply f)) q)
      → Sorted c f → Finds (word_in s) c p f
  found_of c f e k o = record { is = e; leads = k; sort = o; fits = value_fits s c p (found_reply f) P e }

  module _ (k : code.Call) where
    pub found_cross : (r : ℕ) → k ≡ code.Call.Cross → r ≡ mate_in (word_in s) p → Finds (word_in s) (meant k) p (Found.To (record { 0 = r + 1 }))
    unfolding move_in sign_in
    found_cross r h e = rw h (found_of Call.cross (Found.To (record { 0 = r + 1 })) (ap unsigned (omega arith)) (λ q. refl) tt)

    pub found_turn : (r : Turn) → k ≡ code.Call.Turn → turn_reply r ≡ reply_in (word_in s) Call.turn p → Finds (word_in s) (meant k) p (Found.Turned r)
    found_turn r h e = rw h (found_of Call.turn (Found.Turned r) e (λ q. refl) tt)

    pub found_turn_back : (r : Turn) → k ≡ code.Call.TurnBack → turn_reply r ≡ reply_in (word_in s) Call.turn_back p
        → Finds (word_in s) (meant k) p (Found.Turned r)
    found_turn_back r h e = rw h (found_of Call.turn_back (Found.Turned r) e (λ q. refl) tt)

    pub found_along : (r : ℕ) → k ≡ code.Call.Along → r ≡ step (seen square (word_in s)) (bits_a (size_in s)) p
        → Finds (word_in s) (meant k) p (Found.To (record { 0 = r + 1 }))
    unfolding move_in sign_in word_in
    found_along r h e = rw h (found_of Call.along (Found.To (record { 0 = r + 1 })) (ap unsigned (omega arith)) (λ q. refl) tt)

    pub found_point : (r : Point) → k ≡ code.Call.Point → r.0 ≡ number (seen round (word_in s)) p → Finds (word_in s) (meant k) p (Found.About r)
    unfolding move_in sign_in
    found_point r h e = rw h (found_of Call.point (Found.About r) (ap unsigned e) (λ q. refl) tt)

    pub found_area : (r : Area) → k ≡ code.Call.Area → r.0 ≡ number (seen square (word_in s)) p → Finds (word_in s) (meant k) p (Found.On r)
    unfolding move_in sign_in
    found_area r h e = rw h (found_of Call.area (Found.On r) (ap unsigned e) (λ q. refl) tt)
