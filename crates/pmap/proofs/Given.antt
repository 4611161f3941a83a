-- Statuses and slots of the calls: a call passes on the answer a of the crates below, which is what the definition gives.
--
-- status_same, slot_same == equal answers have one status, and leave one slot
-- borders_same, points_same, borders_fit, points_fit == the same of opening, which has two slots
-- turn_place_same, gone_round_same == the same of a turn, which has two slots
-- left_status == the place left by a session, or its refusal, has the session's status
-- fits_all == every answer of a call with one slot fits it
-- Assumes nothing.
use mathlib.Core.Path.{◌≡◌, refl, ap, ◌∙◌}
use mathlib.Core.List.{List}
use Prim.Native.Nat.{ℕ, ◌<◌}
use borrow.Author.Rules.{rules}
use Rattle.answers.specs.Answer.{Answer, answer, refused_with, number_of, value_of, told, Reply, plain, gone_round}
use Rattle.answers.specs.declared.given.Size.{Size}
use Rattle.answers.specs.Lent.{leaves, itself}
use Rattle.drawing.specs.Session.{Outcome}
use Rattle.format.specs.Open.{open_of}
use Rattle.format.proofs.Small.{cross_fits, turn_fits, turn_back_fits, along_fits, point_fits, area_fits, first_fits, size_fits_lem, neighbours_fit, joining_fits}
use Rattle.giving.proofs.Room.{place_slot, point_slot, area_slot, number_slot}
use Rattle.pmap.proofs.Bounds.{open_small}

module _ {A : Type 0} where
  pub status_same : (r : ℕ) (a b : Answer A) → r ≡ number_of a → a ≡ b → r ≡ number_of b
  status_same r a b h e = h ∙ ap number_of e

  pub slot_same : (x old : A) (a b : Answer A) → x ≡ leaves itself a old → a ≡ b → x ≡ leaves itself b old
  slot_same x old a b h e = h ∙ ap (λ y. leaves itself y old) e

pub ruleset fits_all = (place_slot, point_slot, area_slot, number_slot, cross_fits, turn_fits, turn_back_fits, along_fits, point_fits, area_fits, first_fits, size_fits_lem, neighbours_fit, joining_fits, rules)

-- ---- opening
module _ (a b : Answer Size) (e : a ≡ b) where
  pub borders_same : (x old : ℕ) → x ≡ leaves itself (told (λ (z : Size). z.m) a) old → x ≡ leaves itself (told (λ (z : Size). z.m) b) old
  borders_same x old h = h ∙ ap (λ y. leaves itself (told (λ (z : Size). z.m) y) old) e

  pub points_same : (x old : ℕ) → x ≡ leaves itself (told (λ (z : Size). z.n) a) old → x ≡ leaves itself (told (λ (z : Size). z.n) b) old
  points_same x old h = h ∙ ap (λ y. leaves itself (told (λ (z : Size). z.n) y) old) e

module _ (s : List ℕ) (a : Answer Size) where
  pub borders_fit : a ≡ open_of s → value_of (told (λ (z : Size). z.m) a) < 65536
  borders_fit e = rw e (open_small s).0

  pub points_fit : a ≡ open_of s → value_of (told (λ (z : Size). z.n) a) < 65536
  points_fit e = rw e (open_small s).1

-- ---- a turn
module _ (x old : ℕ) (a b : Answer Reply) where
  pub turn_place_same : x ≡ leaves itself (plain a) old → a ≡ b → x ≡ leaves itself (plain b) old
  turn_place_same h e = h ∙ ap (λ y. leaves itself (plain y) old) e

  pub gone_round_same : x ≡ leaves itself (gone_round a) old → a ≡ b → x ≡ leaves itself (gone_round b) old
  gone_round_same h e = h ∙ ap (λ y. leaves itself (gone_round y) old) e

-- ---- a session
number_left : (o : Answer Outcome) → number_of (told (λ (o : Outcome). o.place) o) ≡ number_of o
unfolding number_of
number_left (answer x) = refl
number_left (refused_with k xs) = refl

pub left_status : (r : ℕ) (a : Answer ℕ) (o : Answer Outcome) → r ≡ number_of a → a ≡ told (λ (o : Outcome). o.place) o → r ≡ number_of o
left_status r a o h e = h ∙ ap number_of e ∙ number_left o
