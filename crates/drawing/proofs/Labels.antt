-- The labels of checks 5 and 21, over a set S of borders: at each border of S the labels of its two ends are made one. Two ends
-- have one label at the last exactly if turns and borders of S lead from one to the other.
--
-- label D S e h       == the label of end h after the first e borders
-- label_start         == at first it is the point of h
-- label_in, label_out == what a border of S does to a label, and another
-- label_keeps         == labels that are one stay one
-- label_at, label_off, label_same == what a border of S does to a label, by whether it is that of the first end
-- label_crosses       == after a border of S its two ends have one label
-- label_turn          == an end and its entry always have one label
-- cycle_linked        == ends of one point are linked
-- label_linked, linked_label == ends with one label are linked; linked ends have one label at the last
-- linked_within       == what a set links, a larger set links, in any drawing with the same turning list
-- joins_from          == where all ends are linked to end 0, all are linked to all
-- joins_decides       == `joins` decides that the borders of S join all points
-- joined_decides, connected_decides == so of the marked borders, and of all
-- joins_unread        == neither what the marks are nor the start plays a part in it
-- Assumes nothing.
use mathlib.Core.Path.{◌≡◌, refl, sym, ap, ◌∙◌, subst}
use mathlib.Core.Logic.{◌≢◌, inl, inr}
use mathlib.Core.Bool.{Bool, true, false}
use mathlib.Core.List.{List, [], ◌∷◌}
use Prim.Native.Nat.{ℕ, zero, suc, ◌+◌, ◌-◌, ◌*◌, ◌/◌, ◌≤◌, ◌<◌}
use native.Mathlib.Numerals.{add-one}
use native.Mathlib.Omega.{arith}
use lib.ListN.{length, get_or, length-map}
use lib.Dec.{eqb}
use borrow.Author.Tests.{eq-eqb, ne_eqb}
use Rattle.count.specs.Below.{Decides, pick, table}
use Rattle.count.proofs.Logic.{same_or_not, true_or_false, pick_yes, pick_no}
use Rattle.count.proofs.Lists.{table_length, table_get_d}
use Rattle.count.proofs.Decides.{decides_eq, decides_all, decides_as}
use Rattle.answers.specs.Answer.{Kind}
use Rattle.orbits.specs.Cycles.{Permutes, SameCycle, low}
use Rattle.orbits.proofs.Same.{same_cycle_induct}
use Rattle.orbits.proofs.Low.{low_same_cycle, low_step}
use Rattle.drawing.specs.Drawing.{Drawing, borders, ends, border, other, turn, is_marked, every_border, around, walk, over, cell_of, lent}
use Rattle.drawing.specs.Checks.{Linked, here, turned, across, Joins, Joined, Connected, labels, relabel, merge_at, all_same, joins, joined, connected}
use Rattle.drawing.proofs.Ends.{other_even, other_odd, other_border, other_below, border_below}

unfoldable pub label : Drawing → (ℕ → Bool) → ℕ → ℕ → ℕ
label D S e h = get_or (labels D S e) h 0

merge_length : (t : Bool) (e : ℕ) (ls : List ℕ) → length (merge_at t e ls) ≡ length ls
merge_length true e ls = length-map ls (λ l. pick (eqb l (get_or ls (2 * e) 0)) (get_or ls (suc (2 * e)) 0) l)
merge_length false e ls = refl

labels_length : (D : Drawing) (S : ℕ → Bool) (e : ℕ) → length (labels D S e) ≡ ends D
unfolding labels
labels_length D S zero = table_length (cell_of D Kind.point) (ends D)
labels_length D S (suc e) = merge_length (S e) e (labels D S e) ∙ labels_length D S e

-- an entry of a list in which a became b
relabel_at : (a b : ℕ) (ls : List ℕ) (i : ℕ) → i < length ls → get_or (relabel a b ls) i 0 ≡ pick (eqb (get_or ls i 0) a) b (get_or ls i 0)
relabel_at a b [] i l = absurd (omega arith)
relabel_at a b (x ∷ ls) zero l = refl
relabel_at a b (x ∷ ls) (suc i) l = relabel_at a b ls i (omega arith)

pub label_start : (D : Drawing) (S : ℕ → Bool) (h : ℕ) → h < ends D → label D S 0 h ≡ low (ends D) (turn D) h
unfolding label labels cell_of around walk over
label_start D S h b = table_get_d (cell_of D Kind.point) (ends D) h 0 b

pub label_out : (D : Drawing) (S : ℕ → Bool) (e h : ℕ) → S e ≡ false → label D S (e + 1) h ≡ label D S e h
unfolding label labels
label_out D S e h f = rw (add-one e) (ap (λ t. get_or (merge_at t e (labels D S e)) h 0) f)

-- what a border e of S makes of the label l of an end, where its ends have labels a and b
abbrev merged : ℕ → ℕ → ℕ → ℕ
merged a b l = pick (eqb l a) b l

pub label_in : (D : Drawing) (S : ℕ → Bool) (e h : ℕ) → S e ≡ true → h < ends D
    → label D S (e + 1) h ≡ merged (label D S e (2 * e)) (label D S e (2 * e + 1)) (label D S e h)
unfolding label labels
label_in D S e h t b =
    rw (add-one e, add-one (2 * e))
    (ap (λ u. get_or (merge_at u e (labels D S e)) h 0) t
    ∙ relabel_at (get_or (labels D S e) (2 * e) 0) (get_or (labels D S e) (suc (2 * e)) 0) (labels D S e) h (rw (labels_length D S e) b))

module _ (D : Drawing) (S : ℕ → Bool) where
  -- labels that are one stay one at the next border
  label_keeps_step : (e g h : ℕ) → g < ends D → h < ends D → label D S e g ≡ label D S e h → label D S (e + 1) g ≡ label D S (e + 1) h
  label_keeps_step e g h bg bh s =
      elim (true_or_false (S e)) [
        | inl t ↦
            label_in D S e g t bg
            ∙ ap (merged (label D S e (2 * e)) (label D S e (2 * e + 1))) s
            ∙ sym (label_in D S e h t bh)
        | inr f ↦ label_out D S e g f ∙ s ∙ sym (label_out D S e h f)
      ]

  pub label_keeps : (e k g h : ℕ) → g < ends D → h < ends D → label D S e g ≡ label D S e h → label D S (e + k) g ≡ label D S (e + k) h
  label_keeps e zero g h bg bh s = let z : e + 0 ≡ e = omega arith in rw z s
  label_keeps e (suc k) g h bg bh s =
      let z : e + suc k ≡ e + k + 1 = omega arith in
      rw z (label_keeps_step (e + k) g h bg bh (label_keeps e k g h bg bh s))

  -- a border of S gives the label of its second end to all that have the label of its first
  module _ (e : ℕ) (inside : S e ≡ true) where
    pub label_at : (h : ℕ) → h < ends D → label D S e h ≡ label D S e (2 * e) → label D S (e + 1) h ≡ label D S e (2 * e + 1)
    label_at h b q =
        label_in D S e h inside b
        ∙ pick_yes (eqb (label D S e h) (label D S e (2 * e))) (label D S e (2 * e + 1)) (label D S e h) (eq-eqb (label D S e h) (label D S e (2 * e)) q)

    pub label_off : (h : ℕ) → h < ends D → label D S e h ≢ label D S e (2 * e) → label D S (e + 1) h ≡ label D S e h
    label_off h b d =
        label_in D S e h inside b
        ∙ pick_no (eqb (label D S e h) (label D S e (2 * e))) (label D S e (2 * e + 1)) (label D S e h) (ne_eqb (label D S e h) (label D S e (2 * e)) d)

    pub label_same : label D S e (2 * e) ≡ label D S e (2 * e + 1) → (h : ℕ) → h < ends D → label D S (e + 1) h ≡ label D S e h
    label_same s h b =
        elim (same_or_not (label D S e h) (label D S e (2 * e))) [ inl q ↦ label_at h b q ∙ sym s ∙ sym q | inr d ↦ label_off h b d ]

    -- both its ends have the second one's
    label_joined : (h : ℕ) → h < ends D → border h ≡ e → label D S (e + 1) h ≡ label D S e (2 * e + 1)
    unfolding border
    label_joined h b at =
        elim (same_or_not (label D S e h) (label D S e (2 * e))) [
          | inl q ↦ label_at h b q
          | inr d ↦
              let n : h ≢ 2 * e = λ q. d (ap (label D S e) q) in
              let o : h ≡ 2 * e + 1 = omega arith in
              label_off h b d ∙ ap (label D S e) o
        ]

  pub label_crosses : (e h : ℕ) → h < ends D → border h < e → S (border h) ≡ true → label D S e (other h) ≡ label D S e h
  unfolding ends
  label_crosses e h b l t =
      let bo : other h < ends D = other_below (borders D) h b in
      let z : border h + 1 + (e - (border h + 1)) ≡ e = omega arith in
      rw z at (label_keeps (border h + 1) (e - (border h + 1)) (other h) h bo b
      (label_joined (border h) t (other h) bo (other_border h) ∙ sym (label_joined (border h) t h b refl)))

  module _ (p : Permutes (ends D) (turn D)) where
    pub label_turn : (e h : ℕ) → h < ends D → label D S e (turn D h) ≡ label D S e h
    label_turn e h b =
        let start : label D S 0 (turn D h) ≡ label D S 0 h =
        label_start D S (turn D h) (p.below h b) ∙ low_step p h b ∙ sym (label_start D S h b) in
        let z : 0 + e ≡ e = omega arith in
        rw z at (label_keeps 0 e (turn D h) h (p.below h b) b start)

    pub linked_below : (g h : ℕ) → g < ends D → Linked D S g h → h < ends D
    unfolding ends
    linked_below g h b here = b
    linked_below g h b (turned x l) = p.below x (linked_below g x b l)
    linked_below g h b (across x t l) = other_below (borders D) x (linked_below g x b l)

    pub linked_label : (g h : ℕ) → g < ends D → Linked D S g h → label D S (borders D) g ≡ label D S (borders D) h
    unfolding ends
    linked_label g h b here = refl
    linked_label g h b (turned x l) = linked_label g x b l ∙ sym (label_turn (borders D) x (linked_below g x b l))
    linked_label g h b (across x t l) = linked_label g x b l ∙ sym (label_crosses (borders D) x (linked_below g x b l) (border_below (borders D) x (linked_below g x b l)) t)

    pub linked_trans : (f g h : ℕ) → Linked D S f g → Linked D S g h → Linked D S f h
    linked_trans f g h l here = l
    linked_trans f g h l (turned x k) = turned x (linked_trans f g x l k)
    linked_trans f g h l (across x t k) = across x t (linked_trans f g x l k)

    pub cycle_linked : (g h : ℕ) → g < ends D → SameCycle (turn D) g h → Linked D S g h
    cycle_linked g h b s = same_cycle_induct p (λ x. Linked D S g x) g h (λ x bx l. turned x l) b here s

    -- from either end of a border of S to the other
    across_even : (e : ℕ) → S e ≡ true → Linked D S (2 * e) (2 * e + 1)
    unfolding border
    across_even e t =
        let q : 2 * e / 2 ≡ e = omega arith in
        let l : Linked D S (2 * e) (other (2 * e)) = across (2 * e) (ap S q ∙ t) here in
        rw (other_even e) at l

    across_odd : (e : ℕ) → S e ≡ true → Linked D S (2 * e + 1) (2 * e)
    unfolding border
    across_odd e t =
        let q : (2 * e + 1) / 2 ≡ e = omega arith in
        let l : Linked D S (2 * e + 1) (other (2 * e + 1)) = across (2 * e + 1) (ap S q ∙ t) here in
        rw (other_odd e) at l

    -- one border of S more: the labels were one already, or they were those of the border's two ends
    merge_linked : (e : ℕ) → e < borders D → S e ≡ true
        → ((g h : ℕ) → g < ends D → h < ends D → label D S e g ≡ label D S e h → Linked D S g h)
        → (g h : ℕ) → g < ends D → h < ends D → label D S (e + 1) g ≡ label D S (e + 1) h → Linked D S g h
    unfolding ends
    merge_linked e l t before g h bg bh s =
        let a : ℕ = label D S e (2 * e) in
        let b : ℕ = label D S e (2 * e + 1) in
        let ba : 2 * e < ends D = omega arith in
        let bb : 2 * e + 1 < ends D = omega arith in
        let x : ℕ = label D S e g in
        let y : ℕ = label D S e h in
        let m : merged a b x ≡ merged a b y = sym (label_in D S e g t bg) ∙ s ∙ label_in D S e h t bh in
        elim (same_or_not x a) [
          | inl xa ↦
              elim (same_or_not y a) [
                | inl ya ↦ before g h bg bh (xa ∙ sym ya)
                | inr ny ↦
                    let by : b ≡ y = sym (pick_yes (eqb x a) b x (eq-eqb x a xa)) ∙ m ∙ pick_no (eqb y a) b y (ne_eqb y a ny) in
                    linked_trans g (2 * e) h (before g (2 * e) bg ba xa)
                    (linked_trans (2 * e) (2 * e + 1) h (across_even e t) (before (2 * e + 1) h bb bh by))
              ]
          | inr nx ↦
              let mx : x ≡ merged a b y = sym (pick_no (eqb x a) b x (ne_eqb x a nx)) ∙ m in
              elim (same_or_not y a) [
                | inl ya ↦
                    let xb : x ≡ b = mx ∙ pick_yes (eqb y a) b y (eq-eqb y a ya) in
                    linked_trans g (2 * e + 1) h (before g (2 * e + 1) bg bb xb)
                    (linked_trans (2 * e + 1) (2 * e) h (across_odd e t) (before (2 * e) h ba bh (sym ya)))
                | inr ny ↦ before g h bg bh (mx ∙ pick_no (eqb y a) b y (ne_eqb y a ny))
              ]
        ]

    pub label_linked : (e : ℕ) → e ≤ borders D → (g h : ℕ) → g < ends D → h < ends D → label D S e g ≡ label D S e h → Linked D S g h
    label_linked zero l g h bg bh s =
        cycle_linked g h bg (low_same_cycle p g h bg bh (sym (label_start D S g bg) ∙ s ∙ label_start D S h bh))
    label_linked (suc e) l g h bg bh s =
        let before : (g h : ℕ) → g < ends D → h < ends D → label D S e g ≡ label D S e h → Linked D S g h =
        label_linked e (omega arith) in
        let s' : label D S (e + 1) g ≡ label D S (e + 1) h = rw (add-one e) s in
        elim (true_or_false (S e)) [
          | inl t ↦ merge_linked e (omega arith) t before g h bg bh s'
          | inr f ↦ before g h bg bh (sym (label_out D S e g f) ∙ s' ∙ label_out D S e h f)
        ]

-- a list whose entries all equal the first
all_same_decides : (ls : List ℕ) → Decides (all_same ls) ((i j : ℕ) → i < length ls → j < length ls → get_or ls i 0 ≡ get_or ls j 0)
all_same_decides [] = record { sound = λ e i j l. absurd (omega arith); complete = λ f. refl }
all_same_decides (x ∷ ls) =
    let first : Decides (all_same (x ∷ ls)) ((i : ℕ) → i < length ls → get_or ls i 0 ≡ x) =
    decides_all (λ i. eqb (get_or ls i 0) x) (λ i. get_or ls i 0 ≡ x) (length ls) (λ i l. decides_eq (get_or ls i 0) x) in
    decides_as
    (λ f i j li lj. to_first f i li ∙ sym (to_first f j lj))
    (λ f i l. f (suc i) 0 (omega arith) (omega arith))
    first
  where
    to_first : ((i : ℕ) → i < length ls → get_or ls i 0 ≡ x) → (i : ℕ) → i < suc (length ls) → get_or (x ∷ ls) i 0 ≡ x
    to_first f zero l = refl
    to_first f (suc i) l = f i (omega arith)

-- a larger set, and another drawing with the same turning list
module _ (D E : Drawing) (S T : ℕ → Bool) (p : Permutes (ends D) (turn D)) where
  pub linked_within : D.turning ≡ E.turning → ((e : ℕ) → e < borders D → S e ≡ true → T e ≡ true)
      → (g h : ℕ) → g < ends D → Linked D S g h → Linked E T g h
  unfolding ends turn
  linked_within same f g h b here = here
  linked_within same f g h b (turned x l) =
      subst (Linked E T g) (ap (λ ts. get_or ts x 0) (sym same)) (turned x (linked_within same f g x b l))
  linked_within same f g h b (across x t l) =
      across x (f (border x) (border_below (borders D) x (linked_below D S p g x b l)) t) (linked_within same f g x b l)

module _ (D : Drawing) (S : ℕ → Bool) (p : Permutes (ends D) (turn D)) where
  pub joins_from : ((x : ℕ) → x < ends D → Linked D S 0 x) → Joins D S
  joins_from f =
      record {
        link = λ g h bg bh.
            let b : 0 < ends D = omega arith in
            label_linked D S p (borders D) (omega arith) g h bg bh
            (sym (linked_label D S p 0 g b (f g bg)) ∙ linked_label D S p 0 h b (f h bh));
      }

  pub joins_decides : Decides (joins D S) (Joins D S)
  unfolding joins label
  joins_decides =
      let n : length (labels D S (borders D)) ≡ ends D = labels_length D S (borders D) in
      decides_as
      (λ f. record { link = λ g h bg bh. label_linked D S p (borders D) (omega arith) g h bg bh (f g h (rw n bg) (rw n bh)) })
      (λ j g h bg bh. let b : g < ends D = rw n at bg in linked_label D S p g h b (j.link g h b (rw n at bh)))
      (all_same_decides (labels D S (borders D)))

pub joined_decides : (D : Drawing) → Permutes (ends D) (turn D) → Decides (joined D) (Joined D)
unfolding joined
joined_decides D p = joins_decides D (is_marked D) p

pub connected_decides : (D : Drawing) → Permutes (ends D) (turn D) → Decides (connected D) (Connected D)
unfolding connected
connected_decides D p = joins_decides D every_border p

-- ---- what is not read
module _ (ts ms ns : List ℕ) (s t : ℕ) (same : length ms ≡ length ns) (S : ℕ → Bool) where
  labels_unread : (e : ℕ) → labels (lent ts ms s) S e ≡ labels (lent ts ns t) S e
  unfolding labels cell_of around walk over turn ends borders
  labels_unread zero = ap (λ m. table (low (2 * m) (λ h. get_or ts h 0)) (2 * m)) same
  labels_unread (suc e) = ap (merge_at (S e) e) (labels_unread e)

  pub joins_unread : joins (lent ts ms s) S ≡ joins (lent ts ns t) S
  unfolding joins borders
  joins_unread = ap (λ m. all_same (labels (lent ts ms s) S m)) same ∙ ap all_same (labels_unread (length ns))
