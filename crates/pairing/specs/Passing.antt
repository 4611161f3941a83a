-- Passing one bracket: what is asked, what is done. A family is told by the bit x that A has for it.
--
-- Lists           == what the pass knows and has written. The open brackets of each family stand in `opened` as a stack, the innermost
--                    last; beside each, `labels` has the number that it opened, and 1 at the stack's bottom. At the bit of a family,
--                    `top` has where its stack ends, `number` the label there, which is the number of a position there, and `reached`
--                    how many numbers there are so far. And the mates
-- lists s ms      == the code's stacks, and the mates
-- bottom K w      == where the stack of a family begins: that of the round brackets after that of the square ones, which may all be
--                    open at once, and one entry that is never read
-- stack_room       == so many entries do for both stacks of every word
-- Ones l          == l has 1 at both bits
-- Begun w l       == so the lists are before the first position, with room for every word
-- above, partner  == the first entry beyond the stack of x; what stands at the entry that a bracket with the bit v ends up at, once p is
--                    put beyond the stack: p itself at an opening, the innermost open bracket at a closing
-- Passable        == the bracket at p can be passed
-- Passes          == what is done, by the bit v that tells an opening (0) from a closing (1)
-- Assumes nothing.
use Rattle.std.specs.Prelude.{◌≡◌, List, ℕ, ◌+◌, ◌-◌, ◌<◌, ◌≤◌, length, get_or, set}
use Rattle.words.specs.declared.family.Family.{Family}
use Rattle.words.specs.declared.family.Family.TheVariants.{Round as round, Square as square}
use Rattle.words.specs.Word.{Word}
use Rattle.pairing.specs.Paired.{most_letters, opened_in}
use Rattle.pairing.specs.declared.pass.Stacks.{Stacks}

pub record Lists : Type 0 where
  pub top : List ℕ
  pub number : List ℕ
  pub reached : List ℕ
  pub opened : List ℕ
  pub labels : List ℕ
  pub mates : List ℕ

abbrev pub lists : Stacks → List ℕ → Lists
lists s ms =
    record { top = s.top; number = s.number; reached = s.reached; opened = s.opened; labels = s.labels; mates = ms }

abbrev pub bottom : Family → Word → ℕ
bottom round w = opened_in square w + 2
bottom square w = 0

abbrev pub stack_room : ℕ
stack_room = 2052

pub record Ones (l : List ℕ) : Type 0 where
  pub long : 2 ≤ length l
  pub zero : get_or l 0 0 ≡ 1
  pub one : get_or l 1 0 ≡ 1

pub record Begun (w : Word) (l : Lists) : Type 0 where
  pub top_long : 2 ≤ length l.top
  pub top_square : get_or l.top 0 0 ≡ bottom square w
  pub top_round : get_or l.top 1 0 ≡ bottom round w
  pub number : Ones l.number
  pub reached : Ones l.reached
  pub opened_long : stack_room ≤ length l.opened
  pub labels_long : stack_room ≤ length l.labels
  pub labels : (i : ℕ) → i < stack_room → get_or l.labels i 0 ≡ 1
  pub mates_long : most_letters ≤ length l.mates

abbrev pub above : ℕ → Lists → ℕ
above x l = get_or l.top x 0 + 1

abbrev pub partner : ℕ → ℕ → ℕ → Lists → ℕ
partner x v p l = get_or (set l.opened (above x l) p) (above x l - v) 0

pub record Passable (x v p : ℕ) (l : Lists) : Type 0 where
  pub bit : x < 2
  pub opening : v < 2
  pub few : p < most_letters
  pub here : p < length l.mates
  pub more : get_or l.reached x 0 ≤ most_letters
  pub some : 1 ≤ get_or l.reached x 0
  pub pending : v ≤ get_or l.top x 0
  pub opened : above x l < length l.opened
  pub labelled : above x l < length l.labels
  pub paired : partner x v p l < length l.mates

pub record Passes (x v p : ℕ) (l r : Lists) : Type 0 where
  pub top : r.top ≡ set l.top x (above x l - v - v)
  pub number : r.number ≡ set l.number x (get_or r.labels (above x l - v - v) 0)
  pub reached : r.reached ≡ set l.reached x (get_or l.reached x 0 + 1 - v)
  pub opened : r.opened ≡ set l.opened (above x l) p
  pub labels : r.labels ≡ set l.labels (above x l) (get_or l.reached x 0 + 1)
  pub mates : r.mates ≡ set (set l.mates (partner x v p l) p) p (partner x v p l)
