-- `scheduling::pages::put_pages` meets its contract. The loop keeps `Paging`: the pages of the first i areas are put. Assumes nothing.
use Rattle.scheduling.proofs.Paging.{Paging}
use Rattle.scheduling.proofs.pages.put_pages.Given as goal

abbrev pub invariant-loop-i : goal.invariant-loop-i
invariant-loop-i l = Paging l.map.bytes.now l.sides l.firsts l.initial.page l.i-end l.i l.sum l.page
