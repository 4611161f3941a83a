-- `calling::calls::found_at` meets its contract. Assumes nothing.
use Rattle.calling.proofs.Telling.{found_turn, found_turn_back, found_point, found_area}
use Rattle.calling.proofs.calls.found_at.Goals as goal

pub returns-in-Turn : goal.returns-in-Turn
returns-in-Turn c = search found_turn

pub returns-in-TurnBack : goal.returns-in-TurnBack
returns-in-TurnBack c = search found_turn_back

pub returns-in-Point : goal.returns-in-Point
returns-in-Point c = search found_point

pub returns-in-Area : goal.returns-in-Area
returns-in-Area c = search found_area
