-- `packing::checks::finish` meets its contract. Assumes nothing.
use Rattle.packing.proofs.Charting.{chart_clean, chart_made, chart_charted, chart_kept, chart_kept_all, chart_legible, chart_sized}
use Rattle.packing.proofs.Later.{finish_pair, finish_none}
use Rattle.packing.proofs.checks.finish.Goals as goal

pub seconds-requires : goal.seconds-requires
seconds-requires c = chart_clean _ c.requires.0 _ c.requires.2 _ c.tour.ensures.tours c.tour.ensures.outside

pub find_crossing-requires : goal.find_crossing-requires
find_crossing-requires c = chart_charted _ c.requires.0 _ (chart_made _ c.requires.0 _ c.requires.2 _ c.tour.ensures.tours c.tour.ensures.outside _ c.seconds.ensures)

pub write_map-requires : goal.write_map-requires
write_map-requires c =
    let C = chart_kept _ c.requires.0 _ (chart_made _ c.requires.0 _ c.requires.2 _ c.tour.ensures.tours c.tour.ensures.outside _ c.seconds.ensures) _ c.find_crossing.ensures.zeroed in
    (chart_legible _ c.requires.0 _ C, chart_sized _ c.requires.0 _ C _ c.requires.1, c.requires.3)

pub returns-in-Some : goal.returns-in-Some
returns-in-Some c =
    record {
      packs_later = finish_pair _ c.requires.0 _ (chart_made _ c.requires.0 _ c.requires.2 _ c.tour.ensures.tours c.tour.ensures.outside _ c.seconds.ensures) _ c.find_crossing.ensures.result_value _ _ c.in-Some.is _;
      kept = chart_kept_all _ c.requires.0 _ c.requires.2 _ c.tour.ensures.tours c.tour.ensures.outside _ c.seconds.ensures _ c.find_crossing.ensures.zeroed;
    }

pub returns-in-None : goal.returns-in-None
returns-in-None c =
    let C = chart_made _ c.requires.0 _ c.requires.2 _ c.tour.ensures.tours c.tour.ensures.outside _ c.seconds.ensures in let D = chart_kept _ c.requires.0 _ C _ c.find_crossing.ensures.zeroed in
    record {
      packs_later = finish_none _ c.requires.0 _ C _ c.find_crossing.ensures.result_value c.in-None.is _ c.requires.1 _ D _ _ _ c.write_map.ensures.value c.write_map.ensures.out_after;
      kept = chart_kept_all _ c.requires.0 _ c.requires.2 _ c.tour.ensures.tours c.tour.ensures.outside _ c.seconds.ensures _ c.find_crossing.ensures.zeroed;
    }
