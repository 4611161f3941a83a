-- `surveying::pass::survey` meets its contract. Assumes nothing.
use Rattle.surveying.proofs.Standing.{areas_some, standing_asked, standing_opened, mates_pass, numbers_pass, mates_held, numbers_held}
use Rattle.surveying.proofs.pass.survey.Goals as goal

pub overflow_sub-areas : goal.overflow_sub-areas
overflow_sub-areas c = search areas_some

pub pair-requires : goal.pair-requires
pair-requires c = (search standing_asked, search standing_opened)

pub returns : goal.returns
returns c =
    record {
      mates_after = search mates_pass;
      areas_after = search numbers_pass;
      points_after = search numbers_pass;
      mates = search mates_held;
      numbers = (search numbers_held, search numbers_held);
    }
