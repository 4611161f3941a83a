use Rattle.answers.specs.Answer.{number_of}
use Rattle.pmap.proofs.desk.pmap_marks.Goals as goal

-- src/desk.rt:13:1
pub returns-in-Err : goal.returns-in-Err
unfolding number_of
returns-in-Err c = λ s. rw c.from.ensures (c.in-Err.ensures s)
