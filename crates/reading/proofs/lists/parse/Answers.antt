-- `reading::lists::parse` meets its contract. Assumes nothing.
use borrow.Author.Rules.{rules}
use Rattle.text.specs.Input.{names}
use Rattle.reading.proofs.Whole.{parse_unnamed, parse_declined, parse_reads, parse_answers}
use Rattle.reading.proofs.lists.parse.Goals as goal

pub returns-in_default : goal.returns-in_default
unfolding names
returns-in_default c =
    let o = parse_unnamed c.args.text.now c.args.turning.now c.args.marks.now c.in_default.ensures.cases in
    record { result_value = o.0; turning_after = o.1.0; marks_after = o.1.1 }

pub returns-in_default-count_lines : goal.returns-in_default-count_lines
unfolding names
returns-in_default-count_lines c =
    let o =
    parse_declined c.args.text.now c.args.turning.now c.args.marks.now c.in-Some.lines.now c.in-Some.ensures.cases.0 c.in-Some.ensures.cases.1
    17 c.in_default-count_lines.ensures in
    record { result_value = o.0; turning_after = o.1.0; marks_after = o.1.1 }

pub write_lines-requires : goal.write_lines-requires
write_lines-requires c = (parse_reads c.in-Some.lines.now c.in-Some-count_lines.m c.in-Some-count_lines.ensures, search rules, search rules)

pub returns : goal.returns
unfolding names
returns c =
    let o =
    parse_answers c.args.text.now c.args.turning.now c.args.marks.now c.in-Some.lines.now c.in-Some.ensures.cases.0 c.in-Some.ensures.cases.1
    c.in-Some-count_lines.m c.write_lines.new.turning c.write_lines.new.marks c.in-Some-count_lines.ensures
    c.write_lines.ensures.turning_after c.write_lines.ensures.marks_after in
    record { result_value = o.0; turning_after = o.1.0; marks_after = o.1.1 }
