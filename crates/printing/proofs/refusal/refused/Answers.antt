-- `printing::refusal::refused` meets its contract. Assumes nothing.
use mathlib.Core.Path.{◌∙◌}
use borrow.Author.Rules.{rules}
use Rattle.text.specs.Decimal.{codes}
use Rattle.printing.proofs.Stands.{refused_stands}
use Rattle.printing.proofs.refusal.refused.Goals as goal

pub returns : goal.returns
unfolding codes
returns c =
    let t =
    refused_stands c.args.out.now c.new-page.result _ c.new-page.ensures.blank.0 c.new-page.ensures.blank.1 c.args.k _ (search rules) _ c.text.ensures c.number.ensures.0 in
    record { value = t.0; out_after = (search rules) ∙ t.1 }
