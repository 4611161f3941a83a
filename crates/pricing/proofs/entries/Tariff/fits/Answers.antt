-- `pricing::entries::Tariff::fits` meets its contract. Assumes nothing.
use Rattle.std.proofs.Common.{eq-eqb, ne_eqb, refl, sym, ◌∙◌, rules, tests, arith}
use Rattle.std.proofs.lemmas.Iterator.{YieldsList-from_range}
use Rattle.std.proofs.lemmas.Iterator.Search.{all_from_yields_List}
use Rattle.count.proofs.Logic.{true_not_false}
use Rattle.pricing.specs.Lists.{entry_fits}
use Rattle.pricing.proofs.Laws.{all_below, lists_each}
use Rattle.pricing.proofs.entries.Tariff.fits.Goals.{then-self-areas, else-self-areas}
use Rattle.pricing.proofs.entries.Tariff.fits.Goals as goal

pub returns-then-self-areas-2 : goal.returns-then-self-areas-2
returns-then-self-areas-2 c =
    let fits = entry_fits c.args.self.now.kinds.now c.args.self.now.values.now in
    let v = c.args.areas in
    let each = all_from_yields_List fits _ _ _ c.all.ensures.ran (YieldsList-from_range 0 v v refl (omega arith)) (λ x b q k. search (rules, tests))
    ∙ all_below fits v in
    elim c.if-self-areas.branch [
      | then-self-areas w ↦ lists_each _ _ v _ (eq-eqb _ v w.if-self-areas.true) (sym w.value-is ∙ c.if-self-areas-2.true) each
      | else-self-areas w ↦ absurd (true_not_false _ (sym w.value-is ∙ c.if-self-areas-2.true) (ne_eqb _ v w.if-self-areas.false))
    ]
