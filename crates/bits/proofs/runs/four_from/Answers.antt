-- `bits::runs::four_from` meets its contract. Assumes nothing.
use mathlib.Core.Path.{refl, sym, ◌∙◌}
use native.Mathlib.Omega.{arith}
use lib.ListN.{get_or-eq_default}
use Rattle.bits.proofs.Fields.{four_field}
use Rattle.bits.proofs.runs.four_from.Goals as goal

pub returns-then-k-s : goal.returns-then-k-s
returns-then-k-s c =
    let r = c.from_le_bytes in
    (r.ensures ∙ four_field _ _ _ _ _ _ refl refl refl refl (λ i. (c.type_inv.s i).fits), r.type_inv)

pub returns : goal.returns
returns c =
    let r = c.from_le_bytes-2 in
    let past = sym (get_or-eq_default c.args.s.now 0 (omega arith)) in
    (r.ensures ∙ four_field _ _ _ _ _ _ c.byte_at.ensures c.byte_at-2.ensures c.byte_at-3.ensures past (λ i. (c.type_inv.s i).fits), r.type_inv)
