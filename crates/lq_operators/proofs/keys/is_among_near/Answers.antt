use Rattle.std.proofs.Common.{◌∙◌, sym}
use Rattle.lq_value.specs.SameAndOrder.{same_values}
use Rattle.lq_operators.proofs.KnownLemmas.{passes_one}
use Rattle.lq_operators.proofs.keys.is_among_near.Goals as goal

pub returns-then-is_other_same : goal.returns-then-is_other_same
returns-then-is_other_same g c =
    let here = c.if-is_other_same.true in
    here ∙ sym (passes_one (λ other. same_values other c.args.value.now) c.args.values.now c.args.place (sym c.is_other_same.ensures ∙ here))
