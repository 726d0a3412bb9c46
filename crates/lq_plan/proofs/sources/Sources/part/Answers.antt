use Rattle.std.proofs.Common.{◌≡◌, Ok, ap, subst, sym, true, ◌∙◌}
use Rattle.lq_language.specs.OperandMeaning.{truth_value}
use Rattle.lq_plan.specs.Parts.{part_of}
use Rattle.lq_plan.specs.Plans.{world}
use Rattle.lq_plan.specs.Watching.{covers_part}
use Rattle.lq_plan.proofs.sources.Sources.part.Goals as goal

pub returns-in-IsNull-clause-meant : goal.returns-in-IsNull-clause-meant
returns-in-IsNull-clause-meant g c =
    let w = world c.args.self.now in
    subst (λ p. part_of w p c.args.value.now ≡ Ok c.truth.result) (sym c.in-IsNull.is)
    (ap (λ b. Ok (truth_value b)) (sym (c.is_null_as.ensures w)) ∙ ap Ok (sym c.truth.ensures))

pub returns-in-Host-clause-grows : goal.returns-in-Host-clause-grows
returns-in-Host-clause-grows g c =
    λ w start h i gr. c.host.ensures.grows w start i (subst (λ p. covers_part w p ≡ true) c.in-Host.is h) gr
