use Rattle.std.proofs.Common.{◌∙◌, ap, map}
use Rattle.std.proofs.lemmas.Result.{IfOk-weaker}
use Rattle.lq_language.specs.ClauseMeaning.{as_group}
use Rattle.lq_operators.proofs.groups.group_pairs.Goals as goal

pub returns : goal.returns
returns g c = IfOk-weaker c.into_groups.result _ _ (λ made is. is ∙ ap (map as_group) c.in_ok-grouping.ensures) c.into_groups.ensures
