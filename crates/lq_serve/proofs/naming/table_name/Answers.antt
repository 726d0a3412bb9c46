use Rattle.std.proofs.Common.{ap, ◌∙◌}
use Rattle.lq_serve.specs.Loading.{table_name, without_ending}
use Rattle.lq_serve.proofs.naming.table_name.Goals as goal

pub returns : goal.returns
unfolding table_name
returns c = c.without_ending.ensures ∙ ap without_ending c.without_folders.ensures
