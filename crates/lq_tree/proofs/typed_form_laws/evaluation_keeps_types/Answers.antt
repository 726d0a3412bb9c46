use Rattle.lq_tree.proofs.TypedMeanings.{keeps_items, keeps_shapes}
use Rattle.lq_tree.proofs.typed_form_laws.evaluation_keeps_types.Goals as goal

pub returns-clause-values : goal.returns-clause-values
returns-clause-values c start = keeps_shapes

pub returns-clause-items : goal.returns-clause-items
returns-clause-items c start = keeps_items
