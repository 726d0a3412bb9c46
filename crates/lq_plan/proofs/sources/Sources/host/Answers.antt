use Rattle.lq_tree.proofs.WatchedValueLaws.{row_passes}
use Rattle.lq_plan.proofs.sources.Sources.host.Goals as goal

pub returns-in-Row-clause-grows : goal.returns-in-Row-clause-grows
returns-in-Row-clause-grows g c = λ w start i h gr. c.ask_row.ensures.grows w start (row_passes w _ _ c.in-Row.is i) h gr
