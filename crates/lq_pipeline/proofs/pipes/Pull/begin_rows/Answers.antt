-- Over the tables that are scanned.
use Rattle.std.proofs.Common.{◌∙◌, List, ap}
use Rattle.lq_guard.specs.SeenRows.{cells_of, table_of}
use Rattle.lq_plan.specs.Plans.{world}
use Rattle.lq_plan.specs.Worlds.{world_of}
use Rattle.lq_plan.specs.declared.tables.TableRows.{TableRows}
use Rattle.lq_pull.specs.Readers.{rows_left}
use Rattle.lq_pull.specs.declared.readers.Reader.{Reader}
use Rattle.lq_pipeline.proofs.WorkLemmas.{first_pulls, lost_begun, no_leaf, none_first}
use Rattle.lq_pipeline.proofs.pipes.Pull.begin_rows.Goals as goal

pub returns-in-Ok-clause-pulls : goal.returns-in-Ok-clause-pulls
returns-in-Ok-clause-pulls g c =
    first_pulls _ _ c.args.straight.now.head c.args.straight.now.chain.now c.args.straight.now.table c.requires.head c.requires.leaf (world c.new-sources.result)
    (c.new-sources.ensures ∙ ap (λ (ts : List (TableRows Reader)). world_of table_of cells_of rows_left (g.H.Asks.known c.args.hosts.now) ts) c.as_slice.ensures.value ∙ c.in-Ok.ensures.world (g.H.Asks.known c.args.hosts.now)) _ _ _ _ (c.first.ensures.pulled _ c.requires.head)

pub returns-in-Ok-clause-begun : goal.returns-in-Ok-clause-begun
returns-in-Ok-clause-begun g c = c.first.ensures.begun _ c.requires.head

pub returns-in-Err-clause-pulls : goal.returns-in-Err-clause-pulls
returns-in-Err-clause-pulls g c = none_first _ _ _ _ _ c.requires.lost c.requires.none

pub returns-in-Err-clause-begun : goal.returns-in-Err-clause-begun
returns-in-Err-clause-begun g c = lost_begun _ _ c.requires.lost (no_leaf _ c.requires.none)
