use Rattle.lq_render.proofs.ColumnLemmas.{begins_with_names, counts_all_items, has_each_cell}
use Rattle.lq_render.proofs.table_laws.no_cell_is_lost.Goals as goal

pub returns-clause-cells : goal.returns-clause-cells
returns-clause-cells c = has_each_cell

pub returns-clause-order : goal.returns-clause-order
returns-clause-order c = begins_with_names

pub returns-clause-counted : goal.returns-clause-counted
returns-clause-counted c = counts_all_items
