use Rattle.std.proofs.Common.{sym, ◌∙◌}
use Rattle.lq_plan.proofs.WatchLaws.{cells_there}
use Rattle.lq_plan.proofs.sources.Sources.arguments.Goals as goal

pub returns-then-table-clause-cells : goal.returns-then-table-clause-cells
returns-then-table-clause-cells g c =
    cells_there g.R.TableRow.table_of g.R.RowRef.shown g.S.Rows.left (g.H.Asks.known c.args.self.now.hosts.now) c.args.self.now.tables.now c.args.self.now.distinct c.args.table c.args.columns c.args.row.now
    c.own_arguments.result (sym c.table.ensures ∙ c.if-table.true) c.own_arguments.ensures
