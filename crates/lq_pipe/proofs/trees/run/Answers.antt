use Rattle.std.proofs.Common.{refl}
use Rattle.lq_plan.specs.Worlds.{world_of}
use Rattle.lq_pipe.proofs.trees.run.Goals as goal

pub returns-clause-meant : goal.returns-clause-meant
returns-clause-meant g c = c.stream.ensures (world_of g.R.TableRow.table_of g.R.RowRef.shown g.S.Rows.left (g.H.Asks.known c.args.hosts.now) c.args.tables.now) _ refl c.value.ensures.meant

pub returns-clause-calls : goal.returns-clause-calls
returns-clause-calls g c = c.value.ensures.calls
