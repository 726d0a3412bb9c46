-- The watch of a tree's own host predicates covers it.
use Rattle.std.proofs.Common.{ap, subst, ◌∙◌}
use Rattle.lq_operators.specs.Answers.{IsAnswer}
use Rattle.lq_tree.specs.AllowedCalls.{watch_of}
use Rattle.lq_tree.specs.Watches.{is_covered}
use Rattle.lq_tree.proofs.LogLaws.{grown_none}
use Rattle.lq_tree.proofs.OwnWatchLaws.{covered_by_own}
use Rattle.lq_plan.specs.Watching.{facts_of}
use Rattle.lq_plan.specs.Worlds.{world_of}
use Rattle.lq_pipe.proofs.trees.value.Goals as goal

pub returns-clause-calls : goal.returns-clause-calls
returns-clause-calls g c =
    let f = c.args.tree.now.form in
    let facts = facts_of g.R.TableRow.table_of g.R.TableRow.number_of g.R.RowRef.shown in
    let known = world_of g.R.TableRow.table_of g.R.RowRef.shown g.S.Rows.left (g.H.Asks.known c.args.hosts.now) c.args.tables.now in
    λ seen tables rows.
    c.form_value.ensures.calls (watch_of seen f) c.args.log.now
    (ap (is_covered known (watch_of seen f)) c.get.ensures ∙ covered_by_own known seen f tables)
    (grown_none known facts (watch_of seen f) c.args.log.now)
