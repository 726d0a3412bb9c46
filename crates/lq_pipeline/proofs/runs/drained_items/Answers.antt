-- A drain gives the items of the sequence, all of which are kept unless one was refused; its pulls add calls that the tree may make.
use Rattle.lq_pull.specs.Views.{world_seen}
use Rattle.lq_host.specs.Hosts.{hosts_of}
use Rattle.lq_pipeline.specs.Contexts.{hosts_in, sight_in}
use Rattle.lq_pipeline.specs.Keeping.{Keeps}
use Rattle.lq_pipeline.specs.Pipes.{form_of_pipe, sight_of_pipe, state_in}
use Rattle.lq_pipeline.specs.Places.{start_of}
use Rattle.lq_pipeline.proofs.RunLemmas.{drained_adds, kept_is_meant}
use Rattle.lq_pipeline.proofs.runs.drained_items.Goals as goal

pub returns-in_err-end-clause-calls : goal.returns-in_err-end-clause-calls
returns-in_err-end-clause-calls g c =
    drained_adds (sight_in c.args.context.now) (sight_of_pipe c.open-pipe.result) c.open-pipe.ensures.sight c.args.tree.now.tree.form (form_of_pipe c.open-pipe.result)
    c.open-pipe.ensures.form (hosts_in c.args.context.now).predicates Keeps
    (state_in (hosts_in c.args.context.now).predicates c.open-pipe.result (hosts_in c.args.context.now).calls) _ c.drain.result
    (state_in (hosts_in c.args.context.now).predicates c.drain.new.pipe (hosts_of c.drain.new.hosts).calls) c.drain.new.sink
    (c.open-pipe.ensures.starts (hosts_in c.args.context.now).predicates) c.drain.ensures.drains

pub returns-then-keeper-clause-calls : goal.returns-then-keeper-clause-calls
returns-then-keeper-clause-calls g c =
    drained_adds (sight_in c.args.context.now) (sight_of_pipe c.open-pipe.result) c.open-pipe.ensures.sight c.args.tree.now.tree.form (form_of_pipe c.open-pipe.result)
    c.open-pipe.ensures.form (hosts_in c.args.context.now).predicates Keeps
    (state_in (hosts_in c.args.context.now).predicates c.open-pipe.result (hosts_in c.args.context.now).calls) _ c.drain.result
    (state_in (hosts_in c.args.context.now).predicates c.drain.new.pipe (hosts_of c.drain.new.hosts).calls) c.drain.new.sink
    (c.open-pipe.ensures.starts (hosts_in c.args.context.now).predicates) c.drain.ensures.drains

pub returns-clause-meant : goal.returns-clause-meant
returns-clause-meant g c =
    kept_is_meant (sight_in c.args.context.now) (hosts_in c.args.context.now) c.args.tree.now c.requires.guarded c.requires.sequence c.in_ok-end.end _
    c.drain.new.sink c.new.ensures c.if-keeper.false
    (c.in_ok-end.ensures.gives (start_of (world_seen (sight_in c.args.context.now) (hosts_in c.args.context.now).predicates) c.args.tree.now.tree.form)
    (c.open-pipe.ensures.starts (hosts_in c.args.context.now).predicates))

pub returns-clause-calls : goal.returns-clause-calls
returns-clause-calls g c =
    drained_adds (sight_in c.args.context.now) (sight_of_pipe c.open-pipe.result) c.open-pipe.ensures.sight c.args.tree.now.tree.form (form_of_pipe c.open-pipe.result)
    c.open-pipe.ensures.form (hosts_in c.args.context.now).predicates Keeps
    (state_in (hosts_in c.args.context.now).predicates c.open-pipe.result (hosts_in c.args.context.now).calls) _ c.drain.result
    (state_in (hosts_in c.args.context.now).predicates c.drain.new.pipe (hosts_of c.drain.new.hosts).calls) c.drain.new.sink
    (c.open-pipe.ensures.starts (hosts_in c.args.context.now).predicates) c.drain.ensures.drains
