-- The first pull of a value gives the value, or its fault; it adds calls that the tree may make.
use Rattle.std.proofs.Common.{◌∙◌, Ok, ap}
use Rattle.lq_host.specs.Hosts.{hosts_of}
use Rattle.lq_pipeline.specs.Contexts.{hosts_in, sight_in}
use Rattle.lq_pipeline.specs.Pipes.{form_of_pipe, sight_of_pipe, state_in}
use Rattle.lq_pipeline.proofs.RunLemmas.{fault_is_meant, is_not_done, item_is_meant, pulled_adds}
use Rattle.lq_pipeline.proofs.runs.pulled_value.Goals as goal

pub returns-in-Ok-Item-clause-meant : goal.returns-in-Ok-Item-clause-meant
returns-in-Ok-Item-clause-meant g c =
    item_is_meant (sight_in c.args.context.now) (hosts_in c.args.context.now) c.args.tree.now c.requires.guarded c.requires.scalar (sight_of_pipe c.open-pipe.result)
    c.open-pipe.ensures.sight (form_of_pipe c.open-pipe.result) c.open-pipe.ensures.form
    (state_in (hosts_in c.args.context.now).predicates c.open-pipe.result (hosts_in c.args.context.now).calls)
    (state_in (hosts_in c.args.context.now).predicates c.next.new.self (hosts_of c.next.new.hosts).calls)
    (c.open-pipe.ensures.starts (hosts_in c.args.context.now).predicates) c.in-Ok-Item.value c.next.result
    (c.in-Ok-Item.is ∙ ap (λ s. Ok s) c.in-Ok-Item.field-0-is) c.next.ensures.pulls

pub returns-in-Ok-Item-clause-calls : goal.returns-in-Ok-Item-clause-calls
returns-in-Ok-Item-clause-calls g c =
    pulled_adds (sight_in c.args.context.now) (sight_of_pipe c.open-pipe.result) c.open-pipe.ensures.sight c.args.tree.now.tree.form (form_of_pipe c.open-pipe.result)
    c.open-pipe.ensures.form (hosts_in c.args.context.now).predicates
    (state_in (hosts_in c.args.context.now).predicates c.open-pipe.result (hosts_in c.args.context.now).calls) c.next.result
    (state_in (hosts_in c.args.context.now).predicates c.next.new.self (hosts_of c.next.new.hosts).calls)
    (c.open-pipe.ensures.starts (hosts_in c.args.context.now).predicates) c.next.ensures.pulls

pub returns-in-Ok-Fault-clause-meant : goal.returns-in-Ok-Fault-clause-meant
returns-in-Ok-Fault-clause-meant g c =
    fault_is_meant (sight_in c.args.context.now) (hosts_in c.args.context.now) c.args.tree.now c.requires.guarded c.requires.scalar (sight_of_pipe c.open-pipe.result)
    c.open-pipe.ensures.sight (form_of_pipe c.open-pipe.result) c.open-pipe.ensures.form
    (state_in (hosts_in c.args.context.now).predicates c.open-pipe.result (hosts_in c.args.context.now).calls)
    (state_in (hosts_in c.args.context.now).predicates c.next.new.self (hosts_of c.next.new.hosts).calls)
    (c.open-pipe.ensures.starts (hosts_in c.args.context.now).predicates) c.in-Ok-Fault.fault c.next.result
    (c.in-Ok-Fault.is ∙ ap (λ s. Ok s) c.in-Ok-Fault.field-0-is) c.next.ensures.pulls

pub returns-in-Ok-Fault-clause-calls : goal.returns-in-Ok-Fault-clause-calls
returns-in-Ok-Fault-clause-calls g c =
    pulled_adds (sight_in c.args.context.now) (sight_of_pipe c.open-pipe.result) c.open-pipe.ensures.sight c.args.tree.now.tree.form (form_of_pipe c.open-pipe.result)
    c.open-pipe.ensures.form (hosts_in c.args.context.now).predicates
    (state_in (hosts_in c.args.context.now).predicates c.open-pipe.result (hosts_in c.args.context.now).calls) c.next.result
    (state_in (hosts_in c.args.context.now).predicates c.next.new.self (hosts_of c.next.new.hosts).calls)
    (c.open-pipe.ensures.starts (hosts_in c.args.context.now).predicates) c.next.ensures.pulls

pub unreachable-requires : goal.unreachable-requires
unreachable-requires g c =
    is_not_done (sight_in c.args.context.now) (hosts_in c.args.context.now) c.args.tree.now c.requires.guarded c.requires.scalar (sight_of_pipe c.open-pipe.result)
    c.open-pipe.ensures.sight (form_of_pipe c.open-pipe.result) c.open-pipe.ensures.form
    (state_in (hosts_in c.args.context.now).predicates c.open-pipe.result (hosts_in c.args.context.now).calls)
    (state_in (hosts_in c.args.context.now).predicates c.next.new.self (hosts_of c.next.new.hosts).calls)
    (c.open-pipe.ensures.starts (hosts_in c.args.context.now).predicates) c.next.result
    (c.in-Ok-Done.is ∙ ap (λ s. Ok s) c.in-Ok-Done.field-0-is) c.next.ensures.pulls

pub returns-clause-calls : goal.returns-clause-calls
returns-clause-calls g c =
    pulled_adds (sight_in c.args.context.now) (sight_of_pipe c.open-pipe.result) c.open-pipe.ensures.sight c.args.tree.now.tree.form (form_of_pipe c.open-pipe.result)
    c.open-pipe.ensures.form (hosts_in c.args.context.now).predicates
    (state_in (hosts_in c.args.context.now).predicates c.open-pipe.result (hosts_in c.args.context.now).calls) c.next.result
    (state_in (hosts_in c.args.context.now).predicates c.next.new.self (hosts_of c.next.new.hosts).calls)
    (c.open-pipe.ensures.starts (hosts_in c.args.context.now).predicates) c.next.ensures.pulls
