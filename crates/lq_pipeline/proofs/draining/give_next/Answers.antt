-- By what the pull answers.
use Rattle.std.proofs.Common.{◌∙◌, Ok, ap}
use Rattle.lq_pipeline.specs.Pipes.{state_in}
use Rattle.lq_pipeline.proofs.DrainLemmas.{gives_done, gives_fault, gives_item, gives_last, gives_none}
use Rattle.lq_pipeline.proofs.draining.give_next.Goals as goal

pub returns-in-Go-clause-gives : goal.returns-in-Go-clause-gives
returns-in-Go-clause-gives g c =
    gives_item _ _ g.K.Sink.takes (state_in (g.H.HostPredicates.hosts c.args.hosts.now).predicates c.args.pipe.now (g.H.HostPredicates.hosts c.args.hosts.now).calls) (state_in (g.H.HostPredicates.hosts c.args.hosts.now).predicates c.next.new.self (g.H.HostPredicates.hosts c.next.new.hosts).calls) c.next.result c.in-Ok-Item.item c.args.sink.now c.take.new.self c.take.result (c.in-Ok-Item.is ∙ ap (λ s. Ok s) c.in-Ok-Item.field-0-is) c.next.ensures.pulls c.take.ensures c.in-Go.is

pub returns-in-Stop-clause-gives : goal.returns-in-Stop-clause-gives
returns-in-Stop-clause-gives g c =
    gives_last _ _ g.K.Sink.takes (state_in (g.H.HostPredicates.hosts c.args.hosts.now).predicates c.args.pipe.now (g.H.HostPredicates.hosts c.args.hosts.now).calls) (state_in (g.H.HostPredicates.hosts c.args.hosts.now).predicates c.next.new.self (g.H.HostPredicates.hosts c.next.new.hosts).calls) c.next.result c.in-Ok-Item.item c.args.sink.now c.take.new.self c.take.result (c.in-Ok-Item.is ∙ ap (λ s. Ok s) c.in-Ok-Item.field-0-is) c.next.ensures.pulls c.take.ensures c.in-Stop.is

pub returns-in-Ok-Done-clause-gives : goal.returns-in-Ok-Done-clause-gives
returns-in-Ok-Done-clause-gives g c =
    gives_done _ _ g.K.Sink.takes (state_in (g.H.HostPredicates.hosts c.args.hosts.now).predicates c.args.pipe.now (g.H.HostPredicates.hosts c.args.hosts.now).calls) (state_in (g.H.HostPredicates.hosts c.args.hosts.now).predicates c.next.new.self (g.H.HostPredicates.hosts c.next.new.hosts).calls) c.next.result c.args.sink.now (c.in-Ok-Done.is ∙ ap (λ s. Ok s) c.in-Ok-Done.field-0-is) c.next.ensures.pulls

pub returns-in-Ok-Fault-clause-gives : goal.returns-in-Ok-Fault-clause-gives
returns-in-Ok-Fault-clause-gives g c =
    gives_fault _ _ g.K.Sink.takes (state_in (g.H.HostPredicates.hosts c.args.hosts.now).predicates c.args.pipe.now (g.H.HostPredicates.hosts c.args.hosts.now).calls) (state_in (g.H.HostPredicates.hosts c.args.hosts.now).predicates c.next.new.self (g.H.HostPredicates.hosts c.next.new.hosts).calls) c.next.result c.in-Ok-Fault.fault c.args.sink.now (c.in-Ok-Fault.is ∙ ap (λ s. Ok s) c.in-Ok-Fault.field-0-is) c.next.ensures.pulls

pub returns-in-Err-clause-gives : goal.returns-in-Err-clause-gives
returns-in-Err-clause-gives g c =
    gives_none _ _ g.K.Sink.takes (state_in (g.H.HostPredicates.hosts c.args.hosts.now).predicates c.args.pipe.now (g.H.HostPredicates.hosts c.args.hosts.now).calls) (state_in (g.H.HostPredicates.hosts c.args.hosts.now).predicates c.next.new.self (g.H.HostPredicates.hosts c.next.new.hosts).calls) c.next.result c.in-Err.error c.args.sink.now c.in-Err.is c.next.ensures.pulls
