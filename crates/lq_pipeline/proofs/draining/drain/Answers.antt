-- Each pull goes on from where the last one has left the pipe.
use Rattle.std.proofs.Common.{◌∙◌, Ok, Err, ap, refl}
use Rattle.lq_pull.specs.Views.{world_seen}
use Rattle.lq_pipeline.specs.Pipes.{form_of_pipe, sight_of_pipe, state_in}
use Rattle.lq_pipeline.proofs.DrainLemmas.{drained, drained_none, extends_itself, fewer, gives_over, goes_on}
use Rattle.lq_pipeline.proofs.DrainLaws.{drains_give}
use Rattle.lq_pipeline.proofs.draining.drain.Goals as goal

pub loop-end-init : goal.loop-end-init
loop-end-init g c = record {
  extends = extends_itself (world_seen (sight_of_pipe c.args.pipe.now) (g.H.HostPredicates.hosts c.args.hosts.now).predicates) (form_of_pipe c.args.pipe.now) g.K.Sink.takes (state_in (g.H.HostPredicates.hosts c.args.hosts.now).predicates c.args.pipe.now (g.H.HostPredicates.hosts c.args.hosts.now).calls) c.args.sink.now;
  sight = refl;
  form = refl;
  predicates = refl;
  ready = c.requires;
}

pub loop-end-preserved : goal.loop-end-preserved
loop-end-preserved g c =
    let gives = gives_over g.K.Sink.takes (sight_of_pipe c.loop-end.pipe) (sight_of_pipe c.args.pipe.now) (form_of_pipe c.loop-end.pipe) (form_of_pipe c.args.pipe.now)
    (g.H.HostPredicates.hosts c.loop-end.hosts).predicates (g.H.HostPredicates.hosts c.args.hosts.now).predicates c.loop-end.invariant.sight c.loop-end.invariant.form c.loop-end.invariant.predicates
    (λ p. state_in p c.loop-end.pipe (g.H.HostPredicates.hosts c.loop-end.hosts).calls)
    (λ p. state_in p c.give_next.new.pipe (g.H.HostPredicates.hosts c.give_next.new.hosts).calls) c.loop-end.sink c.give_next.new.sink c.give_next.result
    c.give_next.ensures.gives in
    record {
      extends = goes_on (world_seen (sight_of_pipe c.args.pipe.now) (g.H.HostPredicates.hosts c.args.hosts.now).predicates) (form_of_pipe c.args.pipe.now) g.K.Sink.takes (state_in (g.H.HostPredicates.hosts c.args.hosts.now).predicates c.args.pipe.now (g.H.HostPredicates.hosts c.args.hosts.now).calls)
          (state_in (g.H.HostPredicates.hosts c.args.hosts.now).predicates c.loop-end.pipe (g.H.HostPredicates.hosts c.loop-end.hosts).calls) (state_in (g.H.HostPredicates.hosts c.args.hosts.now).predicates c.give_next.new.pipe (g.H.HostPredicates.hosts c.give_next.new.hosts).calls)
          c.args.sink.now c.loop-end.sink c.give_next.new.sink c.give_next.result (c.in-Ok-None.is ∙ ap (λ s. Ok s) c.in-Ok-None.field-0-is) c.loop-end.invariant.extends gives;
      sight = c.give_next.ensures.sight ∙ c.loop-end.invariant.sight;
      form = c.give_next.ensures.form ∙ c.loop-end.invariant.form;
      predicates = c.give_next.ensures.predicates ∙ c.loop-end.invariant.predicates;
      ready = c.give_next.ensures.ready;
    }

pub loop-end-smaller : goal.loop-end-smaller
loop-end-smaller g c =
    let gives = gives_over g.K.Sink.takes (sight_of_pipe c.loop-end.pipe) (sight_of_pipe c.args.pipe.now) (form_of_pipe c.loop-end.pipe) (form_of_pipe c.args.pipe.now)
    (g.H.HostPredicates.hosts c.loop-end.hosts).predicates (g.H.HostPredicates.hosts c.args.hosts.now).predicates c.loop-end.invariant.sight c.loop-end.invariant.form c.loop-end.invariant.predicates
    (λ p. state_in p c.loop-end.pipe (g.H.HostPredicates.hosts c.loop-end.hosts).calls)
    (λ p. state_in p c.give_next.new.pipe (g.H.HostPredicates.hosts c.give_next.new.hosts).calls) c.loop-end.sink c.give_next.new.sink c.give_next.result
    c.give_next.ensures.gives in
    fewer (world_seen (sight_of_pipe c.args.pipe.now) (g.H.HostPredicates.hosts c.args.hosts.now).predicates) (form_of_pipe c.args.pipe.now) g.K.Sink.takes (state_in (g.H.HostPredicates.hosts c.args.hosts.now).predicates c.loop-end.pipe (g.H.HostPredicates.hosts c.loop-end.hosts).calls)
    (state_in (g.H.HostPredicates.hosts c.args.hosts.now).predicates c.give_next.new.pipe (g.H.HostPredicates.hosts c.give_next.new.hosts).calls) c.loop-end.sink c.give_next.new.sink c.give_next.result
    (c.in-Ok-None.is ∙ ap (λ s. Ok s) c.in-Ok-None.field-0-is) gives

pub returns-in-Ok-Some-clause-drains : goal.returns-in-Ok-Some-clause-drains
returns-in-Ok-Some-clause-drains g c =
    let gives = gives_over g.K.Sink.takes (sight_of_pipe c.loop-end.pipe) (sight_of_pipe c.args.pipe.now) (form_of_pipe c.loop-end.pipe) (form_of_pipe c.args.pipe.now)
    (g.H.HostPredicates.hosts c.loop-end.hosts).predicates (g.H.HostPredicates.hosts c.args.hosts.now).predicates c.loop-end.invariant.sight c.loop-end.invariant.form c.loop-end.invariant.predicates
    (λ p. state_in p c.loop-end.pipe (g.H.HostPredicates.hosts c.loop-end.hosts).calls)
    (λ p. state_in p c.give_next.new.pipe (g.H.HostPredicates.hosts c.give_next.new.hosts).calls) c.loop-end.sink c.give_next.new.sink c.give_next.result
    c.give_next.ensures.gives in
    drained (world_seen (sight_of_pipe c.args.pipe.now) (g.H.HostPredicates.hosts c.args.hosts.now).predicates) (form_of_pipe c.args.pipe.now) g.K.Sink.takes (state_in (g.H.HostPredicates.hosts c.args.hosts.now).predicates c.args.pipe.now (g.H.HostPredicates.hosts c.args.hosts.now).calls)
    (state_in (g.H.HostPredicates.hosts c.args.hosts.now).predicates c.loop-end.pipe (g.H.HostPredicates.hosts c.loop-end.hosts).calls) (state_in (g.H.HostPredicates.hosts c.args.hosts.now).predicates c.give_next.new.pipe (g.H.HostPredicates.hosts c.give_next.new.hosts).calls)
    c.args.sink.now c.loop-end.sink c.give_next.new.sink c.give_next.result c.in-Ok-Some.end (c.in-Ok-Some.is ∙ ap (λ s. Ok s) c.in-Ok-Some.field-0-is) c.loop-end.invariant.extends gives

pub returns-in-Ok-Some-clause-gives : goal.returns-in-Ok-Some-clause-gives
returns-in-Ok-Some-clause-gives g c = λ place at.
    drains_give g.K.Sink.takes (world_seen (sight_of_pipe c.args.pipe.now) (g.H.HostPredicates.hosts c.args.hosts.now).predicates) (form_of_pipe c.args.pipe.now) place (state_in (g.H.HostPredicates.hosts c.args.hosts.now).predicates c.args.pipe.now (g.H.HostPredicates.hosts c.args.hosts.now).calls)
    (state_in (g.H.HostPredicates.hosts c.args.hosts.now).predicates c.give_next.new.pipe (g.H.HostPredicates.hosts c.give_next.new.hosts).calls) c.args.sink.now c.give_next.new.sink (Ok c.in-Ok-Some.end) at (returns-in-Ok-Some-clause-drains g c)

pub returns-in-Ok-Some-clause-sight : goal.returns-in-Ok-Some-clause-sight
returns-in-Ok-Some-clause-sight g c = c.give_next.ensures.sight ∙ c.loop-end.invariant.sight

pub returns-in-Ok-Some-clause-form : goal.returns-in-Ok-Some-clause-form
returns-in-Ok-Some-clause-form g c = c.give_next.ensures.form ∙ c.loop-end.invariant.form

pub returns-in-Ok-Some-clause-predicates : goal.returns-in-Ok-Some-clause-predicates
returns-in-Ok-Some-clause-predicates g c = c.give_next.ensures.predicates ∙ c.loop-end.invariant.predicates

pub returns-in-Err-clause-drains : goal.returns-in-Err-clause-drains
returns-in-Err-clause-drains g c =
    let gives = gives_over g.K.Sink.takes (sight_of_pipe c.loop-end.pipe) (sight_of_pipe c.args.pipe.now) (form_of_pipe c.loop-end.pipe) (form_of_pipe c.args.pipe.now)
    (g.H.HostPredicates.hosts c.loop-end.hosts).predicates (g.H.HostPredicates.hosts c.args.hosts.now).predicates c.loop-end.invariant.sight c.loop-end.invariant.form c.loop-end.invariant.predicates
    (λ p. state_in p c.loop-end.pipe (g.H.HostPredicates.hosts c.loop-end.hosts).calls)
    (λ p. state_in p c.give_next.new.pipe (g.H.HostPredicates.hosts c.give_next.new.hosts).calls) c.loop-end.sink c.give_next.new.sink c.give_next.result
    c.give_next.ensures.gives in
    drained_none (world_seen (sight_of_pipe c.args.pipe.now) (g.H.HostPredicates.hosts c.args.hosts.now).predicates) (form_of_pipe c.args.pipe.now) g.K.Sink.takes (state_in (g.H.HostPredicates.hosts c.args.hosts.now).predicates c.args.pipe.now (g.H.HostPredicates.hosts c.args.hosts.now).calls)
    (state_in (g.H.HostPredicates.hosts c.args.hosts.now).predicates c.loop-end.pipe (g.H.HostPredicates.hosts c.loop-end.hosts).calls) (state_in (g.H.HostPredicates.hosts c.args.hosts.now).predicates c.give_next.new.pipe (g.H.HostPredicates.hosts c.give_next.new.hosts).calls)
    c.args.sink.now c.loop-end.sink c.give_next.new.sink c.give_next.result c.in-Err.error c.in-Err.is c.loop-end.invariant.extends gives

pub returns-in-Err-clause-gives : goal.returns-in-Err-clause-gives
returns-in-Err-clause-gives g c = λ place at.
    drains_give g.K.Sink.takes (world_seen (sight_of_pipe c.args.pipe.now) (g.H.HostPredicates.hosts c.args.hosts.now).predicates) (form_of_pipe c.args.pipe.now) place (state_in (g.H.HostPredicates.hosts c.args.hosts.now).predicates c.args.pipe.now (g.H.HostPredicates.hosts c.args.hosts.now).calls)
    (state_in (g.H.HostPredicates.hosts c.args.hosts.now).predicates c.give_next.new.pipe (g.H.HostPredicates.hosts c.give_next.new.hosts).calls) c.args.sink.now c.give_next.new.sink (Err c.in-Err.error) at (returns-in-Err-clause-drains g c)

pub returns-in-Err-clause-sight : goal.returns-in-Err-clause-sight
returns-in-Err-clause-sight g c = c.give_next.ensures.sight ∙ c.loop-end.invariant.sight

pub returns-in-Err-clause-form : goal.returns-in-Err-clause-form
returns-in-Err-clause-form g c = c.give_next.ensures.form ∙ c.loop-end.invariant.form

pub returns-in-Err-clause-predicates : goal.returns-in-Err-clause-predicates
returns-in-Err-clause-predicates g c = c.give_next.ensures.predicates ∙ c.loop-end.invariant.predicates
