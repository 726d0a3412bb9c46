-- What comes of the pipe from here on comes of it from the first on.
use Rattle.std.proofs.Common.{◌≡◌}
use Rattle.lq_pull.specs.Views.{world_seen}
use Rattle.lq_pipeline.specs.Pipes.{IsPipe, form_of_pipe, place_in, sight_of_pipe, state_in}
use Rattle.lq_pipeline.proofs.DrainLemmas.{Extends, items_to_come_in}
use Rattle.lq_pipeline.proofs.draining.drain.Given as goal

abbrev pub invariant-loop-end : goal.invariant-loop-end
invariant-loop-end g l =
    record {
      extends : Extends (world_seen (sight_of_pipe l.fn.pipe) (g.H.HostPredicates.hosts l.fn.hosts).predicates) (form_of_pipe l.fn.pipe) g.K.Sink.takes
          (state_in (g.H.HostPredicates.hosts l.fn.hosts).predicates l.fn.pipe (g.H.HostPredicates.hosts l.fn.hosts).calls) l.fn.sink
          (state_in (g.H.HostPredicates.hosts l.fn.hosts).predicates l.pipe (g.H.HostPredicates.hosts l.hosts).calls) l.sink;
      sight : sight_of_pipe l.pipe ≡ sight_of_pipe l.fn.pipe;
      form : form_of_pipe l.pipe ≡ form_of_pipe l.fn.pipe;
      predicates : (g.H.HostPredicates.hosts l.hosts).predicates ≡ (g.H.HostPredicates.hosts l.fn.hosts).predicates;
      ready : IsPipe l.pipe;
    }

abbrev pub decreases-loop-end : goal.decreases-loop-end
decreases-loop-end g l = items_to_come_in (place_in (g.H.HostPredicates.hosts l.fn.hosts).predicates l.pipe)
