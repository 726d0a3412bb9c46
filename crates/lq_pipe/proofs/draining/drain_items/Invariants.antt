use Rattle.lq_pipe.proofs.DrainLemmas.{Remains}
use Rattle.lq_pipe.proofs.draining.drain_items.Given as goal

-- What is left of the items comes to what all of them come to.
abbrev pub invariant-loop-item : goal.invariant-loop-item
invariant-loop-item g l = Remains g.K.Sink.takes (l.fn.items, l.fn.end) l.fn.sink (l.item-iterator.rest.items, l.fn.end) l.sink
