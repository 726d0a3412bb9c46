use Rattle.std.proofs.Common.{◌≡◌, take}
use Rattle.lq_plan.specs.Leading.{GiveCells, bodies_of, forms_of}
use Rattle.lq_plan.proofs.sources.Sources.key_lambdas.Given as goal

-- a lambda for each key so far
abbrev pub invariant-loop-key : goal.invariant-loop-key
invariant-loop-key g l =
    record {
      bodies : bodies_of l.lambdas.items ≡ forms_of (take l.key-index l.keys);
      cells : GiveCells l.fn.self l.fn.slots l.lambdas.items;
    }
