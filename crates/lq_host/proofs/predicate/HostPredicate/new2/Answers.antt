use Rattle.std.proofs.Common.{rules}
use Rattle.lq_host.proofs.predicate.HostPredicate.new2.Goals as goal

pub returns : goal.returns
returns g c = λ set by_set. let kept = c.new-test.ensures.accepted set by_set in search rules
