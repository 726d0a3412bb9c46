use Rattle.std.proofs.Common.{rules, to_z-of_z}
use Rattle.lq_host.proofs.predicate.HostPredicate.new.Goals as goal

pub returns : goal.returns
returns g c = λ set by_set. let kept = c.new-test.ensures.accepted set (rw (to_z-of_z c.ranges.lo, to_z-of_z c.ranges.hi) by_set) in search rules
