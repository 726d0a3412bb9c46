use Rattle.std.proofs.Common.{rules}
use Rattle.lq_host.specs.AcceptedSets.{is_within_both, one_set, pair_cmp-IsAntisymmetric, pair_cmp_total}
use Rattle.lq_host.proofs.two.TwoTest.new.Goals as goal

pub returns-clause-accepted : goal.returns-clause-accepted
returns-clause-accepted g c =
    λ set by_set. one_set pair_cmp_total pair_cmp-IsAntisymmetric (is_within_both c.args.ranges) _ _ set (search rules) by_set
