use Rattle.std.proofs.Common.{rules}
use Rattle.std.specs.Cmp.{int_cmp_total}
use Rattle.std.specs.FinSet.{int_cmp-IsAntisymmetric}
use Rattle.lq_host.specs.AcceptedSets.{is_within, one_set}
use Rattle.lq_host.proofs.one.OneTest.new.Goals as goal

pub returns-clause-accepted : goal.returns-clause-accepted
returns-clause-accepted g c =
    λ set by_set. one_set int_cmp_total int_cmp-IsAntisymmetric (is_within c.args.range) _ _ set (search rules) by_set
