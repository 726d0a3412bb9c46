use Rattle.lq_host.proofs.AcceptedSetLaws.{answers_by_passing}
use Rattle.lq_predicates.specs.ProgramPredicates.{every_int, is_listed, listed_numbers}
use Rattle.lq_predicates.proofs.predicates.add_watched.Goals as goal

pub add_one-requires-clause-accepted : goal.add_one-requires-clause-accepted
unfolding listed_numbers
add_one-requires-clause-accepted g c =
    (listed_numbers c.args.list.now, answers_by_passing (is_listed c.args.list.now) every_int _ c.requires.computes.0 c.requires.computes.1)

pub returns-clause-added : goal.returns-clause-added
unfolding listed_numbers
returns-clause-added g c =
    c.add_one.ensures.added (listed_numbers c.args.list.now) (answers_by_passing (is_listed c.args.list.now) every_int _ c.requires.computes.0 c.requires.computes.1)
