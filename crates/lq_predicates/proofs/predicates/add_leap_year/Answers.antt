use Rattle.lq_host.proofs.AcceptedSetLaws.{answers_by_passing}
use Rattle.lq_predicates.specs.ProgramPredicates.{is_leap_year, leap_years, years}
use Rattle.lq_predicates.proofs.predicates.add_leap_year.Goals as goal

pub add_one-requires-clause-accepted : goal.add_one-requires-clause-accepted
unfolding leap_years
add_one-requires-clause-accepted g c = (leap_years, answers_by_passing is_leap_year years _ c.requires.computes.0 c.requires.computes.1)

pub returns-clause-added : goal.returns-clause-added
unfolding leap_years
returns-clause-added g c = c.add_one.ensures.added leap_years (answers_by_passing is_leap_year years _ c.requires.computes.0 c.requires.computes.1)
