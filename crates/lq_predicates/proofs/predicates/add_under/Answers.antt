use Rattle.std.proofs.Common.{ℤ, Bool}
use Rattle.lq_host.proofs.AcceptedSetLaws.{answers_by_passing_pairs}
use Rattle.lq_host.specs.AcceptedSets.{AnswersBy, is_within_both}
use Rattle.lq_host.specs.Hosts.{hosts_of}
use Rattle.lq_predicates.specs.ProgramPredicates.{Computes, is_under, pairs_under, thousands, years}
use Rattle.lq_predicates.proofs.PredicateLemmas.{as_added, as_new, of_name}
use Rattle.lq_predicates.proofs.predicates.add_under.Goals as goal

by_pairs_under : (answers : ℤ × ℤ → Bool → Type 0) → Computes (is_within_both (thousands, years)) is_under answers
    → AnswersBy (is_within_both (thousands, years)) answers pairs_under
unfolding pairs_under
by_pairs_under answers computes = answers_by_passing_pairs is_under (thousands, years) answers computes.0 computes.1

pub new2-requires-clause-accepted : goal.new2-requires-clause-accepted
new2-requires-clause-accepted g c = (pairs_under, by_pairs_under _ c.requires.computes)

pub add-requires : goal.add-requires
add-requires g c =
    as_new (hosts_of c.args.hosts.now).predicates _ _ (of_name _ _ _ _ (c.in-Ok.ensures pairs_under (by_pairs_under _ c.requires.computes)) c.in_ok-name.ensures.ok) c.requires.new

pub returns-in-Ok-clause-added : goal.returns-in-Ok-clause-added
returns-in-Ok-clause-added g c =
    as_added _ _ _ _ _ (of_name _ _ _ _ (c.in-Ok.ensures pairs_under (by_pairs_under _ c.requires.computes)) c.in_ok-name.ensures.ok) c.add.ensures.added
