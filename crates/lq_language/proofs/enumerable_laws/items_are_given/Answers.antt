use Rattle.lq_language.proofs.EnumerableLemmas.{answers_none, keeps_first_appearances}
use Rattle.lq_language.proofs.enumerable_laws.items_are_given.Goals as goal

pub returns-clause-none : goal.returns-clause-none
returns-clause-none c start = answers_none

pub returns-clause-distinct : goal.returns-clause-distinct
returns-clause-distinct c start = keeps_first_appearances
