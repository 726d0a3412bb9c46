use Rattle.lq_language.proofs.EnumerableLemmas.{compares_all, sums_in_turn}
use Rattle.lq_language.proofs.enumerable_laws.numbers_are_summed.Goals as goal

pub returns-clause-sums : goal.returns-clause-sums
returns-clause-sums c = sums_in_turn

pub returns-clause-extremes : goal.returns-clause-extremes
returns-clause-extremes c = compares_all
