use Rattle.lq_language.proofs.EnumerableLemmas.{meets_the_ending, reads_nothing, stops_at_items}
use Rattle.lq_language.proofs.enumerable_laws.sequences_are_read.Goals as goal

pub returns-clause-stops : goal.returns-clause-stops
returns-clause-stops c start = stops_at_items

pub returns-clause-endings : goal.returns-clause-endings
returns-clause-endings c start = meets_the_ending

pub returns-clause-nothing : goal.returns-clause-nothing
returns-clause-nothing c start = reads_nothing
