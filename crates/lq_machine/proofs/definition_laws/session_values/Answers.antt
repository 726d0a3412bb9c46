use Rattle.lq_machine.proofs.DefinitionLaws.{names_are_known, names_have_meanings, names_have_values}
use Rattle.lq_machine.proofs.definition_laws.session_values.Goals as goal

pub returns-clause-names : goal.returns-clause-names
returns-clause-names c start = names_are_known

pub returns-clause-values : goal.returns-clause-values
returns-clause-values c start = names_have_values

pub returns-clause-meanings : goal.returns-clause-meanings
returns-clause-meanings c start = names_have_meanings
