use Rattle.lq_translate.proofs.AlikeTermLaws.{items_typed, streams_mean, terms_mean, terms_typed}
use Rattle.lq_translate.proofs.translation_laws.terms_and_expressions.Goals as goal

pub returns-clause-types : goal.returns-clause-types
returns-clause-types c start e names = terms_typed e names

pub returns-clause-meanings : goal.returns-clause-meanings
returns-clause-meanings c start world e scope = terms_mean world e scope

pub returns-clause-items : goal.returns-clause-items
returns-clause-items c start q names = items_typed q names

pub returns-clause-streams : goal.returns-clause-streams
returns-clause-streams c start world q scope = streams_mean world q scope
