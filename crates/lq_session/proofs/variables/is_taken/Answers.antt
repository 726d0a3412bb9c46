-- A name is taken by a table, or else by a definition.
use Rattle.std.proofs.Common.{◌∙◌}
use Rattle.lq_machine.specs.Definitions.{definition_of}
use Rattle.lq_run.specs.States.{without_hosts}
use Rattle.lq_session.proofs.TableLemmas.{number_same}
use Rattle.lq_session.proofs.VariableLemmas.{taken_by_definition, taken_by_table, there_too}
use Rattle.lq_session.proofs.variables.is_taken.Goals as goal

pub returns-then-is_some : goal.returns-then-is_some
returns-then-is_some c =
    taken_by_table (without_hosts c.args.state.now) c.args.name.now c.find.result
    (number_same (without_hosts c.args.state.now) c.store.result.now c.store.ensures.value c.args.name.now c.find.result c.find.ensures.value) c.is_some.result
    c.is_some.ensures c.if-is_some.true

pub returns-else-is_some : goal.returns-else-is_some
returns-else-is_some c =
    taken_by_definition (without_hosts c.args.state.now) c.args.name.now c.find.result
    (number_same (without_hosts c.args.state.now) c.store.result.now c.store.ensures.value c.args.name.now c.find.result c.find.ensures.value) c.is_some.result
    c.is_some-else-is_some.result _ c.is_some.ensures c.if-is_some.false
    (c.definition_of.ensures ∙ (λ i. definition_of (c.as_bytes.ensures.value i) (c.definitions.ensures.value i)))
    (c.is_some-else-is_some.ensures ∙ there_too (λ d. d.now) c.definition_of.result)
