-- Each variable is of a scalar's type.
use Rattle.std.proofs.Common.{◌∙◌, [], sym}
use Rattle.lq_machine.specs.Definitions.{definition_of}
use Rattle.lq_machine.specs.States.{schemas_of}
use Rattle.lq_machine.proofs.KeptDefinitionLaws.{variable_scalar}
use Rattle.lq_run.specs.States.{without_hosts}
use Rattle.lq_session.proofs.variables.variable_type.Goals as goal

pub returns-in-Variable-clause-scalar : goal.returns-in-Variable-clause-scalar
returns-in-Variable-clause-scalar c =
    variable_scalar c.args.name.now (schemas_of c.args.state.now.tables) c.args.state.now.policies.predicates c.in-Variable.ty c.in-Variable.field-1
    (without_hosts c.args.state.now) [] c.args.state.now.definitions c.definitions.ensures.defined c.in_ok-ty.field-0.now c.in-Variable.field-1
    ((λ i. definition_of (sym c.as_bytes.ensures.value i) (sym c.definitions.ensures.value i)) ∙ sym c.in_ok-ty.ensures) c.in-Variable.is
