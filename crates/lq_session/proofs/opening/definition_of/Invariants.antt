use Rattle.std.proofs.Common.{◌≡◌, drop}
use Rattle.lq_machine.specs.Definitions.{definition_of}
use Rattle.lq_session.proofs.opening.definition_of.Given as goal

-- the name is looked for among the definitions that are left
abbrev pub invariant-loop-definition : goal.invariant-loop-definition
invariant-loop-definition l = definition_of l.name (drop l.definition-index l.definitions) ≡ definition_of l.name l.definitions
