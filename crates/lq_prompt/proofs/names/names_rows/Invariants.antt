use Rattle.std.proofs.Common.{◌≡◌, map, take}
use Rattle.lq_session.specs.States.{state_of}
use Rattle.lq_prompt.specs.Names.{name_row}
use Rattle.lq_prompt.proofs.names.names_rows.Given as goal

-- the first ones are done
abbrev pub invariant-loop-definition : goal.invariant-loop-definition
invariant-loop-definition g l = l.grid ≡ map (name_row (state_of l.session)) (take l.definition-index l.definitions)
