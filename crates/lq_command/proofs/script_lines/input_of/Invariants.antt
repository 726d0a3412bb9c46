use Rattle.std.proofs.Common.{take}
use Rattle.lq_command.specs.Inputs.{IsDraft}
use Rattle.lq_command.proofs.script_lines.input_of.Given as goal

abbrev pub invariant-loop-byte : goal.invariant-loop-byte
invariant-loop-byte l = IsDraft (take l.byte-index l.line) l.draft
