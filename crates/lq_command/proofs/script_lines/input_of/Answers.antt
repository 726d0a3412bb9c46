use Rattle.std.proofs.Common.{arith, sym, subst, take}
use Rattle.std.proofs.lemmas.List.{take_all, take_more}
use Rattle.lq_command.specs.Inputs.{IsDraft, IsInput}
use Rattle.lq_command.proofs.script_lines.input_of.Goals as goal

pub loop-byte-preserved : goal.loop-byte-preserved
loop-byte-preserved c =
    subst (λ l. IsDraft l c.add.new.self) (sym (take_more c.args.line.now c.loop-byte.byte-index 0 (omega arith)))
    (c.add.ensures (take c.loop-byte.byte-index c.args.line.now) c.loop-byte.invariant)

pub returns : goal.returns
returns c =
    subst (λ l. IsInput l c.finish.result) (take_all c.loop-byte.byte-index c.args.line.now (omega arith))
    (c.finish.ensures.input (take c.loop-byte.byte-index c.args.line.now) c.loop-byte.invariant)
