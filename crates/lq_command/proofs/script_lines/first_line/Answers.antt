use Rattle.std.proofs.Common.{◌+◌, ◌==◌, sym}
use Rattle.std.proofs.lemmas.List.{take_rest}
use Rattle.lq_command.proofs.LineLemmas.{lines-at, lines-uncut, position-None}
use Rattle.lq_command.proofs.script_lines.first_line.Goals as goal

pub returns-in-Some-clause-lines : goal.returns-in-Some-clause-lines
returns-in-Some-clause-lines c =
    rw (take_rest c.args.bytes.now (c.in-Some.feed + 1)) (lines-at c.args.bytes.now c.in-Some.feed (sym c.in-Some.ensures.value))

pub returns-in-None-clause-lines : goal.returns-in-None-clause-lines
returns-in-None-clause-lines c =
    lines-uncut c.args.bytes.now c.requires (position-None (λ b. b == 10) c.args.bytes.now (sym c.in-None.ensures.value))
