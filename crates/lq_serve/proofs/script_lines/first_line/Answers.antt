use Rattle.std.proofs.Common.{Some, ap, ◌∙◌, arith}
use Rattle.std.proofs.lemmas.Str.Pattern.{split_parts, NoCharPasses-char}
use Rattle.lq_grammar.specs.Script.{lines_of}
use Rattle.lq_grammar.proofs.ScriptLaws.{lines_of-split, lines_of-last}
use Rattle.lq_serve.proofs.script_lines.first_line.Goals as goal

pub returns-in-Some-clause-lines : goal.returns-in-Some-clause-lines
returns-in-Some-clause-lines c =
    let parts = split_parts 10 c.args.text.now (Some (c.in-Some.line, c.in-Some.rest)) c.in-Some.ensures.cases (omega arith) in
    ap lines_of parts.0 ∙ lines_of-split c.in-Some.line.now c.in-Some.rest.now parts.1

pub returns-in-None-clause-lines : goal.returns-in-None-clause-lines
returns-in-None-clause-lines c =
    lines_of-last c.args.text.now c.requires (λ i below. NoCharPasses-char 10 c.args.text.now i c.in-None.ensures.cases (omega arith) below)
