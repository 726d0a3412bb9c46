-- A line that says no statement is refused by its word.
use Rattle.std.proofs.Common.{◌≡◌, rules}
use Rattle.lq_grammar.specs.Reading.{IsNoSyntax, IsTooDeep, reading_of}
use Rattle.lq_session.proofs.LineLemmas.{refuses_no_syntax, refuses_too_deep}
use Rattle.lq_session.proofs.lines.statement_of.Goals as goal

pub returns-in-Err-Syntax : goal.returns-in-Err-Syntax
returns-in-Err-Syntax c =
    let read : reading_of c.args.line.now ≡ IsNoSyntax = search rules in refuses_no_syntax c.args.line.now c.refusal.result read c.refusal.ensures

pub returns-in-Err-TooDeep : goal.returns-in-Err-TooDeep
returns-in-Err-TooDeep c =
    let read : reading_of c.args.line.now ≡ IsTooDeep = search rules in
    refuses_too_deep c.args.line.now c.refusal-in-Err-TooDeep.result read c.refusal-in-Err-TooDeep.ensures
