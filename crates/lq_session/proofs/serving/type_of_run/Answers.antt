-- A line without a statement serves nothing, and the type of a `run` is that of its statement.
use Rattle.std.proofs.Common.{◌≡◌, Err, rules}
use Rattle.lq_grammar.specs.Reading.{Nothing, reading_of}
use Rattle.lq_run.specs.States.{state_with}
use Rattle.lq_session.proofs.ServingLemmas.{says_nothing, unread}
use Rattle.lq_session.proofs.serving.type_of_run.Goals as goal

pub returns-in_err-tokens : goal.returns-in_err-tokens
returns-in_err-tokens c = λ predicates known.
    let same : c.from_residual.result ≡ Err c.in_err-tokens.field-0.0 = search rules in
    rw same (unread (state_with predicates c.args.state.now) c.args.line.now c.in_err-tokens.field-0.0 c.in_err-tokens.ensures)

pub returns-in_err-statement : goal.returns-in_err-statement
returns-in_err-statement c = λ predicates known.
    let same : c.from_residual-in_err-statement.result ≡ Err c.in_err-statement.field-0.0 = search rules in
    rw same (unread (state_with predicates c.args.state.now) c.args.line.now c.in_err-statement.field-0.0 c.in_err-statement.ensures)

pub returns : goal.returns
returns c = λ predicates known.
    let read : reading_of c.args.line.now ≡ Nothing = search rules in
    says_nothing (state_with predicates c.args.state.now) c.args.line.now read
