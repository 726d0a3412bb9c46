-- An expression is served by the type of its tree, and by none where its statement stops before.
use Rattle.std.proofs.Common.{◌≡◌, Err, rules}
use Rattle.lq_grammar.specs.Reading.{Says, reading_of}
use Rattle.lq_grammar.specs.declared.syntax.Statement.TheVariants as statement
use Rattle.lq_run.specs.States.{state_with}
use Rattle.lq_session.proofs.ServingLemmas.{past, served_of, serves_none, serves_only_runs, unserved}
use Rattle.lq_session.proofs.serving.type_of_statement.Goals as goal

pub returns-in_default : goal.returns-in_default
returns-in_default c = λ predicates known.
    let s = state_with predicates c.args.state.now in
    serves_none s c.args.line.now c.args.statement.now c.requires.says (serves_only_runs s c.args.statement.now c.in_default.not-Run)

pub returns-in_err-opened : goal.returns-in_err-opened
returns-in_err-opened c = λ predicates known.
    let read : reading_of c.args.line.now ≡ Says (statement.Run c.in-Run.expr) = search rules in
    let same : c.from_residual.result ≡ Err c.in_err-opened.field-0.0 = search rules in
    rw same (past (state_with predicates c.args.state.now) c.args.line.now (statement.Run c.in-Run.expr) read c.in_err-opened.field-0.0 c.in_err-opened.ensures)

pub returns-in_err-tree : goal.returns-in_err-tree
returns-in_err-tree c = λ predicates known.
    let read : reading_of c.args.line.now ≡ Says (statement.Run c.in-Run.expr) = search rules in
    let same : c.from_residual-in_err-tree.result ≡ Err c.in_err-tree.field-0.0 = search rules in
    rw same (unserved (state_with predicates c.args.state.now) c.args.line.now c.in-Run.expr read c.in_ok-opened.opened c.in_ok-opened.ensures c.in_err-tree.field-0.0
    (c.in_err-tree.ensures predicates known))

pub returns : goal.returns
returns c = λ predicates known.
    let read : reading_of c.args.line.now ≡ Says (statement.Run c.in-Run.expr) = search rules in
    served_of (state_with predicates c.args.state.now) c.args.line.now c.in-Run.expr read c.in_ok-opened.opened c.in_ok-opened.ensures c.in_ok-tree.tree c.ty.result.now
    c.in_ok-answer.field-0 (c.in_ok-tree.ensures predicates known) c.ty.ensures c.in_ok-answer.ensures
