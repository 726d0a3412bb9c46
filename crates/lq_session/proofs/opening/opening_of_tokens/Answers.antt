use Rattle.std.proofs.Common.{sym, ◌∙◌}
use Rattle.lq_machine.specs.Opening.{opening}
use Rattle.lq_grammar.specs.declared.token.Kind.TheVariants as k
use Rattle.lq_grammar.specs.declared.token.Token.{Token}
use Rattle.lq_session.proofs.OpeningLemmas.{many_tokens, token_past, token_within}
use Rattle.lq_session.proofs.opening.opening_of_tokens.Goals as goal

-- a token past the last one
nothing : Token
nothing = record { kind = k.Name; start = 0; end = 0 }

pub returns-in_err-opened : goal.returns-in_err-opened
returns-in_err-opened c =
    c.from_residual.ensures ∙ many_tokens c.args.definitions.now c.args.line.now c.args.tokens.now (sym c.in_err-opened.was ∙ c.unopened.ensures)

pub returns-in_err-opened-2 : goal.returns-in_err-opened-2
unfolding nothing
returns-in_err-opened-2 c =
    c.from_residual-in_err-opened-2.ensures
    ∙ token_past c.args.definitions.now c.args.line.now c.args.tokens.now c.loop-token.token-index nothing c.loop-token.before c.loop-token.opened
    (opening c.args.definitions.now c.args.line.now c.args.tokens.now) c.loop-token-test.true c.loop-token.invariant.rest
    (sym c.in_err-opened-2.was ∙ c.with_token.ensures)

pub loop-token-preserved : goal.loop-token-preserved
unfolding nothing
loop-token-preserved c =
    let kept = token_within c.args.definitions.now c.args.line.now c.args.tokens.now c.loop-token.token-index nothing c.loop-token.before c.loop-token.opened
    (opening c.args.definitions.now c.args.line.now c.args.tokens.now) c.loop-token-test.true c.loop-token.invariant.rest
    c.in_ok-opened-2.opened (sym c.in_ok-opened-2.was ∙ c.with_token.ensures) in
    record { within = kept.0; rest = kept.1 }
