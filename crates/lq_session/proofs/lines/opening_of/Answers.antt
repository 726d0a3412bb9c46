-- What the tokens open is what the statement opens.
use Rattle.std.proofs.Common.{◌∙◌}
use Rattle.lq_machine.specs.Opening.{opening}
use Rattle.lq_session.specs.Openings.{within_limits}
use Rattle.lq_session.proofs.LineLemmas.{opens, opens_past}
use Rattle.lq_session.proofs.lines.opening_of.Goals as goal

pub returns-in-Some : goal.returns-in-Some
returns-in-Some c =
    opens c.args.line.now c.args.state.now.definitions c.args.tokens.now c.requires c.in-Some.opened
    (c.in-Some.ensures ∙ (λ i. within_limits (opening (c.definitions.ensures.value i) (c.as_bytes.ensures.value i) c.args.tokens.now)))

pub returns-in-None : goal.returns-in-None
returns-in-None c =
    opens_past c.args.line.now c.args.state.now.definitions c.args.tokens.now c.requires c.refusal.result
    (c.in-None.ensures ∙ (λ i. within_limits (opening (c.definitions.ensures.value i) (c.as_bytes.ensures.value i) c.args.tokens.now))) c.refusal.ensures
