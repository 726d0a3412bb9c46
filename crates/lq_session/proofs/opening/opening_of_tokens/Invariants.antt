use Rattle.std.proofs.Common.{◌≡◌, drop, false}
use Rattle.lq_machine.specs.Opening.{is_past_opening, opened_from, opening}
use Rattle.lq_session.specs.Openings.{opened_with}
use Rattle.lq_session.proofs.opening.opening_of_tokens.Given as goal

-- what is opened so far is within the limits, and with what the tokens that are left open it is what all of them open
abbrev pub invariant-loop-token : goal.invariant-loop-token
invariant-loop-token l = record {
  within : is_past_opening l.opened ≡ false;
  rest : opened_with l.opened (opened_from l.definitions l.line l.before (drop l.token-index l.tokens)) ≡ opening l.definitions l.line l.tokens;
}
