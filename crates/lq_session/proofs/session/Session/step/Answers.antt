-- A step is answered by its reply; where memory was refused the machine's state is as it was. The calls that were made are in the log.
use Rattle.std.proofs.Common.{◌≡◌, [], Some, ap, rules}
use Rattle.lq_grammar.specs.Tokens.{tokens_of}
use Rattle.lq_session.specs.States.{hosts_in, state_of}
use Rattle.lq_session.proofs.StepLemmas.{answers_refused, answers_stepped, answers_stopped}
use Rattle.lq_session.proofs.session.Session.step.Goals as goal

pub returns-in-Ok : goal.returns-in-Ok
returns-in-Ok g c =
    answers_stepped (state_of c.args.self.now) c.args.line.now (hosts_in c.args.self.now) (hosts_in c.answer.new.self) c.answer.ensures.calls
    c.answer.ensures.predicates (state_of c.answer.new.self) c.in-Ok.reply c.in-Ok.ensures.steps

pub returns-in-Err-Answer : goal.returns-in-Err-Answer
returns-in-Err-Answer g c =
    let stops = rw c.in-Err-Answer.field-0-is at c.in-Err-Answer.ensures.steps in
    answers_stopped (state_of c.args.self.now) c.args.line.now (hosts_in c.args.self.now) (hosts_in c.answer.new.self) c.answer.ensures.calls
    c.answer.ensures.predicates (state_of c.answer.new.self) c.in-Err-Answer.reply stops

pub returns-in-Err-Memory : goal.returns-in-Err-Memory
returns-in-Err-Memory g c =
    let met : tokens_of c.args.line.now ≡ Some [] → ⊥ = search rules in
    let stays = rw c.in-Err-Memory.field-0-is at c.in-Err-Memory.ensures.steps in
    answers_refused (state_of c.args.self.now) c.args.line.now (hosts_in c.args.self.now) (hosts_in c.answer.new.self) c.answer.ensures.calls
    c.answer.ensures.predicates (state_of c.answer.new.self) met (Some c.memory.result) (ap Some c.memory.ensures) stays
